use Rattle.type_handlers.proofs.Places.{list_all-covering}
use Rattle.type_handlers.proofs.laws.covering_laws.Goals as goal

pub returns : goal.returns
returns c = list_all-covering
