use Rattle.redefine_check.proofs.Itself.{is_itself}
use Rattle.redefine_check.proofs.laws.equivalence_laws.Goals as goal

pub returns : goal.returns
returns c = is_itself
