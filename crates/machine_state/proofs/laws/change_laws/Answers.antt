use Rattle.machine_state.proofs.SharesStay.{changes_one_part}
use Rattle.machine_state.proofs.BirthsApart.{births_apart}
use Rattle.machine_state.proofs.laws.change_laws.Goals as goal

pub returns-clause-parts : goal.returns-clause-parts
returns-clause-parts c = changes_one_part

pub returns-clause-births : goal.returns-clause-births
returns-clause-births c = births_apart
