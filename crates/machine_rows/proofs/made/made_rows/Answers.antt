use Rattle.machine_rows.proofs.MadePrintsLast.{row}
use Rattle.machine_rows.proofs.made.made_rows.Goals as goal

pub returns : goal.returns
returns c = row
