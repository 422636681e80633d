use Rattle.machine_rows.proofs.RetransformWhileRunning.{row as running_row}
use Rattle.machine_rows.proofs.EitherSettingEnables.{row as either_row}
use Rattle.machine_rows.proofs.computed.agent_rows.Goals as goal

pub returns-clause-running : goal.returns-clause-running
returns-clause-running c = running_row

pub returns-clause-either : goal.returns-clause-either
returns-clause-either c = either_row
