use Rattle.machine_rows.proofs.AddIsubPrintsMinusOne.{row as isub_row}
use Rattle.machine_rows.proofs.StepLimitMet.{row as limit_row}
use Rattle.machine_rows.proofs.StepLimitNotMet.{row as exact_row}
use Rattle.machine_rows.proofs.VerifyErrorThrown.{row as verify_row}
use Rattle.machine_rows.proofs.computed.limit_rows.Goals as goal

pub returns-clause-isub : goal.returns-clause-isub
returns-clause-isub c = isub_row

pub returns-clause-limit : goal.returns-clause-limit
returns-clause-limit c = limit_row

pub returns-clause-exact : goal.returns-clause-exact
returns-clause-exact c = exact_row

pub returns-clause-verify : goal.returns-clause-verify
returns-clause-verify c = verify_row
