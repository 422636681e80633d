use Rattle.machine_state.proofs.KeepingCode.{keeps_code}
use Rattle.machine_state.proofs.EnvironmentLaws.{tags_stay, tags_as_set, masks_as_set}
use Rattle.machine_state.proofs.LogLaws.{logs_grow}
use Rattle.machine_state.proofs.laws.state_laws.Goals as goal

pub returns-clause-code : goal.returns-clause-code
returns-clause-code c = keeps_code

pub returns-clause-tags : goal.returns-clause-tags
returns-clause-tags c = tags_stay

pub returns-clause-tagged : goal.returns-clause-tagged
returns-clause-tagged c = tags_as_set

pub returns-clause-masks : goal.returns-clause-masks
returns-clause-masks c = masks_as_set

pub returns-clause-logs : goal.returns-clause-logs
returns-clause-logs c = logs_grow
