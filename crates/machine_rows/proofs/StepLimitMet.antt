-- The row step limit, computed.
use Rattle.std.proofs.Common.{◌≡◌, Some, refl}
use Rattle.ti_ids.specs.declared.actor.End.TheVariants.{StepLimit}
use Rattle.machine_steps.specs.Picks.{picked}
use Rattle.machine_steps.specs.Ends.{end}
use Rattle.machine_steps.specs.Replay.{state}
use Rattle.machine_steps.specs.Reports.{report}
use Rattle.machine_rows.specs.LimitRows.{limit, limit_schedule, limit_text, StepLimitMet}
use Rattle.machine_rows.proofs.Computing.{computing}

-- the schedule that one worker picks
pub schedule : picked limit.job.limits.slice limit ≡ limit_schedule
unfolding computing
schedule = refl

-- how it ends
pub ends : end limit (state limit limit_schedule) ≡ Some StepLimit
unfolding computing
ends = refl

-- what is written of it
pub text : report limit limit_schedule (Some StepLimit) ≡ limit_text
unfolding computing
text = refl

pub row : StepLimitMet
row = record { picks = schedule; ends = ends; writes = text }
