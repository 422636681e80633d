-- The row step limit not met, computed.
use Rattle.std.proofs.Common.{◌≡◌, Some, refl}
use Rattle.ti_ids.specs.declared.actor.End.TheVariants.{Dead}
use Rattle.machine_steps.specs.Picks.{picked}
use Rattle.machine_steps.specs.Ends.{end}
use Rattle.machine_steps.specs.Replay.{state}
use Rattle.machine_steps.specs.Reports.{report}
use Rattle.machine_rows.specs.LimitRows.{exact, exact_schedule, exact_text, StepLimitNotMet}
use Rattle.machine_rows.proofs.Computing.{computing}

-- the schedule that one worker picks
pub schedule : picked exact.job.limits.slice exact ≡ exact_schedule
unfolding computing
schedule = refl

-- how it ends
pub ends : end exact (state exact exact_schedule) ≡ Some Dead
unfolding computing
ends = refl

-- what is written of it
pub text : report exact exact_schedule (Some Dead) ≡ exact_text
unfolding computing
text = refl

pub row : StepLimitNotMet
row = record { picks = schedule; ends = ends; writes = text }
