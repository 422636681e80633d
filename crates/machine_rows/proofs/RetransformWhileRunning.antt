-- The row retransform while running, computed.
use Rattle.std.proofs.Common.{◌≡◌, Some, refl}
use Rattle.ti_ids.specs.declared.actor.End.TheVariants.{Dead}
use Rattle.machine_steps.specs.Picks.{picked}
use Rattle.machine_steps.specs.Ends.{end}
use Rattle.machine_steps.specs.Replay.{state}
use Rattle.machine_steps.specs.Reports.{report}
use Rattle.machine_rows.specs.AgentRows.{running, running_schedule, running_text, RetransformWhileRunning}
use Rattle.machine_rows.proofs.Computing.{computing}

-- the schedule that one worker picks
pub schedule : picked running.job.limits.slice running ≡ running_schedule
unfolding computing
schedule = refl

-- how it ends
pub ends : end running (state running running_schedule) ≡ Some Dead
unfolding computing
ends = refl

-- what is written of it
pub text : report running running_schedule (Some Dead) ≡ running_text
unfolding computing
text = refl

pub row : RetransformWhileRunning
row = record { picks = schedule; ends = ends; writes = text }
