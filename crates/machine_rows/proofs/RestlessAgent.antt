-- The row restless agent, computed.
use Rattle.std.proofs.Common.{◌≡◌, Some, refl}
use Rattle.ti_ids.specs.declared.actor.End.TheVariants.{StepLimit}
use Rattle.machine_steps.specs.Picks.{picked}
use Rattle.machine_steps.specs.Ends.{end}
use Rattle.machine_steps.specs.Replay.{state}
use Rattle.machine_steps.specs.Reports.{report}
use Rattle.machine_rows.specs.HookRows.{restless, restless_schedule, restless_text, RestlessAgent}
use Rattle.machine_rows.proofs.Computing.{computing}

-- the schedule that one worker picks
pub schedule : picked restless.job.limits.slice restless ≡ restless_schedule
unfolding computing
schedule = refl

-- how it ends
pub ends : end restless (state restless restless_schedule) ≡ Some StepLimit
unfolding computing
ends = refl

-- what is written of it
pub text : report restless restless_schedule (Some StepLimit) ≡ restless_text
unfolding computing
text = refl

pub row : RestlessAgent
row = record { picks = schedule; ends = ends; writes = text }
