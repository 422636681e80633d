-- The row add isub prints minus one, computed.
use Rattle.std.proofs.Common.{◌≡◌, Some, refl}
use Rattle.ti_ids.specs.declared.actor.End.TheVariants.{Dead}
use Rattle.machine_steps.specs.Picks.{picked}
use Rattle.machine_steps.specs.Ends.{end}
use Rattle.machine_steps.specs.Replay.{state}
use Rattle.machine_steps.specs.Reports.{report}
use Rattle.machine_rows.specs.LimitRows.{isub, isub_schedule, isub_text, AddIsubPrintsMinusOne}
use Rattle.machine_rows.proofs.Computing.{computing}

-- the schedule that one worker picks
pub schedule : picked isub.job.limits.slice isub ≡ isub_schedule
unfolding computing
schedule = refl

-- how it ends
pub ends : end isub (state isub isub_schedule) ≡ Some Dead
unfolding computing
ends = refl

-- what is written of it
pub text : report isub isub_schedule (Some Dead) ≡ isub_text
unfolding computing
text = refl

pub row : AddIsubPrintsMinusOne
row = record { picks = schedule; ends = ends; writes = text }
