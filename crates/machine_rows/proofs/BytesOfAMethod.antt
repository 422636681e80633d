-- The row bytes of a method, computed.
use Rattle.std.proofs.Common.{◌≡◌, Some, refl}
use Rattle.ti_ids.specs.declared.actor.End.TheVariants.{Dead}
use Rattle.machine_steps.specs.Picks.{picked}
use Rattle.machine_steps.specs.Ends.{end}
use Rattle.machine_steps.specs.Replay.{state}
use Rattle.machine_steps.specs.Reports.{report}
use Rattle.machine_rows.specs.CallRows.{bytes, bytes_schedule, bytes_text, BytesOfAMethod}
use Rattle.machine_rows.proofs.Computing.{computing}

-- the schedule that one worker picks
pub schedule : picked bytes.job.limits.slice bytes ≡ bytes_schedule
unfolding computing
schedule = refl

-- how it ends
pub ends : end bytes (state bytes bytes_schedule) ≡ Some Dead
unfolding computing
ends = refl

-- what is written of it
pub text : report bytes bytes_schedule (Some Dead) ≡ bytes_text
unfolding computing
text = refl

pub row : BytesOfAMethod
row = record { picks = schedule; ends = ends; writes = text }
