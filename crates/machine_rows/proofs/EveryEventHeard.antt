-- The row every event heard, computed.
use Rattle.std.proofs.Common.{◌≡◌, Some, refl}
use Rattle.ti_ids.specs.declared.actor.End.TheVariants.{Dead}
use Rattle.machine_steps.specs.Picks.{picked}
use Rattle.machine_steps.specs.Ends.{end}
use Rattle.machine_steps.specs.Replay.{state}
use Rattle.machine_steps.specs.Reports.{report}
use Rattle.machine_rows.specs.EventRows.{every, every_schedule, every_text, EveryEventHeard}
use Rattle.machine_rows.proofs.Computing.{computing}

-- the schedule that one worker picks
pub schedule : picked every.job.limits.slice every ≡ every_schedule
unfolding computing
schedule = refl

-- how it ends
pub ends : end every (state every every_schedule) ≡ Some Dead
unfolding computing
ends = refl

-- what is written of it
pub text : report every every_schedule (Some Dead) ≡ every_text
unfolding computing
text = refl

pub row : EveryEventHeard
row = record { picks = schedule; ends = ends; writes = text }
