-- The row uncaught exception, computed.
use Rattle.std.proofs.Common.{◌≡◌, Some, refl}
use Rattle.ti_ids.specs.declared.actor.End.TheVariants.{Dead}
use Rattle.machine_steps.specs.Picks.{picked}
use Rattle.machine_steps.specs.Ends.{end}
use Rattle.machine_steps.specs.Replay.{state}
use Rattle.machine_steps.specs.Reports.{report}
use Rattle.machine_rows.specs.Rows.{uncaught, uncaught_schedule, uncaught_text, UncaughtException}
use Rattle.machine_rows.proofs.Computing.{computing}

-- the schedule that one worker picks
pub schedule : picked uncaught.job.limits.slice uncaught ≡ uncaught_schedule
unfolding computing
schedule = refl

-- how it ends
pub ends : end uncaught (state uncaught uncaught_schedule) ≡ Some Dead
unfolding computing
ends = refl

-- what is written of it
pub text : report uncaught uncaught_schedule (Some Dead) ≡ uncaught_text
unfolding computing
text = refl

pub row : UncaughtException
row = record { picks = schedule; ends = ends; writes = text }
