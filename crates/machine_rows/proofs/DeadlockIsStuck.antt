-- The row deadlock is stuck, computed.
use Rattle.std.proofs.Common.{◌≡◌, Some, refl}
use Rattle.ti_ids.specs.declared.actor.End.TheVariants.{Stuck}
use Rattle.machine_steps.specs.Picks.{picked}
use Rattle.machine_steps.specs.Ends.{end}
use Rattle.machine_steps.specs.Replay.{state}
use Rattle.machine_steps.specs.Reports.{report}
use Rattle.machine_rows.specs.Rows.{deadlock, deadlock_schedule, deadlock_text, DeadlockIsStuck}
use Rattle.machine_rows.proofs.Computing.{computing}

-- the schedule that one worker picks
pub schedule : picked deadlock.job.limits.slice deadlock ≡ deadlock_schedule
unfolding computing
schedule = refl

-- how it ends
pub ends : end deadlock (state deadlock deadlock_schedule) ≡ Some Stuck
unfolding computing
ends = refl

-- what is written of it
pub text : report deadlock deadlock_schedule (Some Stuck) ≡ deadlock_text
unfolding computing
text = refl

pub row : DeadlockIsStuck
row = record { picks = schedule; ends = ends; writes = text }
