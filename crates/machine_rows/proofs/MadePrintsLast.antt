-- The row of the made job, computed.
use Rattle.std.proofs.Common.{◌≡◌, Some, refl}
use Rattle.ti_ids.specs.declared.actor.End.TheVariants.{Dead}
use Rattle.job_words.specs.declared.status.Status.TheVariants.{Done}
use Rattle.machine_steps.specs.Picks.{picked}
use Rattle.machine_steps.specs.Ends.{end}
use Rattle.machine_steps.specs.Replay.{state}
use Rattle.machine_steps.specs.Written.{Written, made_by}
use Rattle.class_tree.specs.Spelling as bytes_of
use Rattle.machine_rows.specs.MadeRows.{made, made_schedule, made_text, MadePrintsLast}
use Rattle.machine_rows.proofs.Computing.{computing}

-- the schedule that one worker picks
pub schedule : picked made.job.limits.slice made ≡ made_schedule
unfolding computing bytes_of.u4 bytes_of.counted
schedule = refl

-- how it ends
pub ends : end made (state made made_schedule) ≡ Some Dead
unfolding computing bytes_of.u4 bytes_of.counted
ends = refl

-- what is written of it
pub text : ◌≡◌ {A = Written} (made_by made 0 2 made_schedule (Some Dead)) (record { status = Done; text = made_text })
unfolding computing bytes_of.u4 bytes_of.counted
text = refl

pub row : MadePrintsLast
row = record { picks = schedule; ends = ends; writes = text }
