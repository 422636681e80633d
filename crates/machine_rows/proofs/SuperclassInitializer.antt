-- The row superclass initializer, computed.
use Rattle.std.proofs.Common.{◌≡◌, Some, refl}
use Rattle.ti_ids.specs.declared.actor.End.TheVariants.{Dead}
use Rattle.machine_steps.specs.Picks.{picked}
use Rattle.machine_steps.specs.Ends.{end}
use Rattle.machine_steps.specs.Replay.{state}
use Rattle.machine_steps.specs.Reports.{report}
use Rattle.machine_rows.specs.Rows.{superclass, superclass_schedule, superclass_text, SuperclassInitializer}
use Rattle.machine_rows.proofs.Computing.{computing}

-- the schedule that one worker picks
pub schedule : picked superclass.job.limits.slice superclass ≡ superclass_schedule
unfolding computing
schedule = refl

-- how it ends
pub ends : end superclass (state superclass superclass_schedule) ≡ Some Dead
unfolding computing
ends = refl

-- what is written of it
pub text : report superclass superclass_schedule (Some Dead) ≡ superclass_text
unfolding computing
text = refl

pub row : SuperclassInitializer
row = record { picks = schedule; ends = ends; writes = text }
