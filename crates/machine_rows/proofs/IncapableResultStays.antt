-- The row incapable result stays, computed.
use Rattle.std.proofs.Common.{◌≡◌, Some, refl}
use Rattle.ti_ids.specs.declared.actor.End.TheVariants.{Dead}
use Rattle.machine_steps.specs.Picks.{picked}
use Rattle.machine_steps.specs.Ends.{end}
use Rattle.machine_steps.specs.Replay.{state}
use Rattle.machine_steps.specs.Reports.{report}
use Rattle.machine_rows.specs.ChainRows.{incapable, incapable_schedule, incapable_text, IncapableResultStays}
use Rattle.machine_rows.proofs.Computing.{computing}

-- the schedule that one worker picks
pub schedule : picked incapable.job.limits.slice incapable ≡ incapable_schedule
unfolding computing
schedule = refl

-- how it ends
pub ends : end incapable (state incapable incapable_schedule) ≡ Some Dead
unfolding computing
ends = refl

-- what is written of it
pub text : report incapable incapable_schedule (Some Dead) ≡ incapable_text
unfolding computing
text = refl

pub row : IncapableResultStays
row = record { picks = schedule; ends = ends; writes = text }
