-- The row hook breaks the class, computed.
use Rattle.std.proofs.Common.{◌≡◌, Some, refl}
use Rattle.ti_ids.specs.declared.actor.End.TheVariants.{Dead}
use Rattle.machine_steps.specs.Picks.{picked}
use Rattle.machine_steps.specs.Ends.{end}
use Rattle.machine_steps.specs.Replay.{state}
use Rattle.machine_steps.specs.Reports.{report}
use Rattle.machine_rows.specs.HookRows.{broken, broken_schedule, broken_text, HookBreaksTheClass}
use Rattle.machine_rows.proofs.Computing.{computing}

-- the schedule that one worker picks
pub schedule : picked broken.job.limits.slice broken ≡ broken_schedule
unfolding computing
schedule = refl

-- how it ends
pub ends : end broken (state broken broken_schedule) ≡ Some Dead
unfolding computing
ends = refl

-- what is written of it
pub text : report broken broken_schedule (Some Dead) ≡ broken_text
unfolding computing
text = refl

pub row : HookBreaksTheClass
row = record { picks = schedule; ends = ends; writes = text }
