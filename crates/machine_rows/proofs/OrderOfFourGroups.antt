-- The row order of four groups, computed.
use Rattle.std.proofs.Common.{◌≡◌, Some, refl}
use Rattle.ti_ids.specs.declared.actor.End.TheVariants.{Dead}
use Rattle.machine_steps.specs.Picks.{picked}
use Rattle.machine_steps.specs.Ends.{end}
use Rattle.machine_steps.specs.Replay.{state}
use Rattle.machine_steps.specs.Reports.{report}
use Rattle.machine_rows.specs.ChainRows.{groups, groups_schedule, groups_text, OrderOfFourGroups}
use Rattle.machine_rows.proofs.Computing.{computing}

-- the schedule that one worker picks
pub schedule : picked groups.job.limits.slice groups ≡ groups_schedule
unfolding computing
schedule = refl

-- how it ends
pub ends : end groups (state groups groups_schedule) ≡ Some Dead
unfolding computing
ends = refl

-- what is written of it
pub text : report groups groups_schedule (Some Dead) ≡ groups_text
unfolding computing
text = refl

pub row : OrderOfFourGroups
row = record { picks = schedule; ends = ends; writes = text }
