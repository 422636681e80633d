-- The row order of refusals, computed.
use Rattle.std.proofs.Common.{◌≡◌, Some, refl}
use Rattle.ti_ids.specs.declared.actor.End.TheVariants.{Dead}
use Rattle.machine_steps.specs.Picks.{picked}
use Rattle.machine_steps.specs.Ends.{end}
use Rattle.machine_steps.specs.Replay.{state}
use Rattle.machine_steps.specs.Reports.{report}
use Rattle.machine_rows.specs.RefusedCallRows.{order, order_schedule, order_text, OrderOfRefusals}
use Rattle.machine_rows.proofs.Computing.{computing}

-- the schedule that one worker picks
pub schedule : picked order.job.limits.slice order ≡ order_schedule
unfolding computing
schedule = refl

-- how it ends
pub ends : end order (state order order_schedule) ≡ Some Dead
unfolding computing
ends = refl

-- what is written of it
pub text : report order order_schedule (Some Dead) ≡ order_text
unfolding computing
text = refl

pub row : OrderOfRefusals
row = record { picks = schedule; ends = ends; writes = text }
