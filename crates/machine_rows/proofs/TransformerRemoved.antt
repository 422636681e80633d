-- The row transformer removed, computed.
use Rattle.std.proofs.Common.{◌≡◌, Some, refl}
use Rattle.ti_ids.specs.declared.actor.End.TheVariants.{Dead}
use Rattle.machine_steps.specs.Picks.{picked}
use Rattle.machine_steps.specs.Ends.{end}
use Rattle.machine_steps.specs.Replay.{state}
use Rattle.machine_steps.specs.Reports.{report}
use Rattle.machine_rows.specs.CallRows.{removed, removed_schedule, removed_text, TransformerRemoved}
use Rattle.machine_rows.proofs.Computing.{computing}

-- the schedule that one worker picks
pub schedule : picked removed.job.limits.slice removed ≡ removed_schedule
unfolding computing
schedule = refl

-- how it ends
pub ends : end removed (state removed removed_schedule) ≡ Some Dead
unfolding computing
ends = refl

-- what is written of it
pub text : report removed removed_schedule (Some Dead) ≡ removed_text
unfolding computing
text = refl

pub row : TransformerRemoved
row = record { picks = schedule; ends = ends; writes = text }
