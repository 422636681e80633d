-- The row number edges, computed.
use Rattle.std.proofs.Common.{◌≡◌, Some, refl}
use Rattle.ti_ids.specs.declared.actor.End.TheVariants.{Dead}
use Rattle.machine_steps.specs.Picks.{picked}
use Rattle.machine_steps.specs.Ends.{end}
use Rattle.machine_steps.specs.Replay.{state}
use Rattle.machine_steps.specs.Reports.{report}
use Rattle.machine_rows.specs.Rows.{edges, edges_schedule, edges_text, NumberEdges}
use Rattle.machine_rows.proofs.Computing.{computing}

-- the schedule that one worker picks
pub schedule : picked edges.job.limits.slice edges ≡ edges_schedule
unfolding computing
schedule = refl

-- how it ends
pub ends : end edges (state edges edges_schedule) ≡ Some Dead
unfolding computing
ends = refl

-- what is written of it
pub text : report edges edges_schedule (Some Dead) ≡ edges_text
unfolding computing
text = refl

pub row : NumberEdges
row = record { picks = schedule; ends = ends; writes = text }
