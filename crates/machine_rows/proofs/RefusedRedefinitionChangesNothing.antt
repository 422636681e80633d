-- The row refused redefinition changes nothing, computed.
use Rattle.std.proofs.Common.{◌≡◌, Some, refl}
use Rattle.ti_ids.specs.declared.actor.End.TheVariants.{Dead}
use Rattle.machine_steps.specs.Picks.{picked}
use Rattle.machine_steps.specs.Ends.{end}
use Rattle.machine_steps.specs.Replay.{state}
use Rattle.machine_steps.specs.Reports.{report}
use Rattle.machine_rows.specs.RefusedCallRows.{refused, refused_schedule, refused_text, RefusedRedefinitionChangesNothing}
use Rattle.machine_rows.proofs.Computing.{computing}

-- the schedule that one worker picks
pub schedule : picked refused.job.limits.slice refused ≡ refused_schedule
unfolding computing
schedule = refl

-- how it ends
pub ends : end refused (state refused refused_schedule) ≡ Some Dead
unfolding computing
ends = refl

-- what is written of it
pub text : report refused refused_schedule (Some Dead) ≡ refused_text
unfolding computing
text = refl

pub row : RefusedRedefinitionChangesNothing
row = record { picks = schedule; ends = ends; writes = text }
