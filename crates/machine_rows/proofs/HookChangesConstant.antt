-- The row hook changes constant, computed.
use Rattle.std.proofs.Common.{◌≡◌, Some, refl}
use Rattle.ti_ids.specs.declared.actor.End.TheVariants.{Dead}
use Rattle.machine_steps.specs.Picks.{picked}
use Rattle.machine_steps.specs.Ends.{end}
use Rattle.machine_steps.specs.Replay.{state}
use Rattle.machine_steps.specs.Reports.{report}
use Rattle.machine_rows.specs.ChainRows.{hooked, hooked_schedule, hooked_text, HookChangesConstant}
use Rattle.machine_rows.proofs.Computing.{computing}

-- the schedule that one worker picks
pub schedule : picked hooked.job.limits.slice hooked ≡ hooked_schedule
unfolding computing
schedule = refl

-- how it ends
pub ends : end hooked (state hooked hooked_schedule) ≡ Some Dead
unfolding computing
ends = refl

-- what is written of it
pub text : report hooked hooked_schedule (Some Dead) ≡ hooked_text
unfolding computing
text = refl

pub row : HookChangesConstant
row = record { picks = schedule; ends = ends; writes = text }
