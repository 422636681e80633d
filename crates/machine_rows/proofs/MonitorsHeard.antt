-- The row monitors heard, computed.
use Rattle.std.proofs.Common.{◌≡◌, Some, refl}
use Rattle.ti_ids.specs.declared.actor.End.TheVariants.{Dead}
use Rattle.machine_steps.specs.Picks.{picked}
use Rattle.machine_steps.specs.Ends.{end}
use Rattle.machine_steps.specs.Replay.{state}
use Rattle.machine_steps.specs.Reports.{report}
use Rattle.machine_rows.specs.MonitorRows.{meets, meets_schedule, meets_text, MonitorsHeard}
use Rattle.machine_rows.proofs.Computing.{computing}

-- the schedule that one worker picks
pub schedule : picked meets.job.limits.slice meets ≡ meets_schedule
unfolding computing
schedule = refl

-- how it ends
pub ends : end meets (state meets meets_schedule) ≡ Some Dead
unfolding computing
ends = refl

-- what is written of it
pub text : report meets meets_schedule (Some Dead) ≡ meets_text
unfolding computing
text = refl

pub row : MonitorsHeard
row = record { picks = schedule; ends = ends; writes = text }
