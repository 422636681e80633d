-- The row obsolete though equal bytes, computed.
use Rattle.std.proofs.Common.{◌≡◌, Some, refl}
use Rattle.ti_ids.specs.declared.actor.End.TheVariants.{Dead}
use Rattle.machine_steps.specs.Picks.{picked}
use Rattle.machine_steps.specs.Ends.{end}
use Rattle.machine_steps.specs.Replay.{state}
use Rattle.machine_steps.specs.Reports.{report}
use Rattle.machine_rows.specs.ChainRows.{obsolete, obsolete_schedule, obsolete_text, ObsoleteThoughEqualBytes}
use Rattle.machine_rows.proofs.Computing.{computing}

-- the schedule that one worker picks
pub schedule : picked obsolete.job.limits.slice obsolete ≡ obsolete_schedule
unfolding computing
schedule = refl

-- how it ends
pub ends : end obsolete (state obsolete obsolete_schedule) ≡ Some Dead
unfolding computing
ends = refl

-- what is written of it
pub text : report obsolete obsolete_schedule (Some Dead) ≡ obsolete_text
unfolding computing
text = refl

pub row : ObsoleteThoughEqualBytes
row = record { picks = schedule; ends = ends; writes = text }
