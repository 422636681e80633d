-- The row add prints five, computed.
use Rattle.std.proofs.Common.{◌≡◌, Some, refl}
use Rattle.ti_ids.specs.declared.actor.End.TheVariants.{Dead}
use Rattle.machine_steps.specs.Picks.{picked}
use Rattle.machine_steps.specs.Ends.{end}
use Rattle.machine_steps.specs.Replay.{state}
use Rattle.machine_steps.specs.Reports.{report}
use Rattle.machine_rows.specs.Rows.{add, add_schedule, add_text, AddPrintsFive}
use Rattle.machine_rows.proofs.Computing.{computing}

-- the schedule that one worker picks
pub schedule : picked add.job.limits.slice add ≡ add_schedule
unfolding computing
schedule = refl

-- how it ends
pub ends : end add (state add add_schedule) ≡ Some Dead
unfolding computing
ends = refl

-- what is written of it
pub text : report add add_schedule (Some Dead) ≡ add_text
unfolding computing
text = refl

pub row : AddPrintsFive
row = record { picks = schedule; ends = ends; writes = text }
