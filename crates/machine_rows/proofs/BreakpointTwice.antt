-- The row breakpoint twice, computed.
use Rattle.std.proofs.Common.{◌≡◌, Some, refl}
use Rattle.ti_ids.specs.declared.actor.End.TheVariants.{Dead}
use Rattle.machine_steps.specs.Picks.{picked}
use Rattle.machine_steps.specs.Ends.{end}
use Rattle.machine_steps.specs.Replay.{state}
use Rattle.machine_steps.specs.Reports.{report}
use Rattle.machine_rows.specs.BreakRows.{twice, twice_schedule, twice_text, BreakpointTwice}
use Rattle.machine_rows.proofs.Computing.{computing}

-- the schedule that one worker picks
pub schedule : picked twice.job.limits.slice twice ≡ twice_schedule
unfolding computing
schedule = refl

-- how it ends
pub ends : end twice (state twice twice_schedule) ≡ Some Dead
unfolding computing
ends = refl

-- what is written of it
pub text : report twice twice_schedule (Some Dead) ≡ twice_text
unfolding computing
text = refl

pub row : BreakpointTwice
row = record { picks = schedule; ends = ends; writes = text }
