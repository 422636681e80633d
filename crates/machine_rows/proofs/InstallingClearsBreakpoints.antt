-- The row installing clears breakpoints, computed.
use Rattle.std.proofs.Common.{◌≡◌, Some, refl}
use Rattle.ti_ids.specs.declared.actor.End.TheVariants.{Dead}
use Rattle.machine_steps.specs.Picks.{picked}
use Rattle.machine_steps.specs.Ends.{end}
use Rattle.machine_steps.specs.Replay.{state}
use Rattle.machine_steps.specs.Reports.{report}
use Rattle.machine_rows.specs.BreakRows.{clearing, clearing_schedule, clearing_text, InstallingClearsBreakpoints}
use Rattle.machine_rows.proofs.Computing.{computing}

-- the schedule that one worker picks
pub schedule : picked clearing.job.limits.slice clearing ≡ clearing_schedule
unfolding computing
schedule = refl

-- how it ends
pub ends : end clearing (state clearing clearing_schedule) ≡ Some Dead
unfolding computing
ends = refl

-- what is written of it
pub text : report clearing clearing_schedule (Some Dead) ≡ clearing_text
unfolding computing
text = refl

pub row : InstallingClearsBreakpoints
row = record { picks = schedule; ends = ends; writes = text }
