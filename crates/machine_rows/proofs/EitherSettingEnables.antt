-- The row either setting enables, computed.
use Rattle.std.proofs.Common.{◌≡◌, Some, refl}
use Rattle.ti_ids.specs.declared.actor.End.TheVariants.{Dead}
use Rattle.machine_steps.specs.Picks.{picked}
use Rattle.machine_steps.specs.Ends.{end}
use Rattle.machine_steps.specs.Replay.{state}
use Rattle.machine_steps.specs.Reports.{report}
use Rattle.machine_rows.specs.AgentRows.{either, either_schedule, either_text, EitherSettingEnables}
use Rattle.machine_rows.proofs.Computing.{computing}

-- the schedule that one worker picks
pub schedule : picked either.job.limits.slice either ≡ either_schedule
unfolding computing
schedule = refl

-- how it ends
pub ends : end either (state either either_schedule) ≡ Some Dead
unfolding computing
ends = refl

-- what is written of it
pub text : report either either_schedule (Some Dead) ≡ either_text
unfolding computing
text = refl

pub row : EitherSettingEnables
row = record { picks = schedule; ends = ends; writes = text }
