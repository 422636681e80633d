-- The row verify error, computed.
use Rattle.std.proofs.Common.{◌≡◌, Some, refl}
use Rattle.ti_ids.specs.declared.actor.End.TheVariants.{Dead}
use Rattle.machine_steps.specs.Picks.{picked}
use Rattle.machine_steps.specs.Ends.{end}
use Rattle.machine_steps.specs.Replay.{state}
use Rattle.machine_steps.specs.Reports.{report}
use Rattle.machine_rows.specs.LimitRows.{verify, verify_schedule, verify_text, VerifyErrorThrown}
use Rattle.machine_rows.proofs.Computing.{computing}

-- the schedule that one worker picks
pub schedule : picked verify.job.limits.slice verify ≡ verify_schedule
unfolding computing
schedule = refl

-- how it ends
pub ends : end verify (state verify verify_schedule) ≡ Some Dead
unfolding computing
ends = refl

-- what is written of it
pub text : report verify verify_schedule (Some Dead) ≡ verify_text
unfolding computing
text = refl

pub row : VerifyErrorThrown
row = record { picks = schedule; ends = ends; writes = text }
