-- The row tags of each environment, computed.
use Rattle.std.proofs.Common.{◌≡◌, Some, refl}
use Rattle.ti_ids.specs.declared.actor.End.TheVariants.{Dead}
use Rattle.machine_steps.specs.Picks.{picked}
use Rattle.machine_steps.specs.Ends.{end}
use Rattle.machine_steps.specs.Replay.{state}
use Rattle.machine_steps.specs.Reports.{report}
use Rattle.machine_rows.specs.TagRows.{tags, tags_schedule, tags_text, TagsOfEachEnvironment}
use Rattle.machine_rows.proofs.Computing.{computing}

-- the schedule that one worker picks
pub schedule : picked tags.job.limits.slice tags ≡ tags_schedule
unfolding computing
schedule = refl

-- how it ends
pub ends : end tags (state tags tags_schedule) ≡ Some Dead
unfolding computing
ends = refl

-- what is written of it
pub text : report tags tags_schedule (Some Dead) ≡ tags_text
unfolding computing
text = refl

pub row : TagsOfEachEnvironment
row = record { picks = schedule; ends = ends; writes = text }
