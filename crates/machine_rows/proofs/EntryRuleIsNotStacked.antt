-- The row entry rule is not stacked, computed.
use Rattle.std.proofs.Common.{◌≡◌, Some, refl}
use Rattle.ti_ids.specs.declared.actor.End.TheVariants.{Dead}
use Rattle.machine_steps.specs.Picks.{picked}
use Rattle.machine_steps.specs.Ends.{end}
use Rattle.machine_steps.specs.Replay.{state}
use Rattle.machine_steps.specs.Reports.{report}
use Rattle.machine_rows.specs.EntryRows.{entry, entry_schedule, entry_text, EntryRuleIsNotStacked}
use Rattle.machine_rows.proofs.Computing.{computing}

-- the schedule that one worker picks
pub schedule : picked entry.job.limits.slice entry ≡ entry_schedule
unfolding computing
schedule = refl

-- how it ends
pub ends : end entry (state entry entry_schedule) ≡ Some Dead
unfolding computing
ends = refl

-- what is written of it
pub text : report entry entry_schedule (Some Dead) ≡ entry_text
unfolding computing
text = refl

pub row : EntryRuleIsNotStacked
row = record { picks = schedule; ends = ends; writes = text }
