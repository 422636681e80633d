-- What the text of a run is, whichever schedule its workers made: the report of the schedule that it states itself.
use Rattle.std.specs.Prelude.{◌≡◌, ℕ, List, Some}
use Rattle.ti_ids.specs.declared.actor.Actor.{Actor}
use Rattle.ti_ids.specs.declared.actor.End.{End}
use Rattle.report_text.specs.Stated.{stated}
use Rattle.machine_steps.specs.World.{World}
use Rattle.machine_steps.specs.Ends as last
use Rattle.machine_steps.specs.Replay.{state, CanRun}
use Rattle.machine_steps.specs.Reports.{report}

-- The text states a schedule, which can be run, and which leads to an end; and it is the report of that schedule, run to that end.
pub record IsReport (w : World) (text : List ℕ) : Type 0 where
  pub schedule : List Actor
  pub states : stated text ≡ Some schedule
  pub can_run : CanRun w schedule
  pub end : End
  pub ends : last.end w (state w schedule) ≡ Some end
  pub reports : text ≡ report w schedule (Some end)
