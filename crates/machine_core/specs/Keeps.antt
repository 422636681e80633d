-- What a machine keeps: unless it is spent, its parts stand for the state of its job after its schedule.
use Rattle.std.specs.Prelude.{◌≡◌, ◌≤◌, List, Bool, false, length}
use Rattle.ti_ids.specs.declared.actor.Actor.{Actor}
use Rattle.report_text.specs.Named.{AllNamed}
use Rattle.machine_model.specs.Jobs.{Job}
use Rattle.machine_model.specs.Replay.{state, Runs}
use Rattle.machine_core.specs.declared.parts.Parts.{Parts}
use Rattle.machine_core.specs.Stands.{IsKnown, StandsFor}

pub record Keeps (job : Job) (schedule : List Actor) (p : Parts) (spent : Bool) : Type 0 where
  pub stands : spent ≡ false → StandsFor job p (state job schedule)
  pub known : IsKnown job
  pub runs : Runs job schedule
  pub steps : (state job schedule).steps ≡ length schedule
  pub few : length schedule ≤ job.limits.steps
  pub named : AllNamed schedule
