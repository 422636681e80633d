-- What contracts see of a machine.
use Rattle.std.specs.Prelude.{List, Bool}
use Rattle.ti_ids.specs.declared.actor.Actor.{Actor}
use Rattle.machine_model.specs.Jobs.{Job}

pub record MachineValue : Type 0 where
  pub job : Job
  pub schedule : List Actor
  pub spent : Bool
