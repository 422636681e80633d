-- What the calls of a machine tell.
use Rattle.std.specs.Prelude.{◌≡◌, ◌++◌, ◌∷◌, [], Bool, true, false, Result, Ok, Err}
use Rattle.ti_ids.specs.declared.actor.Actor.{Actor}
use Rattle.machine_model.specs.Rules.{State, is_enabled}
use Rattle.machine_model.specs.Replay.{state}
use Rattle.machine_core.specs.MachineValue.{MachineValue}
use Rattle.machine_core.specs.declared.machine.CoreFault.{CoreFault}
use Rattle.machine_core.specs.declared.machine.CoreFault.TheVariants.{NotEnabled, Memory}

-- the state of a machine that is not spent
abbrev pub state_in : MachineValue → State
state_in m = state m.job m.schedule

-- whether the actor may make a step after the schedule
abbrev pub may_step : MachineValue → Actor → Bool
may_step m actor = is_enabled m.job (state_in m) actor

-- what a step does: the schedule has the actor more exactly where it may step, and else nothing changes; want of memory spends the machine
abbrev pub StepTold : Result (Unit {0}) CoreFault → Actor → MachineValue → MachineValue → Type 0
StepTold (Ok u) actor old new = (old.spent ≡ false) × (may_step old actor ≡ true) × (new ≡ record old { schedule = old.schedule ++ actor ∷ [] })
StepTold (Err NotEnabled) actor old new = (old.spent ≡ false) × (may_step old actor ≡ false) × (new ≡ old)
StepTold (Err Memory) actor old new = (old.spent ≡ false → may_step old actor ≡ true) × (new ≡ record old { spent = true })
