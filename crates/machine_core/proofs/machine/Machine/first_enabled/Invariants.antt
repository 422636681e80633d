use Rattle.std.proofs.Common.{◌≡◌, ◌-◌, false, take, drop}
use Rattle.std.specs.Prelude.{find}
use Rattle.machine_model.specs.Rules.{actors}
use Rattle.machine_core.specs.Machines.{state_in, may_step}
use Rattle.machine_core.proofs.machine.Machine.first_enabled.Given as goal

abbrev pub invariant-loop-place : goal.invariant-loop-place
invariant-loop-place l =
    l.self.spent ≡ false
    → find (may_step l.self) (take (l.to - l.from) (drop l.from (actors l.self.job (state_in l.self).core)))
    ≡ find (may_step l.self) (take (l.to - l.place) (drop l.place (actors l.self.job (state_in l.self).core)))
