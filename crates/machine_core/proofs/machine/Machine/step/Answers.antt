use Rattle.std.proofs.Common.{◌≡◌, ◌∙◌, true, not, sym, subst}
use Rattle.machine_model.proofs.Replays.{and_true}
use Rattle.machine_core.specs.MachineValue.{MachineValue}
use Rattle.machine_core.specs.Machines.{may_step}
use Rattle.machine_core.proofs.Keeping.{keeps_step}
use Rattle.machine_core.proofs.machine.Machine.step.Goals as goal

pub invariant_of-self-in-Ok-push : goal.invariant_of-self-in-Ok-push
invariant_of-self-in-Ok-push c =
    let m : MachineValue = c.args.self.now in
    let may : may_step m c.args.actor ≡ true = (and_true (not m.spent) (may_step m c.args.actor) (sym c.enabled.ensures.told ∙ c.if-not-enabled.false)).1 in
    rw c.in-Ok-push.ensures.items
    (keeps_step c.self.inside.job c.self.inside.actors.items c.self.inside.parts c.step.new.self c.args.actor c.self.inside.spent c.self.invariant c.if-self.false c.in-Ok.ensures
    (subst (λ (k : MachineValue). may_step k c.args.actor ≡ true) (sym c.self.view_is) may))
