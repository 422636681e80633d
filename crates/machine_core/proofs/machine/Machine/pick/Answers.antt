use Rattle.std.proofs.Common.{◌≡◌, ◌≤◌, true, sym, subst}
use Rattle.std.specs.Prelude.{is_some, IfSome}
use Rattle.machine_model.proofs.Enabling.{pick_some, pick_enabled, pick_row}
use Rattle.machine_core.specs.Machines.{state_in, may_step}
use Rattle.machine_core.proofs.machine.Machine.pick.Goals as goal

pub returns-clause-enabled : goal.returns-clause-enabled
returns-clause-enabled c = λ live.
    let m = c.args.self.now in subst (λ r. IfSome r (λ p. may_step m p.0 ≡ true)) (sym (c.pick_next.ensures live)) (pick_enabled m.job (state_in m) c.args.current c.args.made)

pub returns-clause-some : goal.returns-clause-some
returns-clause-some c = λ live none.
    let m = c.args.self.now in subst (λ r. is_some r ≡ true) (sym (c.pick_next.ensures live)) (pick_some m.job (state_in m) c.args.current c.args.made none)

pub returns-clause-row : goal.returns-clause-row
returns-clause-row c = λ live.
    let m = c.args.self.now in subst (λ r. IfSome r (λ p. p.1 ≤ c.args.made)) (sym (c.pick_next.ensures live)) (pick_row m.job (state_in m) c.args.current c.args.made)
