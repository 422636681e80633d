use Rattle.std.proofs.Common.{◌≡◌, ◌-◌, ℕ, suc, subst, arith}
use Rattle.std.specs.Prelude.{IsSome}
use Rattle.machine_model.specs.Rules.{ready_thread}
use Rattle.machine_core.specs.Stands.{RuleIs}
use Rattle.machine_core.proofs.Seen.{thread_told, thread_there}
use Rattle.machine_core.proofs.parts.Parts.thread_rule.Goals as goal

pub returns-clause-told : goal.returns-clause-told
returns-clause-told c = λ job s h.
    let e : suc (c.args.number - 1) ≡ c.args.number = omega arith in
    subst (λ (k : ℕ). RuleIs c.rule_at.result (ready_thread job s.core k)) e (rw c.rule_at.ensures (thread_told job c.args.self.now s (c.args.number - 1) h))

pub returns-clause-there : goal.returns-clause-there
returns-clause-there c = λ some.
    let lt = thread_there c.args.self.now (c.args.number - 1) (subst (λ r. IsSome r) c.rule_at.ensures some) in
    omega (arith, lt, c.args.self.now.threads.ok.0)
