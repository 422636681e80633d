use Rattle.std.proofs.Common.{◌≡◌, ◌∙◌, Some, true, false, sym, ap, arith}
use Rattle.ti_ids.specs.declared.actor.Actor.{Actor}
use Rattle.machine_core.specs.Places.{actor_at}
use Rattle.machine_core.specs.Machines.{state_in, may_step}
use Rattle.machine_core.proofs.Rounds.{hit, miss, may_by}
use Rattle.machine_core.proofs.machine.Machine.first_enabled.Goals as goal

pub returns-then-enabled : goal.returns-then-enabled
returns-then-enabled c = λ live.
    let m = c.args.self.now in
    let may : may_step m (actor_at c.loop-place.place) ≡ true =
    ap (may_step m) (sym c.actor_of-actor.ensures) ∙ may_by c.enabled.result m.spent (may_step m c.actor_of-actor.result) c.enabled.ensures.told live ∙ c.if-enabled.true in
    let top = c.requires.within live in
    let place = c.loop-place.place in
    let found = c.loop-place.invariant live ∙ hit (may_step m) m.job (state_in m).core place c.args.to c.requires.no_agents (omega arith) top may in
    ap (λ (a : Actor). Some a) c.actor_of-actor.ensures ∙ sym found

pub loop-place-preserved : goal.loop-place-preserved
loop-place-preserved c = λ live.
    let m = c.args.self.now in
    let not' : may_step m (actor_at c.loop-place.place) ≡ false =
    ap (may_step m) (sym c.actor_of-actor.ensures) ∙ may_by c.enabled.result m.spent (may_step m c.actor_of-actor.result) c.enabled.ensures.told live ∙ c.if-enabled.false in
    let top = c.requires.within live in
    c.loop-place.invariant live ∙ miss (may_step m) m.job (state_in m).core c.loop-place.place c.args.to c.requires.no_agents (omega arith) top not'
