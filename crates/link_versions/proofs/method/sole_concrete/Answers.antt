use Rattle.std.proofs.Common.{arith, rules, sym}
use Rattle.std.proofs.lemmas.Grind.{common_steps}
use Rattle.link_versions.proofs.Choosing.{concrete_in_order, several}
use Rattle.link_versions.proofs.method.sole_concrete.Goals as goal

pub returns-then-is_some : goal.returns-then-is_some
returns-then-is_some c = rw (concrete_in_order, ← c.order_of-order.ensures)
    (sym (several _ c.order_of-order.result.now c.loop-at.at-index (record { 0 = 0 }) c.loop-at.found c.in-Some.method (omega arith) (search rules) c.loop-at.invariant (search rules)))

pub returns-in-Some-found : goal.returns-in-Some-found
returns-in-Some-found c = rw (concrete_in_order, ← c.order_of-order.ensures) (grind (arith, common_steps))

pub returns-in-None : goal.returns-in-None
returns-in-None c = rw (concrete_in_order, ← c.order_of-order.ensures) (grind (arith, common_steps))
