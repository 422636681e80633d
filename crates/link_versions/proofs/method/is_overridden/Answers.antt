use Rattle.std.proofs.Common.{arith}
use Rattle.std.proofs.lemmas.Grind.{common_steps}
use Rattle.link_versions.proofs.Choosing.{overridden_in_order}
use Rattle.link_versions.proofs.method.is_overridden.Goals as goal

pub returns-then-overrides : goal.returns-then-overrides
returns-then-overrides c = rw (overridden_in_order, ← c.order_of-order.ensures) (grind (arith, common_steps))

pub returns : goal.returns
returns c = rw (overridden_in_order, ← c.order_of-order.ensures) (grind (arith, common_steps))
