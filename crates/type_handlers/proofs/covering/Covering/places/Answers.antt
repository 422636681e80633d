use Rattle.type_handlers.proofs.Splits.{held_covers, held_within}
use Rattle.type_handlers.proofs.covering.Covering.places.Goals as goal

pub returns-clause-covering : goal.returns-clause-covering
returns-clause-covering c = rw (c.deref.ensures.value, ← c.self.view_is) (held_covers _ _ _ _ _ c.self.invariant)

pub returns-clause-within : goal.returns-clause-within
returns-clause-within c = rw (c.deref.ensures.value, ← c.self.view_is) (held_within _ _ _ _ _ c.self.invariant)
