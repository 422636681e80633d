use Rattle.std.proofs.Common.{rules, nat_lt}
use Rattle.std.proofs.lemmas.Fn.{filter_same}
use Rattle.type_handlers.specs.Ranges.{end_at}
use Rattle.type_handlers.proofs.Advances.{advanced}
use Rattle.type_handlers.proofs.covering.Covering.advance.Goals as goal

pub invariant_of-self-2 : goal.invariant_of-self-2
invariant_of-self-2 c =
    let lasting = filter_same _ (λ place. nat_lt c.args.at (end_at c.self.inside.handlers.now place)) _ (λ x b f' k. search rules) _ _ c.retain.ensures.filtered in
    advanced _ _ c.self.inside.begun c.self.inside.active.items c.self.inside.reached c.self.invariant c.args.at _ (rw (← c.self.view_is) at c.requires)
    c.begun_by-begun.ensures.counted
    (rw (← c.deref.ensures.value) c.begun_by-begun.ensures.within)
    (rw (← c.deref.ensures.value) c.begun_by-begun.ensures.begun)
    (rw (← c.deref.ensures.value) c.begun_by-begun.ensures.next)
    _ _ (rw (← c.deref-2.ensures.value) c.in_ok-extend_from_slice.ensures.items) lasting
