use Rattle.std.proofs.Common.{sym, arith}
use Rattle.java_heap.specs.declared.object.Object.{Object}
use Rattle.java_heap.specs.Inside.{seen}
use Rattle.java_heap.proofs.Numbers.{StandsAt, stands_at}
use Rattle.java_heap.proofs.Replaced.{kept_replaced, side_may_change, with_changed-replaced}
use Rattle.java_heap.proofs.heap.Heap.set_side.Goals as goal

stands : (c : goal.After-self-1) → StandsAt (seen c.self.inside) c.args.object c.in-Some.place c.index_mut.result.now
stands c = stands_at (seen c.self.inside) c.args.self.now c.args.object c.in-Some.place c.index_mut.result.now c.self.view_is c.in-Some.ensures c.index_mut.ensures.value

pub invariant_of-self : goal.invariant_of-self
invariant_of-self c =
    kept_replaced (seen c.self.inside) c.self.inside.words c.self.inside.literals c.self.inside.class_objects.items c.in-Some.place c.index_mut.result.now _ 0 c.self.invariant
    (side_may_change (seen c.self.inside) c.in-Some.place c.index_mut.result.now c.args.side c.self.invariant.sound (stands c).found) c.self.inside.words (omega arith)

pub returns : goal.returns
returns c =
    record {
      changed = rw (← c.self.view_is) (sym (with_changed-replaced (seen c.self.inside) c.args.object c.in-Some.place c.index_mut.result.now (stands c) (λ (o : Object). record o { side = c.args.side })));
    }
