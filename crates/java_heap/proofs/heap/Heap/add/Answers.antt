use Rattle.std.proofs.Common.{◌+◌, ◌≤◌, sym, subst}
use Rattle.java_heap.specs.Heaps.{HeapValue, words_taken}
use Rattle.java_heap.specs.Inside.{seen}
use Rattle.java_heap.proofs.Added.{kept_added}
use Rattle.java_heap.proofs.heap.Heap.add.Goals as goal

pub invariant_of-self-2 : goal.invariant_of-self-2
invariant_of-self-2 c =
    let room = subst (λ (heap : HeapValue). words_taken heap + c.args.words ≤ heap.limit) (sym c.self.view_is) c.requires.room in
    rw c.in_ok-push.ensures.items
    (kept_added (seen c.self.inside) c.self.inside.words c.self.inside.literals c.self.inside.class_objects.items c.args.object c.args.words c.self.invariant c.requires.words room c.requires.plain)
