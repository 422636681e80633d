use Rattle.std.proofs.Common.{◌+◌, ◌≤◌, List, [], ◌∷◌, ◌++◌, ◌∙◌, ap, sym, subst}
use Rattle.std.specs.Prelude.{IsNone}
use Rattle.java_heap.specs.declared.object.Object.{Object}
use Rattle.java_heap.specs.declared.object.TheConstants.{CLASS}
use Rattle.java_heap.specs.Heaps.{HeapValue, words_taken, next_number, class_object_of}
use Rattle.java_heap.specs.Inside.{seen}
use Rattle.java_heap.proofs.Indexes.{class_object_kept}
use Rattle.java_heap.proofs.heap.Heap.add_class_object.Goals as goal

pub invariant_of-self-2 : goal.invariant_of-self-2
invariant_of-self-2 c =
    let absent = subst (λ (heap : HeapValue). IsNone (class_object_of heap c.args.class)) (sym c.self.view_is) c.requires.absent in
    let room = subst (λ (heap : HeapValue). words_taken heap + c.args.words ≤ heap.limit) (sym c.self.view_is) c.requires.room in
    let next = c.next_number-number.ensures ∙ ap next_number (sym c.self.view_is) in
    let objects =
    c.push_reserved.ensures.items ∙ ap (λ (os : List Object). os ++ c.fresh-object.result ∷ []) c.in_ok-reserve.ensures.items
    ∙ ap (λ (o : Object). c.self.inside.objects.items ++ o ∷ []) c.fresh-object.ensures in
    rw objects
    (class_object_kept (seen c.self.inside) c.self.inside.words c.self.inside.literals c.self.inside.class_objects.items c.put.new.index.items CLASS c.args.class c.next_number-number.result c.args.words c.self.invariant absent c.requires.words room next c.in_ok-put.ensures.put)
