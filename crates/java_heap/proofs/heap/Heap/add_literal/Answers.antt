use Rattle.std.proofs.Common.{ℕ, ◌+◌, ◌≤◌, List, [], ◌∷◌, ◌++◌, ◌∙◌, ap, sym, subst}
use Rattle.std.specs.Prelude.{IsNone}
use Rattle.java_heap.specs.declared.object.Object.{Object}
use Rattle.java_heap.specs.declared.object.Content.TheVariants.{Literal}
use Rattle.java_heap.specs.declared.object.TheConstants.{STRING}
use Rattle.java_heap.specs.Objects.{fresh}
use Rattle.java_heap.specs.Heaps.{HeapValue, words_taken, next_number, literal_of}
use Rattle.java_heap.specs.Inside.{seen}
use Rattle.java_heap.proofs.Indexes.{literal_kept}
use Rattle.java_heap.proofs.heap.Heap.add_literal.Goals as goal

pub invariant_of-self-2 : goal.invariant_of-self-2
invariant_of-self-2 c =
    let absent = subst (λ (heap : HeapValue). IsNone (literal_of heap c.args.units.now)) (sym c.self.view_is) c.requires.absent in
    let room = subst (λ (heap : HeapValue). words_taken heap + c.args.words ≤ heap.limit) (sym c.self.view_is) c.requires.room in
    let next = c.next_number-number.ensures ∙ ap next_number (sym c.self.view_is) in
    let object = c.fresh-object.ensures ∙ ap (λ (units : List ℕ). fresh STRING (Literal units)) c.in_ok-clone_in.ensures in
    let objects =
    c.push_reserved.ensures.items ∙ ap (λ (os : List Object). os ++ c.fresh-object.result ∷ []) c.in_ok-reserve.ensures.items
    ∙ ap (λ (o : Object). c.self.inside.objects.items ++ o ∷ []) object in
    let key = c.in_ok-key.ensures.items ∙ c.as_slice.ensures in
    rw objects
    (literal_kept (seen c.self.inside) c.self.inside.words c.self.inside.literals c.insert.new.self c.self.inside.class_objects.items STRING c.args.units.now c.in_ok-key.key.items c.next_number-number.result c.args.words c.self.invariant absent c.requires.words room next key c.in_ok-insert.ensures.updates)
