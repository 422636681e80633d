use Rattle.std.proofs.Common.{◌≡◌, ◌+◌, ◌≤◌, List, length, sym, ap, ◌∙◌, subst, arith}
use Rattle.std.proofs.lemmas.List.{with_items_is}
use Rattle.java_heap.specs.declared.object.Object.{Object}
use Rattle.java_heap.specs.Heaps.{HeapValue, words_taken, units_at}
use Rattle.java_heap.specs.Inside.{seen}
use Rattle.java_heap.proofs.Grown.{OnErr-always, HasGrown-put, is_text_at-told, with_more-grown, IsKept-grown, IsKept-not_grown}
use Rattle.java_heap.proofs.heap.Heap.append_text_of.Goals as goal

pub returns-in_err-append_between-clause-err : goal.returns-in_err-append_between-clause-err
returns-in_err-append_between-clause-err c =
    let heap = seen c.self.inside in
    let items = with_items_is c.self.inside.objects c.append_between.new.objects (c.append_between.auto.objects ∙ c.deref_mut.ensures.len) in
    let same = c.in_err-append_between.ensures.err ∙ c.deref_mut.ensures.value in
    rw items
    (OnErr-always c.from_residual-in_err-append_between.result (ap (λ (os : List Object). let changed : HeapValue = record heap { objects = os } in changed) same ∙ c.self.view_is))

pub invariant_of-self-then-not-branch : goal.invariant_of-self-then-not-branch
invariant_of-self-then-not-branch c =
    let heap = seen c.self.inside in
    let items = with_items_is c.self.inside.objects c.append_between.new.objects (c.append_between.auto.objects ∙ c.deref_mut.ensures.len) in
    let grown = HasGrown-put heap c.args.self.now c.self.view_is c.args.object c.args.from c.in-Some-place_of.place c.in-Some.other c.in-Some-place_of.ensures c.in-Some.ensures c.deref_mut.result.now c.deref_mut.ensures.value c.append_between.new.objects c.in_ok-append_between.ensures.grown in
    let told = (is_text_at-told heap c.args.self.now c.self.view_is c.args.object c.args.from c.in-Some-place_of.place c.in-Some.other c.in-Some-place_of.ensures c.in-Some.ensures c.deref_mut.result.now c.deref_mut.ensures.value c.in_ok-append_between.field-0 c.in_ok-append_between.ensures.text) in
    rw items
    (IsKept-not_grown heap c.args.object (units_at heap c.args.from) c.append_between.new.objects grown c.self.inside.words c.self.inside.literals c.self.inside.class_objects.items c.self.invariant (sym told ∙ c.if-not-branch.true))

pub returns-then-not-branch-clause-grown : goal.returns-then-not-branch-clause-grown
returns-then-not-branch-clause-grown c =
    let heap = seen c.self.inside in
    let items = with_items_is c.self.inside.objects c.append_between.new.objects (c.append_between.auto.objects ∙ c.deref_mut.ensures.len) in
    let grown = HasGrown-put heap c.args.self.now c.self.view_is c.args.object c.args.from c.in-Some-place_of.place c.in-Some.other c.in-Some-place_of.ensures c.in-Some.ensures c.deref_mut.result.now c.deref_mut.ensures.value c.append_between.new.objects c.in_ok-append_between.ensures.grown in
    rw (items, ← c.self.view_is) (with_more-grown heap c.args.object (units_at heap c.args.from) c.append_between.new.objects grown)

pub invariant_of-self-2 : goal.invariant_of-self-2
invariant_of-self-2 c =
    let heap = seen c.self.inside in
    let items = with_items_is c.self.inside.objects c.append_between.new.objects (c.append_between.auto.objects ∙ c.deref_mut.ensures.len) in
    let grown = HasGrown-put heap c.args.self.now c.self.view_is c.args.object c.args.from c.in-Some-place_of.place c.in-Some.other c.in-Some-place_of.ensures c.in-Some.ensures c.deref_mut.result.now c.deref_mut.ensures.value c.append_between.new.objects c.in_ok-append_between.ensures.grown in
    let told = (is_text_at-told heap c.args.self.now c.self.view_is c.args.object c.args.from c.in-Some-place_of.place c.in-Some.other c.in-Some-place_of.ensures c.in-Some.ensures c.deref_mut.result.now c.deref_mut.ensures.value c.in_ok-append_between.field-0 c.in_ok-append_between.ensures.text) in
    let long : length c.units.result.now ≡ length (units_at c.args.self.now c.args.from) = ap length c.units.ensures in
    let now_room : words_taken c.args.self.now + length (units_at c.args.self.now c.args.from) ≤ c.args.self.now.limit = omega (arith, c.in_ok-words.ensures.1, long) in
    let room = subst (λ (h : HeapValue). words_taken h + length (units_at h c.args.from) ≤ h.limit) (sym c.self.view_is) now_room in
    let same : length (units_at heap c.args.from) ≡ length (units_at c.args.self.now c.args.from) = ap (λ (h : HeapValue). length (units_at h c.args.from)) c.self.view_is in
    rw items
    (IsKept-grown heap c.args.object (units_at heap c.args.from) c.append_between.new.objects grown c.self.inside.words c.self.inside.literals c.self.inside.class_objects.items c.self.invariant (sym told ∙ c.if-not-branch.false) room (c.self.inside.words + c.in_ok-words.words) (omega (arith, c.in_ok-words.ensures.0, long, same)))

pub returns-clause-grown : goal.returns-clause-grown
returns-clause-grown c =
    let heap = seen c.self.inside in
    let items = with_items_is c.self.inside.objects c.append_between.new.objects (c.append_between.auto.objects ∙ c.deref_mut.ensures.len) in
    let grown = HasGrown-put heap c.args.self.now c.self.view_is c.args.object c.args.from c.in-Some-place_of.place c.in-Some.other c.in-Some-place_of.ensures c.in-Some.ensures c.deref_mut.result.now c.deref_mut.ensures.value c.append_between.new.objects c.in_ok-append_between.ensures.grown in
    rw (items, ← c.self.view_is) (with_more-grown heap c.args.object (units_at heap c.args.from) c.append_between.new.objects grown)

pub returns-clause-text : goal.returns-clause-text
returns-clause-text c =
    let heap = seen c.self.inside in
    let told = (is_text_at-told heap c.args.self.now c.self.view_is c.args.object c.args.from c.in-Some-place_of.place c.in-Some.other c.in-Some-place_of.ensures c.in-Some.ensures c.deref_mut.result.now c.deref_mut.ensures.value c.in_ok-append_between.field-0 c.in_ok-append_between.ensures.text) in
    rw (← c.self.view_is) (sym c.if-not-branch.false ∙ told)
