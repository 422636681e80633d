use Rattle.std.proofs.Common.{◌+◌, ◌≤◌, length, sym, ap, ◌∙◌, subst, arith}
use Rattle.java_heap.specs.declared.object.Content.{Content}
use Rattle.java_heap.specs.declared.object.Object.{Object}
use Rattle.java_heap.specs.Heaps.{HeapValue, words_taken}
use Rattle.java_heap.specs.Inside.{seen}
use Rattle.java_heap.proofs.Numbers.{stands_at}
use Rattle.java_heap.proofs.Replaced.{replaced-same}
use Rattle.java_heap.proofs.Grown.{OnErr-always, is_text_at-stands, kept_grown, kept_other, with_more-replaced}
use Rattle.java_heap.proofs.heap.Heap.append.Goals as goal

pub returns-in_err-append-clause-err : goal.returns-in_err-append-clause-err
returns-in_err-append-clause-err c =
    let heap = seen c.self.inside in
    let stands = stands_at heap c.args.self.now c.args.object c.in-Some.place c.index_mut.result.now c.self.view_is c.in-Some.ensures c.index_mut.ensures.value in
    let same = ap (λ (content : Content). let o : Object = record c.index_mut.result.now { content = content } in o) c.in_err-append.ensures.err in
    OnErr-always c.from_residual-in_err-append.result (replaced-same heap c.args.object c.in-Some.place c.index_mut.result.now stands _ same ∙ c.self.view_is)

pub invariant_of-self-then-not-branch : goal.invariant_of-self-then-not-branch
invariant_of-self-then-not-branch c =
    let heap = seen c.self.inside in
    let stands = stands_at heap c.args.self.now c.args.object c.in-Some.place c.index_mut.result.now c.self.view_is c.in-Some.ensures c.index_mut.ensures.value in
    kept_other heap c.args.object c.in-Some.place c.index_mut.result.now stands c.self.inside.words c.self.inside.literals c.self.inside.class_objects.items c.args.units.now c.append.new.self c.in_ok-append.ensures.grown c.self.invariant (sym c.in_ok-append.ensures.text ∙ c.if-not-branch.true)

pub returns-then-not-branch-clause-grown : goal.returns-then-not-branch-clause-grown
returns-then-not-branch-clause-grown c =
    let heap = seen c.self.inside in
    let stands = stands_at heap c.args.self.now c.args.object c.in-Some.place c.index_mut.result.now c.self.view_is c.in-Some.ensures c.index_mut.ensures.value in
    rw (← c.self.view_is) (with_more-replaced heap c.args.object c.in-Some.place c.index_mut.result.now stands c.args.units.now c.append.new.self c.in_ok-append.ensures.grown)

pub returns-then-not-branch-clause-text : goal.returns-then-not-branch-clause-text
returns-then-not-branch-clause-text c =
    let heap = seen c.self.inside in
    let stands = stands_at heap c.args.self.now c.args.object c.in-Some.place c.index_mut.result.now c.self.view_is c.in-Some.ensures c.index_mut.ensures.value in
    rw (← c.self.view_is) (sym c.if-not-branch.true ∙ c.in_ok-append.ensures.text ∙ sym (is_text_at-stands heap c.args.object c.in-Some.place c.index_mut.result.now stands))

pub invariant_of-self-2 : goal.invariant_of-self-2
invariant_of-self-2 c =
    let heap = seen c.self.inside in
    let stands = stands_at heap c.args.self.now c.args.object c.in-Some.place c.index_mut.result.now c.self.view_is c.in-Some.ensures c.index_mut.ensures.value in
    let room = subst (λ (h : HeapValue). words_taken h + length c.args.units.now ≤ h.limit) (sym c.self.view_is) c.in_ok-words.ensures.1 in
    kept_grown heap c.args.object c.in-Some.place c.index_mut.result.now stands c.self.inside.words c.self.inside.literals c.self.inside.class_objects.items c.args.units.now c.append.new.self c.in_ok-append.ensures.grown c.self.invariant (sym c.in_ok-append.ensures.text ∙ c.if-not-branch.false) room (c.self.inside.words + c.in_ok-words.words) (omega (arith, c.in_ok-words.ensures.0))

pub returns-clause-grown : goal.returns-clause-grown
returns-clause-grown c =
    let heap = seen c.self.inside in
    let stands = stands_at heap c.args.self.now c.args.object c.in-Some.place c.index_mut.result.now c.self.view_is c.in-Some.ensures c.index_mut.ensures.value in
    rw (← c.self.view_is) (with_more-replaced heap c.args.object c.in-Some.place c.index_mut.result.now stands c.args.units.now c.append.new.self c.in_ok-append.ensures.grown)

pub returns-clause-text : goal.returns-clause-text
returns-clause-text c =
    let heap = seen c.self.inside in
    let stands = stands_at heap c.args.self.now c.args.object c.in-Some.place c.index_mut.result.now c.self.view_is c.in-Some.ensures c.index_mut.ensures.value in
    rw (← c.self.view_is) (sym c.if-not-branch.false ∙ c.in_ok-append.ensures.text ∙ sym (is_text_at-stands heap c.args.object c.in-Some.place c.index_mut.result.now stands))
