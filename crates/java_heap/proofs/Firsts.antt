-- The first object whose content passes, in a heap of which an object is replaced or to which one is added.
use Rattle.std.proofs.Common.{◌≡◌, ℕ, ◌+◌, ◌-◌, ◌<◌, Bool, true, false, cond, [], ◌∷◌, ◌++◌, length, set, Option, Some, None, refl, sym, ap, ◌∙◌, arith, ⊎_elim}
use Rattle.std.specs.Prelude.{slice_get, IsTrue, IsNone}
use Rattle.std.specs.List.{position_from}
use Rattle.std.specs.Option.{option_map, option_or}
use Rattle.ti_ids.specs.declared.number.ObjNo.{ObjNo}
use Rattle.java_heap.specs.declared.object.Object.{Object}
use Rattle.java_heap.specs.declared.object.Content.{Content}
use Rattle.java_heap.specs.Heaps.{HeapValue, next_number, object_at, first_number, IsOnly}
use Rattle.java_heap.proofs.Lists.{position_from-set, position_from_push, slice_get_set, slice_get_push}
use Rattle.java_heap.proofs.Numbers.{object_at-place, found_place}

-- the heap with an object in the place of another
abbrev pub replaced : HeapValue → ℕ → Object → HeapValue
replaced heap place now = record heap { objects = set heap.objects place now }

-- the heap with one object more
abbrev pub added : HeapValue → Object → HeapValue
added heap object = record heap { objects = heap.objects ++ object ∷ [] }

-- ---- replaced by one that passes alike

pub first_number-replaced : (test : Content → Bool) (heap : HeapValue) (place : ℕ) (was now : Object) → slice_get heap.objects place ≡ Some was → test now.content ≡ test was.content → first_number test (replaced heap place now) ≡ first_number test heap
first_number-replaced test heap place was now at same =
    ap (λ (n : Option ℕ). option_map (λ (k : ℕ). let number : ObjNo = record { 0 = k } in number) n) (position_from-set (λ (o : Object). test o.content) 1 heap.objects place was now at same)

found_before : (heap : HeapValue) (n : ObjNo) (object : Object) → 0 < n.0 → slice_get heap.objects (n.0 - 1) ≡ Some object → object_at heap n ≡ Some object
found_before heap n object h at = object_at-place heap n h ∙ at

pub only_replaced : (test : Content → Bool) (heap : HeapValue) (place : ℕ) (was now : Object) → slice_get heap.objects place ≡ Some was → test now.content ≡ test was.content → IsOnly test heap → IsOnly test (replaced heap place now)
only_replaced test heap place was now at same only = λ n object found passes.
    let place_of = found_place (replaced heap place now) n object found in
    let before : first_number test heap ≡ Some n =
    ⊎_elim
    (λ other. only n object (found_before heap n object place_of.0 other) passes)
    (λ here.
    let at_n : slice_get heap.objects (n.0 - 1) ≡ Some was = ap (λ (k : ℕ). slice_get heap.objects k) here.0 ∙ at in
    only n was (found_before heap n was place_of.0 at_n) (sym same ∙ ap (λ (o : Object). test o.content) (sym here.1) ∙ passes))
    (slice_get_set heap.objects place now (n.0 - 1) object place_of.1) in
    first_number-replaced test heap place was now at same ∙ before

-- ---- one more

mapped_or : {A B : Type 0} (f : A → B) (found : Option A) (b : Bool) (last : A) → option_map f (option_or found (cond b (Some last) None)) ≡ option_or (option_map f found) (cond b (Some (f last)) None)
mapped_or f None true last = refl
mapped_or f None false last = refl
mapped_or f (Some x) b last = refl

pub first_number-added : (test : Content → Bool) (heap : HeapValue) (object : Object) → first_number test (added heap object) ≡ option_or (first_number test heap) (cond (test object.content) (Some (next_number heap)) None)
first_number-added test heap object =
    let number = λ (n : ℕ). let number : ObjNo = record { 0 = n } in number in
    let count : 1 + length heap.objects ≡ length heap.objects + 1 = omega arith in
    let passes = λ (o : Object). test o.content in
    ap (λ (found : Option ℕ). option_map number found) (position_from_push passes 1 heap.objects object)
    ∙ mapped_or number (position_from passes 1 heap.objects) (test object.content) (1 + length heap.objects)
    ∙ ap (λ (n : ℕ). option_or (first_number test heap) (cond (test object.content) (Some (number n)) None)) count

or_none : {A : Type 0} (found : Option A) → option_or found None ≡ found
or_none None = refl
or_none (Some x) = refl

-- one that does not pass is not found
pub passed_over : (test : Content → Bool) (heap : HeapValue) (object : Object) → test object.content ≡ false → first_number test (added heap object) ≡ first_number test heap
passed_over test heap object fails =
    first_number-added test heap object
    ∙ ap (λ (b : Bool). option_or (first_number test heap) (cond b (Some (next_number heap)) None)) fails
    ∙ or_none (first_number test heap)

none_is : {A : Type 0} (found : Option A) → IsNone found → found ≡ None
none_is None none = refl
none_is (Some x) none = absurd cc

-- one that passes is found, where none passed before
pub found_last : (test : Content → Bool) (heap : HeapValue) (object : Object) → test object.content ≡ true → IsNone (first_number test heap) → first_number test (added heap object) ≡ Some (next_number heap)
found_last test heap object passes absent =
    first_number-added test heap object
    ∙ ap (λ (found : Option ObjNo). option_or found (cond (test object.content) (Some (next_number heap)) None)) (none_is (first_number test heap) absent)
    ∙ ap (λ (b : Bool). option_or None (cond b (Some (next_number heap)) None)) passes

same_number : (n : ObjNo) (k : ℕ) → n.0 ≡ k → (let number : ObjNo = record { 0 = k } in number) ≡ n
same_number n k e = ap (λ (m : ℕ). let number : ObjNo = record { 0 = m } in number) (sym e)

pub only_added : (test : Content → Bool) (heap : HeapValue) (object : Object) → (IsTrue (test object.content) → IsNone (first_number test heap)) → IsOnly test heap → IsOnly test (added heap object)
only_added test heap object absent only = λ n found_object found passes.
    let place_of = found_place (added heap object) n found_object found in
    ⊎_elim
    (λ before.
    let first = only n found_object (found_before heap n found_object place_of.0 before) passes in
    first_number-added test heap object ∙ ap (λ (f : Option ObjNo). option_or f (cond (test object.content) (Some (next_number heap)) None)) first)
    (λ last.
    let own = ap (λ (o : Object). test o.content) (sym last.1) ∙ passes in
    let number : n.0 ≡ length heap.objects + 1 = omega (arith, last.0, place_of.0) in
    found_last test heap object own (absent own) ∙ ap (λ (m : ObjNo). Some m) (same_number n (length heap.objects + 1) number))
    (slice_get_push heap.objects object (n.0 - 1) found_object place_of.1)
