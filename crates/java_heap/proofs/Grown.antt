-- Units are put behind those of a text that the program made.
use Rattle.std.proofs.Common.{◌≡◌, ℕ, ◌+◌, ◌-◌, ◌<◌, ◌≤◌, zero, suc, Bool, true, false, List, [], ◌∷◌, ◌++◌, length, set, Some, refl, sym, ap, ◌∙◌, arith}
use Rattle.std.specs.Prelude.{slice_get, Result, Ok, Err, OnOk, OnErr, IfOk}
use Rattle.java_heap.specs.declared.object.Object.{Object}
use Rattle.ti_ids.specs.declared.number.ObjNo.{ObjNo}
use Rattle.java_heap.specs.declared.object.Content.{Content}
use Rattle.java_heap.specs.declared.object.Content.TheVariants.{Fields, Elements, Text, Literal, ClassObject}
use Rattle.java_heap.specs.Objects.{is_text, units_of}
use Rattle.java_heap.specs.Heaps.{HeapValue, words_taken, is_text_at, units_at}
use Rattle.java_heap.specs.Changes.{put_behind, with_more, PutsTextOf}
use Rattle.java_heap.specs.Kept.{LiteralIndex, ClassIndex, IsKept}
use Rattle.java_heap.proofs.Firsts.{replaced}
use Rattle.java_heap.proofs.Numbers.{StandsAt, object_at-stands}
use Rattle.java_heap.proofs.Replaced.{MayReplace, kept_replaced, text_may_grow, with_content-replaced, replaced-same}

-- what holds whether or not there is an error
pub OnErr-always : {A E P : Type 0} (r : Result A E) → P → OnErr r P
OnErr-always (Ok x) holds = tt
OnErr-always (Err e) holds = holds

-- what follows where there is none
pub OnOk-follows : {A E P Q : Type 0} (r : Result A E) → OnOk r P → (P → Q) → OnOk r Q
OnOk-follows (Ok x) holds then = then holds
OnOk-follows (Err e) holds then = tt

pub IfOk-follows : {A E : Type 0} {P Q : A → Type 0} (r : Result A E) → IfOk r P → ((x : A) → P x → Q x) → IfOk r Q
IfOk-follows (Ok x) holds then = then x holds
IfOk-follows (Err e) holds then = tt

-- an element that is there
pub found_within : {X : Type 0} (xs : List X) (k : ℕ) → k < length xs → (x : X) × (slice_get xs k ≡ Some x)
found_within [] k within = absurd (omega arith)
found_within (x ∷ xs) zero within = (x, refl)
found_within (x ∷ xs) (suc k) within = found_within xs k (omega arith)

-- ---- what an object holds

-- units are put behind nothing else
put_behind-other : (units : List ℕ) (content : Content) → is_text content ≡ false → put_behind units content ≡ content
put_behind-other units (Fields values) other = refl
put_behind-other units (Elements values) other = refl
put_behind-other units (Text text) other = absurd cc
put_behind-other units (Literal text) other = refl
put_behind-other units (ClassObject class) other = refl

pub units_at-stands : (heap : HeapValue) (n : ObjNo) (place : ℕ) (was : Object) → StandsAt heap n place was → units_at heap n ≡ units_of was.content
units_at-stands heap n place was stands = rw (object_at-stands heap n place was stands) refl

-- ---- the heap

module _ (heap : HeapValue) (n : ObjNo) (place : ℕ) (was : Object) (stands : StandsAt heap n place was) where
  pub is_text_at-stands : is_text_at heap n ≡ is_text was.content
  is_text_at-stands = rw (object_at-stands heap n place was stands) refl

  -- a text may grow where there is room, and what is no text stays
  grown_may : (units : List ℕ) (content new : Content) → was.content ≡ content → is_text content ≡ true → new ≡ put_behind units content → words_taken heap + length units ≤ heap.limit → MayReplace heap place was (record was { content = new }) (length units)
  grown_may units (Text text) new is text_is grown room =
      rw grown (text_may_grow heap place was text (text ++ units) units stands.found is refl room)
  grown_may units (Fields values) new is text_is grown room = absurd cc
  grown_may units (Elements values) new is text_is grown room = absurd cc
  grown_may units (Literal text) new is text_is grown room = absurd cc
  grown_may units (ClassObject class) new is text_is grown room = absurd cc

  module _ (words : ℕ) (literals : LiteralIndex) (class_objects : ClassIndex) (units : List ℕ) (new : Content) (grown : new ≡ put_behind units was.content) where
    pub kept_grown : IsKept heap words literals class_objects → is_text was.content ≡ true → words_taken heap + length units ≤ heap.limit → (total : ℕ) → total ≡ words + length units → IsKept (replaced heap place (record was { content = new })) total literals class_objects
    kept_grown kept text_is room total e = kept_replaced heap words literals class_objects place was (record was { content = new }) (length units) kept (grown_may units was.content new refl text_is grown room) total e

    pub kept_other : IsKept heap words literals class_objects → is_text was.content ≡ false → IsKept (replaced heap place (record was { content = new })) words literals class_objects
    kept_other kept other =
        let same = ap (λ (c : Content). let o : Object = record was { content = c } in o) (grown ∙ put_behind-other units was.content other) in
        rw (replaced-same heap n place was stands (record was { content = new }) same) kept

  pub with_more-replaced : (units : List ℕ) (new : Content) → new ≡ put_behind units was.content → replaced heap place (record was { content = new }) ≡ with_more heap n units
  with_more-replaced units new grown = sym (with_content-replaced heap n place was stands (put_behind units) new (sym grown))

-- ---- a list of objects of which one has grown

-- units were put behind what an object holds, and this is the list of objects then
pub record HasGrown (heap : HeapValue) (n : ObjNo) (units : List ℕ) (new : List Object) : Type 0 where
  pub place : ℕ
  pub was : Object
  pub stands : StandsAt heap n place was
  pub after : new ≡ set heap.objects place (record was { content = put_behind units was.content })

-- an object that has a place stands there
stands_there : (heap seen : HeapValue) (n : ObjNo) (place : ℕ) → heap ≡ seen → (0 < n.0) × (place ≡ n.0 - 1) × (place < length seen.objects) → (was : Object) × StandsAt heap n place was
stands_there heap seen n place same at =
    let long : length heap.objects ≡ length seen.objects = ap (λ (h : HeapValue). length h.objects) same in
    let found = found_within heap.objects place (omega (arith, at.2, long)) in
    (found.0, record { positive = at.0; number = at.1; found = found.1 })

module _ (heap seen : HeapValue) (same : heap ≡ seen) (n from : ObjNo) (place other : ℕ) (at : (0 < n.0) × (place ≡ n.0 - 1) × (place < length seen.objects)) (at_other : (0 < from.0) × (other ≡ from.0 - 1) × (other < length seen.objects)) (old : List Object) (lent : old ≡ heap.objects) where
  pub HasGrown-put : (new : List Object) → PutsTextOf old new place other → HasGrown heap n (units_at heap from) new
  HasGrown-put new puts =
      let own = stands_there heap seen n place same at in
      let source = stands_there heap seen from other same at_other in
      let put = puts own.0 source.0 (ap (λ (os : List Object). slice_get os place) lent ∙ own.1.found) (ap (λ (os : List Object). slice_get os other) lent ∙ source.1.found) in
      record {
        place = place;
        was = own.0;
        stands = own.1;
        after =
            put
            ∙ ap (λ (os : List Object). set os place (record own.0 { content = put_behind (units_of source.0.content) own.0.content })) lent
            ∙ ap (λ (units : List ℕ). set heap.objects place (record own.0 { content = put_behind units own.0.content })) (sym (units_at-stands heap from other source.0 source.1));
      }

  pub is_text_at-told : (grows : Bool) → ((was : Object) → slice_get old place ≡ Some was → grows ≡ is_text was.content) → grows ≡ is_text_at heap n
  is_text_at-told grows told =
      let own = stands_there heap seen n place same at in
      told own.0 (ap (λ (os : List Object). slice_get os place) lent ∙ own.1.found) ∙ sym (is_text_at-stands heap n place own.0 own.1)

module _ (heap : HeapValue) (n : ObjNo) (units : List ℕ) (new : List Object) (has : HasGrown heap n units new) where
  after_grown : (let changed : HeapValue = record heap { objects = new } in changed) ≡ replaced heap has.place (record has.was { content = put_behind units has.was.content })
  after_grown = ap (λ (os : List Object). let changed : HeapValue = record heap { objects = os } in changed) has.after

  pub with_more-grown : (let changed : HeapValue = record heap { objects = new } in changed) ≡ with_more heap n units
  with_more-grown = after_grown ∙ with_more-replaced heap n has.place has.was has.stands units (put_behind units has.was.content) refl

  module _ (words : ℕ) (literals : LiteralIndex) (class_objects : ClassIndex) (kept : IsKept heap words literals class_objects) where
    pub IsKept-grown : is_text_at heap n ≡ true → words_taken heap + length units ≤ heap.limit → (total : ℕ) → total ≡ words + length units → IsKept (record heap { objects = new }) total literals class_objects
    IsKept-grown text_is room total e =
        rw after_grown (kept_grown heap n has.place has.was has.stands words literals class_objects units (put_behind units has.was.content) refl kept (sym (is_text_at-stands heap n has.place has.was has.stands) ∙ text_is) room total e)

    pub IsKept-not_grown : is_text_at heap n ≡ false → IsKept (record heap { objects = new }) words literals class_objects
    IsKept-not_grown other =
        rw after_grown (kept_other heap n has.place has.was has.stands words literals class_objects units (put_behind units has.was.content) refl kept (sym (is_text_at-stands heap n has.place has.was has.stands) ∙ other))
