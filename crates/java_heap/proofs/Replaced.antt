-- An object is put in the place of another: the heap stays sound, and its counter and its indices stay right.
use Rattle.std.proofs.Common.{◌≡◌, ℕ, ◌+◌, ◌-◌, ◌≤◌, List, ◌++◌, length, get_or, set, Option, Some, None, refl, sym, ap, ◌∙◌, arith, length-append}
use Rattle.std.specs.Prelude.{slice_get}
use Rattle.std.specs.Option.{option_map_or}
use Rattle.std.proofs.lemmas.List.{length-set}
use Rattle.std.proofs.lemmas.List.Sums.{sum_by-set}
use Rattle.std.proofs.lemmas.Option.{slice_get_within, get_or_from_slice_get}
use Rattle.ti_ids.specs.declared.number.ClassNo.{ClassNo}
use Rattle.ti_ids.specs.declared.number.ObjNo.{ObjNo}
use Rattle.ti_ids.specs.declared.value.Value.{Value}
use Rattle.java_heap.specs.declared.object.Object.{Object}
use Rattle.java_heap.specs.declared.object.Content.{Content}
use Rattle.java_heap.specs.declared.object.Content.TheVariants.{Fields, Elements, Text}
use Rattle.java_heap.specs.Objects.{words_of, is_literal, is_class_object}
use Rattle.java_heap.specs.Heaps.{HeapValue, words_taken, object_at, IsSound}
use Rattle.java_heap.specs.Changes.{with_changed, with_content}
use Rattle.java_heap.specs.Kept.{LiteralIndex, ClassIndex, IsKept}
use Rattle.java_heap.proofs.Firsts.{replaced, first_number-replaced, only_replaced}
use Rattle.java_heap.proofs.Lists.{set-found}
use Rattle.java_heap.proofs.Numbers.{StandsAt, object_at-stands}

-- an object may take the place of another: it takes `more` words than that, for which there is room, and the same look-ups find it
pub record MayReplace (heap : HeapValue) (place : ℕ) (was now : Object) (more : ℕ) : Type 0 where
  pub at : slice_get heap.objects place ≡ Some was
  pub words : words_of now.content ≡ words_of was.content + more
  pub room : words_taken heap + more ≤ heap.limit
  pub literal : (units : List ℕ) → is_literal units now.content ≡ is_literal units was.content
  pub class_object : (class : ClassNo) → is_class_object class now.content ≡ is_class_object class was.content

-- ---- what stays

words_replaced : (heap : HeapValue) (place : ℕ) (was now : Object) (more : ℕ) → MayReplace heap place was now more → words_taken (replaced heap place now) ≡ words_taken heap + more
words_replaced heap place was now more may =
    let words = λ (o : Object). words_of o.content in
    let sum = sum_by-set words heap.objects place now was (slice_get_within heap.objects place was may.at) in
    let own : words_of (get_or heap.objects place was).content ≡ words_of was.content = ap words (get_or_from_slice_get heap.objects place was was may.at) in
    let taken : words_taken (replaced heap place now) + words_of (get_or heap.objects place was).content ≡ words_taken heap + words_of now.content = sum in
    omega (arith, taken, own, may.words)

pub sound_replaced : (heap : HeapValue) (place : ℕ) (was now : Object) (more : ℕ) → IsSound heap → MayReplace heap place was now more → IsSound (replaced heap place now)
sound_replaced heap place was now more sound may = record {
  limited = sound.limited;
  within = omega (arith, words_replaced heap place was now more may, may.room);
  literals = λ units. only_replaced (is_literal units) heap place was now may.at (may.literal units) (sound.literals units);
  class_objects = λ class. only_replaced (is_class_object class) heap place was now may.at (may.class_object class) (sound.class_objects class);
}

pub kept_replaced : (heap : HeapValue) (words : ℕ) (literals : LiteralIndex) (class_objects : ClassIndex) (place : ℕ) (was now : Object) (more : ℕ) → IsKept heap words literals class_objects → MayReplace heap place was now more → (total : ℕ) → total ≡ words + more → IsKept (replaced heap place now) total literals class_objects
kept_replaced heap words literals class_objects place was now more kept may total e = record {
  sound = sound_replaced heap place was now more kept.sound may;
  counted = omega (arith, e, kept.counted, words_replaced heap place was now more may);
  literals_found = λ units. kept.literals_found units ∙ sym (first_number-replaced (is_literal units) heap place was now may.at (may.literal units));
  class_objects_found = λ class. kept.class_objects_found class ∙ sym (first_number-replaced (is_class_object class) heap place was now may.at (may.class_object class));
}

-- ---- what may be replaced

no_more : (heap : HeapValue) → IsSound heap → words_taken heap + 0 ≤ heap.limit
no_more heap sound = omega (arith, sound.within)

-- an instance with another field
pub field_may_change : (heap : HeapValue) (place : ℕ) (was : Object) (fields new : List Value) (at : ℕ) (value : Value) → IsSound heap → slice_get heap.objects place ≡ Some was → was.content ≡ Fields fields → new ≡ set fields at value
    → MayReplace heap place was (record was { content = Fields new }) 0
field_may_change heap place was fields new at value sound there old put =
    let before : words_of was.content ≡ 2 + length fields = ap words_of old in
    let long : length new ≡ length fields = ap length put ∙ length-set fields at value in
    record {
      at = there;
      words = omega (arith, before, long);
      room = no_more heap sound;
      literal = λ units. sym (ap (is_literal units) old);
      class_object = λ class. sym (ap (is_class_object class) old);
    }

-- an array with another element
pub elem_may_change : (heap : HeapValue) (place : ℕ) (was : Object) (elements new : List Value) (at : ℕ) (value : Value) → IsSound heap → slice_get heap.objects place ≡ Some was → was.content ≡ Elements elements → new ≡ set elements at value
    → MayReplace heap place was (record was { content = Elements new }) 0
elem_may_change heap place was elements new at value sound there old put =
    let before : words_of was.content ≡ 2 + length elements = ap words_of old in
    let long : length new ≡ length elements = ap length put ∙ length-set elements at value in
    record {
      at = there;
      words = omega (arith, before, long);
      room = no_more heap sound;
      literal = λ units. sym (ap (is_literal units) old);
      class_object = λ class. sym (ap (is_class_object class) old);
    }

-- any object with another reference at its side
pub side_may_change : (heap : HeapValue) (place : ℕ) (was : Object) (side : Option ObjNo) → IsSound heap → slice_get heap.objects place ≡ Some was → MayReplace heap place was (record was { side = side }) 0
side_may_change heap place was side sound there = record {
  at = there;
  words = omega arith;
  room = no_more heap sound;
  literal = λ units. refl;
  class_object = λ class. refl;
}

-- a text with more units
pub text_may_grow : (heap : HeapValue) (place : ℕ) (was : Object) (units new more : List ℕ) → slice_get heap.objects place ≡ Some was → was.content ≡ Text units → new ≡ units ++ more
    → words_taken heap + length more ≤ heap.limit → MayReplace heap place was (record was { content = Text new }) (length more)
text_may_grow heap place was units new more there old put room =
    let before : words_of was.content ≡ 2 + length units = ap words_of old in
    let long : length new ≡ length units + length more = ap length put ∙ length-append units more in
    record {
      at = there;
      words = omega (arith, before, long);
      room = room;
      literal = λ wanted. sym (ap (is_literal wanted) old);
      class_object = λ class. sym (ap (is_class_object class) old);
    }

-- ---- how contracts say it

module _ (heap : HeapValue) (n : ObjNo) (place : ℕ) (was : Object) (stands : StandsAt heap n place was) where
  pub with_changed-replaced : (change : Object → Object) → with_changed heap n change ≡ replaced heap place (change was)
  with_changed-replaced change =
      ap (λ (found : Option Object). let new : HeapValue = record heap { objects = option_map_or (λ (o : Object). set heap.objects (n.0 - 1) (change o)) found heap.objects } in new) (object_at-stands heap n place was stands)
      ∙ ap (λ (k : ℕ). replaced heap k (change was)) (sym stands.number)

  pub with_content-replaced : (change : Content → Content) (content : Content) → change was.content ≡ content → with_content heap n change ≡ replaced heap place (record was { content = content })
  with_content-replaced change content e =
      with_changed-replaced (λ (o : Object). record o { content = change o.content }) ∙ ap (λ (c : Content). replaced heap place (record was { content = c })) e

  -- an object that is put where it stands changes nothing
  pub replaced-same : (now : Object) → now ≡ was → replaced heap place now ≡ heap
  replaced-same now e =
      ap (λ (os : List Object). let new : HeapValue = record heap { objects = os } in new) (ap (λ (o : Object). set heap.objects place o) e ∙ set-found heap.objects place was stands.found)

  -- nor does a change that leaves what it holds
  pub with_content-same : (change : Content → Content) → change was.content ≡ was.content → with_content heap n change ≡ heap
  with_content-same change e = with_content-replaced change was.content e ∙ replaced-same was refl

-- what is nowhere isn't changed
pub with_changed-nowhere : (heap : HeapValue) (n : ObjNo) (change : Object → Object) → object_at heap n ≡ None → with_changed heap n change ≡ heap
with_changed-nowhere heap n change none =
    ap (λ (found : Option Object). let new : HeapValue = record heap { objects = option_map_or (λ (o : Object). set heap.objects (n.0 - 1) (change o)) found heap.objects } in new) none
