-- A heap of which one object is changed stays sound: a field, an element, the side of an object is set, or a text grows.
use Rattle.std.proofs.Common.{◌≡◌, ℕ, ◌+◌, ◌-◌, ◌≤◌, length, Option, Some, None, refl, sym, ap, arith}
use Rattle.std.specs.Prelude.{slice_get, slice_set}
use Rattle.std.specs.Option.{option_map_or}
use Rattle.ti_ids.specs.declared.number.ObjNo.{ObjNo}
use Rattle.ti_ids.specs.declared.value.Value.{Value}
use Rattle.java_heap.specs.declared.object.Object.{Object}
use Rattle.java_heap.specs.declared.object.Content.{Content}
use Rattle.java_heap.specs.declared.object.Content.TheVariants.{Fields, Elements, Text}
use Rattle.java_heap.specs.Objects.{words_of, is_literal, is_class_object}
use Rattle.java_heap.specs.Heaps.{HeapValue, words_taken, object_at, IsSound}
use Rattle.java_heap.specs.Changes.{put_field, put_elem, put_behind, with_changed, with_field, with_elem, with_side, with_more}
use Rattle.java_heap.proofs.Numbers.{found_place}
use Rattle.java_heap.proofs.Replaced.{MayReplace, elem_may_change, field_may_change, side_may_change, sound_replaced, text_may_grow}
use Rattle.std.specs.Prelude.{List, ◌++◌}

module _ (heap : HeapValue) (sound : IsSound heap) where
  -- an object may be changed so wherever it stands, and takes so many words more
  abbrev MayChange : (Object → Object) → (Object → ℕ) → Type 0
  MayChange change more = (place : ℕ) (was : Object) → slice_get heap.objects place ≡ Some was → MayReplace heap place was (change was) (more was)

  changed_sound : (n : ObjNo) (change : Object → Object) (more : Object → ℕ) → MayChange change more → IsSound (with_changed heap n change)
  changed_sound n change more may = by (object_at heap n) refl
    where
      by : (found : Option Object) → object_at heap n ≡ found
          → IsSound (record heap { objects = option_map_or (λ o. slice_set heap.objects (n.0 - 1) (change o)) found heap.objects })
      by None is = sound
      by (Some was) is =
          let at = found_place heap n was is in
          sound_replaced heap (n.0 - 1) was (change was) (more was) sound (may (n.0 - 1) was at.1)

  -- ---- what may be changed

  -- an object of the same content
  same_may_replace : (place : ℕ) (was : Object) (content : Content) → slice_get heap.objects place ≡ Some was → was.content ≡ content
      → MayReplace heap place was (record was { content = content }) 0
  same_may_replace place was content at same =
      let size : words_of was.content ≡ words_of content = ap words_of same in
      record {
        at = at;
        words = omega (arith, size);
        room = omega (arith, sound.within);
        literal = λ units. ap (is_literal units) (sym same);
        class_object = λ class. ap (is_class_object class) (sym same);
      }

  field_by : (at : ℕ) (v : Value) (place : ℕ) (was : Object) (content : Content) → slice_get heap.objects place ≡ Some was
      → was.content ≡ content → MayReplace heap place was (record was { content = put_field at v content }) 0
  field_by at v place was (Fields fields) there is =
      field_may_change heap place was fields (slice_set fields at v) at v sound there is refl
  field_by at v place was content there is = same_may_replace place was content there is

  elem_by : (at : ℕ) (v : Value) (place : ℕ) (was : Object) (content : Content) → slice_get heap.objects place ≡ Some was
      → was.content ≡ content → MayReplace heap place was (record was { content = put_elem at v content }) 0
  elem_by at v place was (Elements elements) there is =
      elem_may_change heap place was elements (slice_set elements at v) at v sound there is refl
  elem_by at v place was content there is = same_may_replace place was content there is

  -- a text takes the words of the units that it grows by
  abbrev grown_by : List ℕ → Content → ℕ
  grown_by units (Text old) = length units
  grown_by units content = 0

  more_by : (units : List ℕ) (place : ℕ) (was : Object) (content : Content) → words_taken heap + length units ≤ heap.limit
      → slice_get heap.objects place ≡ Some was → was.content ≡ content
      → MayReplace heap place was (record was { content = put_behind units content }) (grown_by units content)
  more_by units place was (Text old) room there is = text_may_grow heap place was old (old ++ units) units there is refl room
  more_by units place was content room there is = same_may_replace place was content there is

  -- ---- the heap behind each change

  pub field_sound : (n : ObjNo) (at : ℕ) (v : Value) → IsSound (with_field heap n at v)
  field_sound n at v =
      changed_sound n (λ o. record o { content = put_field at v o.content }) (λ o. 0)
      (λ place was there. field_by at v place was was.content there refl)

  pub elem_sound : (n : ObjNo) (at : ℕ) (v : Value) → IsSound (with_elem heap n at v)
  elem_sound n at v =
      changed_sound n (λ o. record o { content = put_elem at v o.content }) (λ o. 0)
      (λ place was there. elem_by at v place was was.content there refl)

  pub side_sound : (n : ObjNo) (side : Option ObjNo) → IsSound (with_side heap n side)
  side_sound n side =
      changed_sound n (λ o. record o { side = side }) (λ o. 0) (λ place was there. side_may_change heap place was side sound there)

  pub more_sound : (n : ObjNo) (units : List ℕ) → words_taken heap + length units ≤ heap.limit → IsSound (with_more heap n units)
  more_sound n units room =
      changed_sound n (λ o. record o { content = put_behind units o.content }) (λ o. grown_by units o.content)
      (λ place was there. more_by units place was was.content room there refl)
