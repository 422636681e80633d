-- An object is put behind the others: the heap stays sound, and its counter and its indices stay right.
use Rattle.std.proofs.Common.{◌≡◌, ℕ, ◌+◌, ◌≤◌, false, List, refl, sym, ◌∙◌, arith}
use Rattle.std.specs.Prelude.{IsTrue, IsNone}
use Rattle.std.proofs.lemmas.Bool.{true≢false}
use Rattle.std.proofs.lemmas.List.Sums.{sum_by_push}
use Rattle.ti_ids.specs.declared.number.ClassNo.{ClassNo}
use Rattle.java_heap.specs.declared.object.Object.{Object}
use Rattle.java_heap.specs.declared.object.Content.{Content}
use Rattle.java_heap.specs.declared.object.Content.TheVariants.{Fields, Elements, Text, Literal, ClassObject}
use Rattle.java_heap.specs.Objects.{words_of, is_literal, is_class_object}
use Rattle.java_heap.specs.Heaps.{HeapValue, words_taken, literal_of, class_object_of, IsSound}
use Rattle.java_heap.specs.Kept.{LiteralIndex, ClassIndex, IsKept, is_plain}
use Rattle.java_heap.proofs.Firsts.{added, passed_over, only_added}

-- there is room for the object's words, and it is no second one of which there is one
pub record MayAdd (heap : HeapValue) (object : Object) : Type 0 where
  pub room : words_taken heap + words_of object.content ≤ heap.limit
  pub literal : (units : List ℕ) → IsTrue (is_literal units object.content) → IsNone (literal_of heap units)
  pub class_object : (class : ClassNo) → IsTrue (is_class_object class object.content) → IsNone (class_object_of heap class)

-- ---- words

pub words_added : (heap : HeapValue) (object : Object) → words_taken (added heap object) ≡ words_taken heap + words_of object.content
words_added heap object = sum_by_push (λ (o : Object). words_of o.content) heap.objects object

pub sound_added : (heap : HeapValue) (object : Object) → IsSound heap → MayAdd heap object → IsSound (added heap object)
sound_added heap object sound may = record {
  limited = sound.limited;
  within = omega (arith, words_added heap object, may.room);
  literals = λ units. only_added (is_literal units) heap object (may.literal units) (sound.literals units);
  class_objects = λ class. only_added (is_class_object class) heap object (may.class_object class) (sound.class_objects class);
}

-- ---- plain objects

plain_no_literal : (content : Content) (units : List ℕ) → IsTrue (is_plain content) → is_literal units content ≡ false
plain_no_literal (Fields values) units plain = refl
plain_no_literal (Elements values) units plain = refl
plain_no_literal (Text text) units plain = refl
plain_no_literal (Literal text) units plain = absurd cc
plain_no_literal (ClassObject class) units plain = absurd cc

plain_no_class_object : (content : Content) (class : ClassNo) → IsTrue (is_plain content) → is_class_object class content ≡ false
plain_no_class_object (Fields values) class plain = refl
plain_no_class_object (Elements values) class plain = refl
plain_no_class_object (Text text) class plain = refl
plain_no_class_object (Literal text) class plain = absurd cc
plain_no_class_object (ClassObject other) class plain = absurd cc

-- they may be added, and both indices stay right
pub kept_added : (heap : HeapValue) (words : ℕ) (literals : LiteralIndex) (class_objects : ClassIndex) (object : Object) (more : ℕ) → IsKept heap words literals class_objects → more ≡ words_of object.content → words_taken heap + more ≤ heap.limit
    → IsTrue (is_plain object.content) → IsKept (added heap object) (words + more) literals class_objects
kept_added heap words literals class_objects object more kept size room plain =
    let no_literal = λ (units : List ℕ). plain_no_literal object.content units plain in
    let no_class_object = λ (class : ClassNo). plain_no_class_object object.content class plain in
    let may : MayAdd heap object = record {
      room = omega (arith, room, size);
      literal = λ units is. absurd (true≢false (sym is ∙ no_literal units));
      class_object = λ class is. absurd (true≢false (sym is ∙ no_class_object class));
    } in
    record {
      sound = sound_added heap object kept.sound may;
      counted = omega (arith, kept.counted, size, words_added heap object);
      literals_found = λ units. kept.literals_found units ∙ sym (passed_over (is_literal units) heap object (no_literal units));
      class_objects_found = λ class. kept.class_objects_found class ∙ sym (passed_over (is_class_object class) heap object (no_class_object class));
    }
