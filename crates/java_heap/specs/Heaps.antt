-- What a heap holds: JVM specification 2.5.3. Its objects have the numbers from 1 on, and nothing is collected.
use Rattle.std.specs.Prelude.{◌≡◌, ℕ, ◌+◌, ◌-◌, ◌^◌, ◌<◌, ◌≤◌, ◌==◌, nat_le, Bool, false, if◌then◌else◌, ⊤, IsTrue, List, [], length, slice_get, sum_by, All, Option, Some, None, IfSome, option_map, option_and_then, unwrap_or}
use Rattle.std.specs.List.{position_from}
use Rattle.std.specs.Option.{option_map_or}
use Rattle.ti_ids.specs.declared.number.ClassNo.{ClassNo}
use Rattle.ti_ids.specs.declared.number.ObjNo.{ObjNo}
use Rattle.ti_ids.specs.declared.value.Value.{Value}
use Rattle.ti_ids.specs.declared.value.Value.TheVariants.{Int, Long, Ref}
use Rattle.java_heap.specs.declared.object.Object.{Object}
use Rattle.java_heap.specs.declared.object.Content.{Content}
use Rattle.java_heap.specs.Objects.{words_of, values_of, fields_of, elements_of, text_of, class_named_by, is_text, is_literal, is_class_object}

-- how many words the objects may take, and the objects in order of allocation
pub record HeapValue : Type 0 where
  pub limit : ℕ
  pub objects : List Object

-- the words that the objects take
abbrev pub words_taken : HeapValue → ℕ
words_taken heap = sum_by (λ o. words_of o.content) heap.objects

-- whether so many words more are within the limit
abbrev pub has_room : HeapValue → ℕ → Bool
has_room heap words = nat_le (words_taken heap + words) heap.limit

-- ---- objects by number

-- the number that the next object gets
abbrev pub next_number : HeapValue → ObjNo
next_number heap = record { 0 = length heap.objects + 1 }

-- an object has this number
abbrev pub IsThere : HeapValue → ObjNo → Type 0
IsThere heap n = (0 < n.0) × (n.0 ≤ length heap.objects)

-- the object of a number
abbrev pub object_at : HeapValue → ObjNo → Option Object
object_at heap n = if n.0 == 0 then None else slice_get heap.objects (n.0 - 1)

-- its class
abbrev pub class_at : HeapValue → ObjNo → Option ClassNo
class_at heap n = option_map (λ o. o.class) (object_at heap n)

-- what it holds
abbrev pub content_at : HeapValue → ObjNo → Option Content
content_at heap n = option_map (λ o. o.content) (object_at heap n)

-- what stands at its side
abbrev pub side_at : HeapValue → ObjNo → Option (Option ObjNo)
side_at heap n = option_map (λ o. o.side) (object_at heap n)

-- the field at a place of an instance
abbrev pub field_at : HeapValue → ObjNo → ℕ → Option Value
field_at heap n place = option_and_then (λ values. slice_get values place) (option_and_then fields_of (content_at heap n))

-- the element at a place of an array
abbrev pub elem_at : HeapValue → ObjNo → ℕ → Option Value
elem_at heap n place = option_and_then (λ values. slice_get values place) (option_and_then elements_of (content_at heap n))

-- how many elements an array has
abbrev pub array_length_at : HeapValue → ObjNo → Option ℕ
array_length_at heap n = option_map length (option_and_then elements_of (content_at heap n))

-- the units of a String or a StringBuilder
abbrev pub text_at : HeapValue → ObjNo → Option (List ℕ)
text_at heap n = option_and_then text_of (content_at heap n)

-- the same, where what has no text has no units
abbrev pub units_at : HeapValue → ObjNo → List ℕ
units_at heap n = unwrap_or (text_at heap n) []

-- whether an object holds a text that the program made, which alone may grow
abbrev pub is_text_at : HeapValue → ObjNo → Bool
is_text_at heap n = option_map_or is_text (content_at heap n) false

-- the class that a Class object stands for
abbrev pub class_named_at : HeapValue → ObjNo → Option ClassNo
class_named_at heap n = option_and_then class_named_by (content_at heap n)

-- ---- objects of which there is one each

-- the number of the first object whose content passes
abbrev pub first_number : (Content → Bool) → HeapValue → Option ObjNo
first_number test heap = option_map (λ n. record { 0 = n }) (position_from (λ o. test o.content) 1 heap.objects)

-- the String of the constant of these units: JVM specification 5.1
abbrev pub literal_of : HeapValue → List ℕ → Option ObjNo
literal_of heap units = first_number (is_literal units) heap

-- the Class object of a class
abbrev pub class_object_of : HeapValue → ClassNo → Option ObjNo
class_object_of heap class = first_number (is_class_object class) heap

-- an object whose content passes is the first one, so that there is one at most
abbrev pub IsOnly : (Content → Bool) → HeapValue → Type 0
IsOnly test heap = (n : ObjNo) (object : Object) → object_at heap n ≡ Some object → IsTrue (test object.content) → first_number test heap ≡ Some n

-- ---- references: JVM specification 2.4

-- a value that is a reference is null or names an object that is there
abbrev pub NamesThere : HeapValue → Value → Type 0
NamesThere heap (Ref reference) = IfSome reference (IsThere heap)
NamesThere heap (Int i) = ⊤
NamesThere heap (Long i) = ⊤

-- so does each reference of an object
pub record RefersThere (heap : HeapValue) (object : Object) : Type 0 where
  pub values : All (NamesThere heap) (values_of object.content)
  pub side : IfSome object.side (IsThere heap)

-- so does each reference of each object
abbrev pub AllReferThere : HeapValue → Type 0
AllReferThere heap = All (RefersThere heap) heap.objects

-- ---- what each heap keeps

-- its words, one String for each constant and one Class object for each class
pub record IsSound (heap : HeapValue) : Type 0 where
  pub limited : heap.limit < 2 ^ 31
  pub within : words_taken heap ≤ heap.limit
  pub literals : (units : List ℕ) → IsOnly (is_literal units) heap
  pub class_objects : (class : ClassNo) → IsOnly (is_class_object class) heap
