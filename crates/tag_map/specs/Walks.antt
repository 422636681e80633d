-- Which objects are found by their tags, in the order of allocation (JVM TI, "GetObjectsWithTags" and "IterateThroughHeap"). What tag
-- each object has is given by `tags`.
use Rattle.std.specs.Prelude.{ℕ, zero, suc, ℤ, pos, ◌/◌, ◌%◌, ◌==◌, nat_lt, Bool, true, false, not, ◌&&◌, ◌||◌, if◌then◌else◌}
use Rattle.std.specs.Prelude.{List, [], ◌∷◌, ◌++◌, length, map, filter, filter_map, Option, Some, None}
use Rattle.std.specs.List.{list_any}
use Rattle.std.specs.Option.{option_map_or}
use Rattle.std.specs.Ordering.{int_eq}
use Rattle.ti_ids.specs.declared.number.ObjNo.{ObjNo}
use Rattle.ti_ids.specs.declared.number.ClassNo.{ClassNo}
use Rattle.java_heap.specs.Heaps.{HeapValue, class_at, class_object_of}
use Rattle.tag_map.specs.Tags.{Change, Sets}

-- the first objects, so many of them
abbrev pub first_objects : ℕ → List ObjNo
first_objects zero = []
first_objects (suc n) = first_objects n ++ record { 0 = suc n } ∷ []

abbrev pub is_tagged : (ObjNo → ℤ) → ObjNo → Bool
is_tagged tags object = not (int_eq (tags object) (pos 0))

-- ---- GetObjectsWithTags

-- an object and its tag, where it has one and that is among these
abbrev pub found_with : (ObjNo → ℤ) → List ℤ → ObjNo → Option (ObjNo × ℤ)
found_with tags wanted object = if is_tagged tags object && list_any (int_eq (tags object)) wanted then Some (object, tags object) else None

-- those among so many objects
abbrev pub objects_with : ℕ → (ObjNo → ℤ) → List ℤ → List (ObjNo × ℤ)
objects_with count tags wanted = filter_map (found_with tags wanted) (first_objects count)

-- ---- IterateThroughHeap: each bit of a filter leaves objects out ("Heap Filter Flags")

-- tagged objects, untagged ones, those of a tagged class, those of an untagged class
abbrev pub tagged_bit : ℕ
tagged_bit = 4

abbrev pub untagged_bit : ℕ
untagged_bit = 8

abbrev pub class_tagged_bit : ℕ
class_tagged_bit = 16

abbrev pub class_untagged_bit : ℕ
class_untagged_bit = 32

-- a number that is made of these bits alone
abbrev pub is_filter : ℕ → Bool
is_filter bits = bits % 4 == 0 && nat_lt bits 64

abbrev pub has_bit : ℕ → ℕ → Bool
has_bit bits bit = bits / bit % 2 == 1

abbrev pub leaves_out : ℕ → Bool → Bool → Bool
leaves_out bits tagged class_tagged =
    has_bit bits tagged_bit && tagged
    || has_bit bits untagged_bit && not tagged
    || has_bit bits class_tagged_bit && class_tagged
    || has_bit bits class_untagged_bit && not class_tagged

-- the Class object is tagged; a class whose Class object wasn't made is untagged
abbrev pub is_class_tagged : HeapValue → (ObjNo → ℤ) → ClassNo → Bool
is_class_tagged heap tags class = option_map_or (is_tagged tags) (class_object_of heap class) false

-- a direct instance of the class, where one is given
abbrev pub is_of_class : Option ClassNo → ClassNo → Bool
is_of_class wanted class = option_map_or (λ (n : ClassNo). n.0 == class.0) wanted true

abbrev pub is_visited : HeapValue → (ObjNo → ℤ) → ℕ → Option ClassNo → ObjNo → Bool
is_visited heap tags bits wanted object = elim (class_at heap object) [
  | None ↦ false
  | Some class ↦ is_of_class wanted class && not (leaves_out bits (is_tagged tags object) (is_class_tagged heap tags class))
]

-- the objects that are visited; all filters are tried before a tag is written
abbrev pub walked : HeapValue → (ObjNo → ℤ) → ℕ → Option ClassNo → List ObjNo
walked heap tags bits wanted = filter (is_visited heap tags bits wanted) (first_objects (length heap.objects))

-- what a walk changes that writes a tag to each object that it visits
abbrev pub written : List ObjNo → Option ℤ → List Change
written visited None = []
written visited (Some tag) = map (λ object. Sets object tag) visited
