-- What a `Heap` keeps for itself: a counter of its words, and an index for the objects of which there is one each.
use Rattle.std.specs.Prelude.{◌≡◌, ℕ, ◌==◌, if◌then◌else◌, Bool, true, false, List, Option, Some, None, Vec, slice_index_or}
use Rattle.std.specs.Ordering.{nat_cmp}
use Rattle.std.specs.Cmp.Lexicographic.{slice_cmp}
use Rattle.std.specs.BTreeMap.{BTreeMap, get_by}
use Rattle.std.specs.declared.alloc.Global.{Global}
use Rattle.ti_ids.specs.declared.number.ClassNo.{ClassNo}
use Rattle.ti_ids.specs.declared.number.ObjNo.{ObjNo}
use Rattle.java_heap.specs.declared.object.Content.{Content}
use Rattle.java_heap.specs.declared.object.Content.TheVariants.{Fields, Elements, Text, Literal, ClassObject}
use Rattle.java_heap.specs.Heaps.{HeapValue, words_taken, literal_of, class_object_of, IsSound}

-- an index of the Strings of constants by their units
abbrev pub LiteralIndex : Type 0
LiteralIndex = BTreeMap (Vec ℕ Global) ObjNo

-- an index of the Class objects: at the number of each class the number of its Class object, if there is one
abbrev pub ClassIndex : Type 0
ClassIndex = List (Option ObjNo)

-- what an index has at these units
abbrev pub indexed_literal : LiteralIndex → List ℕ → Option ObjNo
indexed_literal literals units = get_by (λ k. slice_cmp nat_cmp units k.items) literals

-- what an index has for this class
abbrev pub indexed_class_object : ClassIndex → ClassNo → Option ObjNo
indexed_class_object class_objects class = slice_index_or class_objects class.0 None

-- the index has this object for the class, and for every other class what it had
abbrev pub PutsClassObject : ClassIndex → ClassIndex → ClassNo → ObjNo → Type 0
PutsClassObject old new class object =
    (wanted : ClassNo) → indexed_class_object new wanted ≡ (if wanted.0 == class.0 then Some object else indexed_class_object old wanted)

-- the heap is sound, the counter counts its words, and each index finds what is there and nothing else
pub record IsKept (heap : HeapValue) (words : ℕ) (literals : LiteralIndex) (class_objects : ClassIndex) : Type 0 where
  pub sound : IsSound heap
  pub counted : words ≡ words_taken heap
  pub literals_found : (units : List ℕ) → indexed_literal literals units ≡ literal_of heap units
  pub class_objects_found : (class : ClassNo) → indexed_class_object class_objects class ≡ class_object_of heap class

-- one of the objects of which there may be many alike
abbrev pub is_plain : Content → Bool
is_plain (Fields values) = true
is_plain (Elements values) = true
is_plain (Text units) = true
is_plain (Literal units) = false
is_plain (ClassObject class) = false
