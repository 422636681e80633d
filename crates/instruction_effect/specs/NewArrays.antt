-- `newarray`, `anewarray` and `multianewarray` (JVM specification 2.4 and 6.5). Their objects are made without an event.
use Rattle.std.specs.Prelude.{ℕ, zero, suc, ◌+◌, ◌-◌, ◌*◌, ℤ, pos, negsuc, Bool, ◌&&◌, nat_le, List, [], ◌∷◌, ◌++◌, length, drop, replicate, flat_map, Option, Some, None, codes, if◌then◌else◌}
use Rattle.std.specs.List.{range_with_len}
use Rattle.ti_ids.specs.Maybe.{◌>>=◌}
use Rattle.ti_ids.specs.declared.number.ObjNo.{ObjNo}
use Rattle.ti_ids.specs.declared.number.ClassNo.{ClassNo}
use Rattle.ti_ids.specs.declared.value.Value.TheVariants as value
use Rattle.jv_names.specs.Names.{Name}
use Rattle.class_code.specs.declared.instr.Primitive.{Primitive}
use Rattle.class_code.specs.declared.instr.Primitive.TheVariants as primitive
use Rattle.class_tree.specs.Tree.{class_at}
use Rattle.thread_frames.specs.Operands.{OperandStack}
use Rattle.java_heap.specs.declared.object.Content.{Content}
use Rattle.java_heap.specs.declared.object.Content.TheVariants.{Elements}
use Rattle.java_heap.specs.Objects.{fresh, words_of}
use Rattle.java_heap.specs.Heaps.{words_taken, next_number}
use Rattle.ti_ids.specs.declared.state.InitState.TheVariants as states
use Rattle.link_versions.specs.Classes.{Class, number_of}
use Rattle.link_versions.specs.Subtypes.{type_of}
use Rattle.bytecode_local.specs.Kinds.{int_at}
use Rattle.machine_state.specs.Linked.{array_type}
use Rattle.machine_state.specs.Acts.{Act, Changes, Makes, PutsElement, AddsClass}
use Rattle.instruction_effect.specs.Outcomes.{Site, Outcome, Throws, Fills, misfit, or_misfit, when_room, next_class}
use Rattle.instruction_effect.specs.Operands.{kind_of_desc, zero_of, gives_object, classes_with, when_there}

-- ---- names of array classes: descriptors (section 4.4.1)

abbrev pub primitive_array : Primitive → Name
primitive_array primitive.Boolean = codes "[Z"
primitive_array primitive.Char = codes "[C"
primitive_array primitive.Byte = codes "[B"
primitive_array primitive.Short = codes "[S"
primitive_array primitive.Int = codes "[I"
primitive_array primitive.Long = codes "[J"

-- the class of the arrays whose components are of a class
abbrev pub array_over : Name → Name
array_over name = elim (array_type name) [ None ↦ codes "[L" ++ name ++ codes ";" | Some t ↦ codes "[" ++ name ]

-- the descriptor of the components
abbrev pub component_name : Name → Name
component_name name = drop 1 name

-- so many elements of a new array of this class
abbrev pub first_elements : Name → ℕ → Content
first_elements name n = Elements (replicate n (zero_of (kind_of_desc (component_name name))))

-- ---- one array

abbrev pub negative_length : List Act → Outcome
negative_length acts = Throws acts (codes "java/lang/NegativeArraySizeException")

abbrev pub new_of_length : Site → List Act → ClassNo → Name → ℤ → Outcome
new_of_length site acts class name (pos n) =
    let elements = first_elements name n in
    when_room site.core.heap acts (Changes (Makes (fresh class elements)) ∷ []) elements (λ all. gives_object site all 1)
new_of_length site acts class name (negsuc n) = negative_length acts

abbrev pub new_array : Site → Name → Outcome
new_array site name = when_there site name (λ there acts class. or_misfit (int_at there.frame.stack 0) (new_of_length there acts class name))

abbrev pub newarray_outcome : Site → Primitive → Outcome
newarray_outcome site of = new_array site (primitive_array of)

abbrev pub anewarray_outcome : Site → ℕ → Outcome
anewarray_outcome site index = or_misfit (class_at site.pool index) (λ name. new_array site (array_over name))

-- ---- arrays in arrays. An array of lengths n, m, .. has n elements, each of which is an array of lengths m, ..; the elements of the arrays
-- of the last length stay as they begin. An array is made before those that its elements hold, element by element, and an element is set
-- once its array has all that it holds. So the number of each is known before.

-- how many arrays one of these lengths is, with all that it holds
abbrev pub array_count : List ℕ → ℕ
array_count [] = 0
array_count (n ∷ inner) = 1 + n * array_count inner

-- the number of the array, of these lengths, in an element: those of the elements before it come right behind the array that has it
abbrev pub number_in : ObjNo → List ℕ → ℕ → ObjNo
number_in array inner place = record { 0 = array.0 + 1 + place * array_count inner }

-- the classes with that of an array of these lengths, and those of all that it holds
abbrev pub with_array_classes : List Class → List ℕ → Name → List Class
with_array_classes classes [] name = classes
with_array_classes classes (n ∷ inner) name = with_array_classes (classes_with classes name) inner (component_name name)

-- the classes at the making of what an element holds: the first element's arrays are the first ones of their classes
abbrev pub classes_at : List Class → List ℕ → Name → ℕ → List Class
classes_at classes lengths name zero = classes_with classes name
classes_at classes lengths name (suc place) = with_array_classes classes lengths name

-- One array of this class and length; the class is added where it isn't there.
abbrev pub makes_one : List Class → Name → ℕ → List Act
makes_one classes name n = elim (number_of classes name) [
  | Some class ↦ Changes (Makes (fresh class (first_elements name n))) ∷ []
  | None ↦ Changes (AddsClass name states.Initialized) ∷ Changes (Makes (fresh (next_class classes) (first_elements name n))) ∷ []
]

abbrev pub sets_element : ObjNo → ℕ → ObjNo → Act
sets_element array place held = Changes (PutsElement array place (value.Ref (Some held)))

-- an array of these lengths, which gets this number, with all that it holds
abbrev pub makes_arrays : List Class → List ℕ → Name → ObjNo → List Act
makes_arrays classes [] name array = []
makes_arrays classes (n ∷ []) name array = makes_one classes name n
makes_arrays classes (n ∷ m ∷ inner) name array =
    makes_one classes name n ++ flat_map (λ place.
    let held = number_in array (m ∷ inner) place in
    makes_arrays (classes_at classes (n ∷ m ∷ inner) name place) (m ∷ inner) (component_name name) held ++ sets_element array place held ∷ []
    ) (range_with_len 0 n)

-- ---- as far as there is room

-- the heap words of the object that an act makes
abbrev pub words_made : Act → ℕ
words_made (Changes (Makes object)) = words_of object.content
words_made act = 0

-- the acts up to the first object that doesn't fit in so many heap words
abbrev pub while_room : ℕ → List Act → List Act
while_room words [] = []
while_room words (act ∷ acts) = if nat_le (words_made act) words then act ∷ while_room (words - words_made act) acts else []

-- ---- multianewarray

-- so many lengths from the operand stack, of which the last one is the top
abbrev pub lengths_at : OperandStack → ℕ → Option (List ℤ)
lengths_at stack zero = Some []
lengths_at stack (suc below) = int_at stack below >>= λ n. lengths_at stack below >>= λ ns. Some (n ∷ ns)

-- the same as sizes, where none is negative
abbrev pub sizes_of : List ℤ → Option (List ℕ)
sizes_of [] = Some []
sizes_of (pos n ∷ lengths) = sizes_of lengths >>= λ ns. Some (n ∷ ns)
sizes_of (negsuc n ∷ lengths) = None

-- These acts are done as far as there is room. The first object that they make is the outermost array.
abbrev pub given : Site → ℕ → List Act → List Act → Outcome
given site count before making =
    let done = while_room (site.core.heap.limit - words_taken site.core.heap) making in
    elim (drop (length done) making) [
      | [] ↦ gives_object site (before ++ done) count (next_number site.core.heap)
      | act ∷ more ↦ Fills (before ++ done)
    ]

abbrev pub new_of_sizes : Site → List Act → Name → ℕ → Option (List ℕ) → Outcome
new_of_sizes site acts name count None = negative_length acts
new_of_sizes site acts name count (Some sizes) =
    given site count acts (makes_arrays site.classes sizes name (next_number site.core.heap))

-- There is at least one length, and at most one for each dimension of the class.
abbrev pub has_dimensions : Site → ClassNo → ℕ → Bool
has_dimensions site class count = nat_le 1 count && nat_le count (type_of site.classes class).0

abbrev pub multianewarray_outcome : Site → ℕ → ℕ → Outcome
multianewarray_outcome site index count = or_misfit (class_at site.pool index) (λ name. when_there site name (λ there acts class.
    if has_dimensions there class count
    then or_misfit (lengths_at there.frame.stack count) (λ lengths. new_of_sizes there acts name count (sizes_of lengths))
    else misfit))
