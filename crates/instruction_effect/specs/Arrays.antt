-- `arraylength`, the loads and stores of array elements, and the family of all array instructions (JVM specification 6.5).
use Rattle.std.specs.Prelude.{ℕ, zero, suc, ℤ, pos, negsuc, Bool, true, false, [], ◌∷◌, Option, Some, None, option_map, codes, if◌then◌else◌}
use Rattle.ti_ids.specs.Maybe.{◌>>=◌}
use Rattle.ti_ids.specs.declared.number.ObjNo.{ObjNo}
use Rattle.ti_ids.specs.declared.value.Value.{Value}
use Rattle.ti_ids.specs.declared.value.Value.TheVariants as value
use Rattle.class_code.specs.declared.instr.Element.{Element}
use Rattle.class_code.specs.declared.instr.Element.TheVariants as of
use Rattle.class_code.specs.declared.instr.Kind.{Kind}
use Rattle.class_code.specs.declared.instr.Kind.TheVariants as kind
use Rattle.class_code.specs.declared.instr.Conversion.TheVariants as conversion
use Rattle.class_code.specs.declared.instr.PoolOp.TheVariants as pool_op
use Rattle.class_code.specs.declared.instr.Simple.TheVariants as simple
use Rattle.class_code.specs.declared.instr.Instr.{Instr}
use Rattle.class_code.specs.declared.instr.Instr.TheVariants as instr
use Rattle.jv_number.specs.Numbers.{modulo}
use Rattle.jv_number.specs.Values.{converted}
use Rattle.java_heap.specs.Heaps as heaps
use Rattle.link_versions.specs.declared.class.Element.TheVariants as element
use Rattle.link_versions.specs.Subtypes.{Typed, type_of, is_type_below}
use Rattle.bytecode_local.specs.Changes.{exchange}
use Rattle.bytecode_local.specs.Kinds.{kind_at, int_at, reference_at}
use Rattle.machine_state.specs.Acts.{Changes, PutsElement}
use Rattle.instruction_effect.specs.Outcomes.{Site, Outcome, Throws, misfit, or_misfit, goes}
use Rattle.instruction_effect.specs.Operands.{gives, unless_null, incompatible}
use Rattle.instruction_effect.specs.NewArrays.{newarray_outcome, anewarray_outcome, multianewarray_outcome}

-- ---- what an array's elements are

-- the kind of the values that an instruction loads or stores
abbrev pub kind_of_element : Element → Kind
kind_of_element of.Long = kind.Long
kind_of_element of.Reference = kind.Reference
kind_of_element e = kind.Int

-- the type of an array's components
abbrev pub component_of : Typed → Option Typed
component_of (zero, e) = None
component_of (suc dimensions, e) = Some (dimensions, e)

-- An instruction serves arrays of these components. `baload` and `bastore` serve those of boolean too.
abbrev pub serves : Element → Typed → Bool
serves of.Reference (suc dimensions, e) = true
serves of.Reference (zero, element.Class n) = true
serves of.Byte (zero, element.Boolean) = true
serves of.Byte (zero, element.Byte) = true
serves of.Char (zero, element.Char) = true
serves of.Short (zero, element.Short) = true
serves of.Int (zero, element.Int) = true
serves of.Long (zero, element.Long) = true
serves e component = false

-- The components of an object, where it is an array that the instruction serves.
abbrev pub served : Element → Typed → Option Typed
served e component = if serves e component then Some component else None

abbrev pub components_in : Site → Element → ObjNo → Option Typed
components_in site e object = heaps.class_at site.core.heap object >>= λ n. component_of (type_of site.classes n) >>= served e

-- It must be such an array, and not null.
abbrev pub when_array : Site → Element → Option ObjNo → (ObjNo → Typed → Outcome) → Outcome
when_array site e reference so =
    unless_null [] reference (λ object. elim (components_in site e object) [ None ↦ incompatible [] | Some component ↦ so object component ])

-- ---- elements

abbrev pub place_of : ℤ → Option ℕ
place_of (pos n) = Some n
place_of (negsuc n) = None

-- the place that an index means in an array, and what is held there
abbrev pub element_in : Site → ObjNo → ℤ → Option (ℕ × Value)
element_in site object index = place_of index >>= λ place. option_map (λ v. (place, v)) (heaps.elem_at site.core.heap object place)

abbrev pub when_within : Option (ℕ × Value) → (ℕ → Value → Outcome) → Outcome
when_within None so = Throws [] (codes "java/lang/ArrayIndexOutOfBoundsException")
when_within (Some (place, v)) so = so place v

-- what an array keeps of a number: the low bit of a boolean, the low 8 or 16 bits with a sign or, of a char, without one
abbrev pub kept : Typed → Value → Value
kept (zero, element.Boolean) (value.Int z) = value.Int (pos (modulo z 2))
kept (zero, element.Byte) v = converted conversion.IntToByte v
kept (zero, element.Char) v = converted conversion.IntToChar v
kept (zero, element.Short) v = converted conversion.IntToShort v
kept component v = v

-- An object may be an element where its class, be it that of an array, passes for the components' type. So may null.
abbrev pub is_below : Site → ObjNo → Typed → Bool
is_below site object component = elim (heaps.class_at site.core.heap object) [
  | None ↦ false
  | Some n ↦ let own = type_of site.classes n in is_type_below site.classes own.0 own.1 component.0 component.1
]

abbrev pub may_hold : Site → Typed → Value → Bool
may_hold site component (value.Ref (Some object)) = is_below site object component
may_hold site component v = true

abbrev pub when_held : Site → Typed → Value → Outcome → Outcome
when_held site component v so = if may_hold site component v then so else Throws [] (codes "java/lang/ArrayStoreException")

-- ---- the instructions

abbrev pub length_outcome : Site → Outcome
length_outcome site = or_misfit (reference_at site.frame.stack 0) (λ reference. unless_null [] reference (λ object.
    elim (heaps.array_length_at site.core.heap object) [ None ↦ incompatible [] | Some n ↦ gives site [] 1 (value.Int (pos n)) ]))

-- the index is the top, and the array below it
abbrev pub load_outcome : Site → Element → Outcome
load_outcome site e = or_misfit (int_at site.frame.stack 0) (λ index. or_misfit (reference_at site.frame.stack 1) (λ array.
    when_array site e array (λ object component. when_within (element_in site object index) (λ place v. gives site [] 2 v))))

-- the value is the top, the index below it, and the array below that
abbrev pub store_outcome : Site → Element → Outcome
store_outcome site e = or_misfit (kind_at (kind_of_element e) site.frame.stack 0) (λ v.
    or_misfit (int_at site.frame.stack 1) (λ index. or_misfit (reference_at site.frame.stack 2) (λ array.
    when_array site e array (λ object component. when_within (element_in site object index) (λ place before. when_held site component v (
    goes site (Changes (PutsElement object place (kept component v)) ∷ []) (exchange 3 [])))))))

abbrev pub array_outcome : Site → Instr → Outcome
array_outcome site (instr.NewArray primitive) = newarray_outcome site primitive
array_outcome site (instr.Pool pool_op.NewReferenceArray index) = anewarray_outcome site index
array_outcome site (instr.MultiNewArray index count) = multianewarray_outcome site index count
array_outcome site (instr.Simple simple.ArrayLength) = length_outcome site
array_outcome site (instr.Simple (simple.ArrayLoad e)) = load_outcome site e
array_outcome site (instr.Simple (simple.ArrayStore e)) = store_outcome site e
array_outcome site i = misfit
