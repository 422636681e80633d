-- Further forms in which the families of instructions say what comes of them: values of a kind, room for a result, null, and the classes
-- with an array class that an instruction makes.
use Rattle.std.specs.Prelude.{ℕ, ◌==◌, pos, List, [], ◌∷◌, Option, Some, None, codes, if◌then◌else◌}
use Rattle.ti_ids.specs.declared.number.ObjNo.{ObjNo}
use Rattle.ti_ids.specs.declared.number.ClassNo.{ClassNo}
use Rattle.ti_ids.specs.declared.value.Value.{Value}
use Rattle.ti_ids.specs.declared.value.Value.TheVariants as value
use Rattle.jv_names.specs.Names.{Name}
use Rattle.jv_names.specs.declared.descriptor.FieldType.{FieldType}
use Rattle.class_code.specs.declared.instr.Kind.{Kind}
use Rattle.class_code.specs.declared.instr.Kind.TheVariants as kind
use Rattle.link_versions.specs.Classes.{Class, number_of}
use Rattle.link_versions.specs.Changes.{array_class}
use Rattle.bytecode_local.specs.Changes.{exchange, has_room}
use Rattle.machine_state.specs.Linked.{array_type}
use Rattle.machine_state.specs.Acts.{Act}
use Rattle.instruction_effect.specs.Outcomes.{Site, Outcome, Throws, misfit, goes, when_loaded}

-- ---- kinds

-- the kind of the values of a type, by the first unit of its descriptor (table 4.3-A): `J`, `L` and `[`, and all others are ints
abbrev pub kind_of_unit : ℕ → Kind
kind_of_unit unit = if unit == 0x4a then kind.Long else if unit == 0x4c then kind.Reference else if unit == 0x5b then kind.Reference else kind.Int

abbrev pub kind_of_desc : Name → Kind
kind_of_desc [] = kind.Int
kind_of_desc (unit ∷ units) = kind_of_unit unit

-- the value of a kind that fields and elements begin with (sections 2.3 and 2.4)
abbrev pub zero_of : Kind → Value
zero_of kind.Int = value.Int (pos 0)
zero_of kind.Long = value.Long (pos 0)
zero_of kind.Reference = value.Ref None

-- ---- results

-- There must be room for a value of this kind in the place of so many operands. All values of a kind take as many words.
abbrev pub when_fits : Site → ℕ → Kind → Outcome → Outcome
when_fits site taken k so = if has_room (exchange taken (zero_of k ∷ [])) site.frame.stack then so else misfit

-- after these acts a value stands in the place of so many operands
abbrev pub gives : Site → List Act → ℕ → Value → Outcome
gives site acts taken v = goes site acts (exchange taken (v ∷ []))

abbrev pub gives_object : Site → List Act → ℕ → ObjNo → Outcome
gives_object site acts taken object = gives site acts taken (value.Ref (Some object))

-- ---- null

abbrev pub unless_null : List Act → Option ObjNo → (ObjNo → Outcome) → Outcome
unless_null acts None so = Throws acts (codes "java/lang/NullPointerException")
unless_null acts (Some object) so = so object

-- ---- a thing of another kind than the instruction needs

abbrev pub incompatible : List Act → Outcome
incompatible acts = Throws acts (codes "java/lang/IncompatibleClassChangeError")

-- ---- classes

-- the classes with the class of an array type
abbrev pub classes_with_type : List Class → Name → Option FieldType → List Class
classes_with_type classes name None = classes
classes_with_type classes name (Some t) = array_class (number_of classes) name t ∷ classes

-- the classes with the class of this name, which is added where it isn't there and is an array class
abbrev pub classes_with : List Class → Name → List Class
classes_with classes name = elim (number_of classes name) [ Some n ↦ classes | None ↦ classes_with_type classes name (array_type name) ]

-- The class of a name must be loaded, as `when_loaded` says. What comes then goes by the site at which the class is there, the acts that
-- make it where it is an array class, and its number.
abbrev pub when_there : Site → Name → (Site → List Act → ClassNo → Outcome) → Outcome
when_there site name so = when_loaded site name (so (record site { classes = classes_with site.classes name }))
