-- Fields: what an instance and a class hold of them, and `getstatic`, `putstatic`, `getfield` and `putfield` (JVM specification 5.4.3.2
-- and 6.5). What is stored isn't narrowed to the field's type.
use Rattle.std.specs.Prelude.{ℕ, ◌+◌, Bool, false, List, [], ◌∷◌, ◌++◌, map, flat_map, reverse, position, slice_get, Option, Some, None, unwrap_or, Ok, Err, codes, if◌then◌else◌}
use Rattle.std.specs.Option.{option_and_then, option_map_or}
use Rattle.ti_ids.specs.Maybe.{◌>>=◌}
use Rattle.ti_ids.specs.declared.number.ObjNo.{ObjNo}
use Rattle.ti_ids.specs.declared.number.ClassNo.{ClassNo}
use Rattle.ti_ids.specs.declared.number.FieldNo.{FieldNo}
use Rattle.ti_ids.specs.declared.value.Value.{Value}
use Rattle.jv_names.specs.Names.{Name}
use Rattle.class_code.specs.declared.instr.Kind.{Kind}
use Rattle.class_code.specs.declared.instr.Kind.TheVariants as kind
use Rattle.class_code.specs.declared.instr.PoolOp.TheVariants as pool_op
use Rattle.class_code.specs.declared.instr.Instr.{Instr}
use Rattle.class_code.specs.declared.instr.Instr.TheVariants as instr
use Rattle.class_tree.specs.declared.access.Flag.TheVariants as flags
use Rattle.class_tree.specs.declared.members.Member.{Member}
use Rattle.class_tree.specs.declared.pool.Const.{Const}
use Rattle.class_tree.specs.declared.pool.Const.TheVariants as const
use Rattle.class_tree.specs.Flags.{has_flag}
use Rattle.class_tree.specs.Tree.{entry_at, text_at, class_at, name_type_at}
use Rattle.java_heap.specs.Heaps as heaps
use Rattle.link_versions.specs.Classes.{Class, first_version, number_of}
use Rattle.link_versions.specs.Classes as link
use Rattle.link_versions.specs.Orders.{superclasses}
use Rattle.link_versions.specs.Resolution.{resolved_field}
use Rattle.bytecode_local.specs.Changes.{exchange}
use Rattle.bytecode_local.specs.Kinds.{kind_at, reference_at}
use Rattle.machine_state.specs.Core.{Core, same_field, static_set}
use Rattle.machine_state.specs.Trace.{FieldName}
use Rattle.machine_state.specs.Acts.{Act, Changes, PutsField, PutsStatic}
use Rattle.instruction_effect.specs.Outcomes.{Site, Outcome, Throws, misfit, or_misfit, goes, when_ready}
use Rattle.instruction_effect.specs.Operands.{kind_of_desc, zero_of, when_fits, gives, unless_null, incompatible, when_there}

-- ---- fields by number

-- a field in the file of its class
abbrev pub field_member : List Class → FieldNo → Option Member
field_member classes field = option_and_then (λ t. slice_get t.fields field.place) (first_version classes field.class)

abbrev pub is_static_field : List Class → FieldNo → Bool
is_static_field classes field = option_map_or (λ m. has_flag m.flags.bits flags.Static) (field_member classes field) false

-- its descriptor
abbrev pub field_desc : List Class → FieldNo → Option Name
field_desc classes field = first_version classes field.class >>= λ t. slice_get t.fields field.place >>= λ m. text_at t.pool m.desc

-- the kind of its values, and the value that it begins with
abbrev pub field_kind : List Class → FieldNo → Kind
field_kind classes field = option_map_or kind_of_desc (field_desc classes field) kind.Int

abbrev pub field_zero : List Class → FieldNo → Value
field_zero classes field = zero_of (field_kind classes field)

-- ---- what instances and classes hold

-- of these fields of a class's file, the first of which has this place, those that aren't static
abbrev pub instance_ones : ClassNo → ℕ → List Member → List FieldNo
instance_ones n place [] = []
instance_ones n place (m ∷ ms) =
    let rest = instance_ones n (place + 1) ms in
    if has_flag m.flags.bits flags.Static then rest else record { class = n; place = place } ∷ rest

abbrev pub own_fields : List Class → ClassNo → List FieldNo
own_fields classes n = option_map_or (λ t. instance_ones n 0 t.fields) (first_version classes n) []

-- The fields of an instance of a class: those of its superclass first, each class's in the order of the file.
abbrev pub instance_fields : List Class → ClassNo → List FieldNo
instance_fields classes n = flat_map (own_fields classes) (reverse (superclasses classes n))

-- the place of a field among those of an instance of a class
abbrev pub place_in_instance : List Class → ClassNo → FieldNo → Option ℕ
place_in_instance classes n field = position (same_field field) (instance_fields classes n)

-- what the fields of a new instance hold
abbrev pub fresh_fields : List Class → ClassNo → List Value
fresh_fields classes n = map (field_zero classes) (instance_fields classes n)

-- what a static field holds: what it was set to last, or the value that it begins with
abbrev pub static_value : Core → List Class → FieldNo → Value
static_value core classes field = unwrap_or (static_set core field) (field_zero classes field)

-- the place of a field in an object, and its value there; an object whose class lacks the field has neither
abbrev pub place_in : Site → ObjNo → FieldNo → Option ℕ
place_in site object field = heaps.class_at site.core.heap object >>= λ n. place_in_instance site.classes n field

abbrev pub value_in : Site → ObjNo → FieldNo → Option Value
value_in site object field = place_in site object field >>= λ place. heaps.field_at site.core.heap object place

-- ---- resolution

-- what an entry of the constant pool names (section 4.4.2)
abbrev pub field_of : List Const → Const → Option FieldName
field_of pool (const.Field class pair) =
    class_at pool class >>= λ c. name_type_at pool pair >>= λ p. Some (record { class = c; name = p.0; desc = p.1 })
field_of pool _ = None

abbrev pub field_named : List Const → ℕ → Option FieldName
field_named pool index = entry_at pool index >>= field_of pool

-- The class that the entry names must be loaded, and the field found from it on. What comes then goes by the field.
abbrev pub when_found : Site → List Act → ClassNo → FieldName → (FieldNo → Outcome) → Outcome
when_found site acts n wanted so = elim (resolved_field site.classes n wanted.name wanted.desc) [
  | Ok field ↦ so field
  | Err fault ↦ Throws acts (codes "java/lang/NoSuchFieldError")
]

abbrev pub when_resolved : Site → ℕ → (Site → List Act → FieldNo → Outcome) → Outcome
when_resolved site index so =
    or_misfit (field_named site.pool index) (λ wanted. when_there site wanted.class (λ there acts n. when_found there acts n wanted (so there acts)))

-- A field of the other staticness is incompatible.
abbrev pub when_static : Site → List Act → FieldNo → Outcome → Outcome
when_static site acts field so = if is_static_field site.classes field then so else incompatible acts

abbrev pub when_instance : Site → List Act → FieldNo → Outcome → Outcome
when_instance site acts field so = if is_static_field site.classes field then incompatible acts else so

-- So is an object whose class lacks the field.
abbrev pub when_has : {A : Type 0} → List Act → Option A → (A → Outcome) → Outcome
when_has acts None so = incompatible acts
when_has acts (Some x) so = so x

-- ---- the instructions, at a resolved field

abbrev pub read_static : Site → List Act → FieldNo → Outcome
read_static site acts field =
    when_fits site 0 (field_kind site.classes field) (when_static site acts field (gives site acts 0 (static_value site.core site.classes field)))

abbrev pub write_static : Site → List Act → FieldNo → Outcome
write_static site acts field = or_misfit (kind_at (field_kind site.classes field) site.frame.stack 0) (λ v.
    when_static site acts field (goes site (acts ++ Changes (PutsStatic field v) ∷ []) (exchange 1 [])))

abbrev pub read_instance : Site → List Act → FieldNo → Outcome
read_instance site acts field = or_misfit (reference_at site.frame.stack 0) (λ receiver.
    when_fits site 1 (field_kind site.classes field) (when_instance site acts field (unless_null acts receiver (λ object.
    when_has acts (value_in site object field) (gives site acts 1)))))

abbrev pub write_instance : Site → List Act → FieldNo → Outcome
write_instance site acts field =
    or_misfit (kind_at (field_kind site.classes field) site.frame.stack 0) (λ v. or_misfit (reference_at site.frame.stack 1) (λ receiver.
    when_instance site acts field (unless_null acts receiver (λ object. when_has acts (place_in site object field) (λ place.
    goes site (acts ++ Changes (PutsField object place v) ∷ []) (exchange 2 []))))))

-- The class that declares a static field must be initialized before anything else of it is looked at.
abbrev pub field_outcome : Site → Instr → Outcome
field_outcome site (instr.Pool pool_op.GetStatic index) =
    when_resolved site index (λ there acts field. when_ready there field.class (read_static there acts field))
field_outcome site (instr.Pool pool_op.PutStatic index) =
    when_resolved site index (λ there acts field. when_ready there field.class (write_static there acts field))
field_outcome site (instr.Pool pool_op.GetField index) = when_resolved site index read_instance
field_outcome site (instr.Pool pool_op.PutField index) = when_resolved site index write_instance
field_outcome site i = misfit

-- ---- the field that an instruction uses, for the events of JVM TI ("Field Access", "Field Modification")

-- by the class that declares it, where it resolves among the classes that are there
abbrev pub declared_as : List Class → FieldName → FieldNo → Option FieldName
declared_as classes wanted field = link.class_at classes field.class >>= λ c. Some (record wanted { class = c.name })

abbrev pub there_as : List Class → FieldName → Option FieldName
there_as classes wanted = number_of classes wanted.class >>= λ n. elim (resolved_field classes n wanted.name wanted.desc) [
  | Ok field ↦ declared_as classes wanted field
  | Err fault ↦ None
]

abbrev pub used_field : Site → ℕ → Option FieldName
used_field site index = field_named site.pool index >>= there_as site.classes

-- the field that an instruction reads, and the one that it writes
abbrev pub accessed_field : Site → Instr → Option FieldName
accessed_field site (instr.Pool pool_op.GetStatic index) = used_field site index
accessed_field site (instr.Pool pool_op.GetField index) = used_field site index
accessed_field site i = None

abbrev pub modified_field : Site → Instr → Option FieldName
modified_field site (instr.Pool pool_op.PutStatic index) = used_field site index
modified_field site (instr.Pool pool_op.PutField index) = used_field site index
modified_field site i = None
