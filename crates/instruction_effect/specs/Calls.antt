-- `invokestatic`, `invokevirtual`, `invokespecial` and `invokeinterface` (JVM specification 6.5).
use Rattle.std.specs.Prelude.{ℕ, Bool, not, ◌&&◌, ◌||◌, List, ◌∷◌, drop, Option, Some, None, unwrap_or, Result, Ok, Err, bytes_eq, codes, if◌then◌else◌}
use Rattle.std.specs.List.{list_any}
use Rattle.std.specs.Option.{option_and_then, option_or}
use Rattle.ti_ids.specs.declared.number.ClassNo.{ClassNo}
use Rattle.ti_ids.specs.declared.number.MethodNo.{MethodNo}
use Rattle.ti_ids.specs.declared.value.Value.{Value}
use Rattle.ti_ids.specs.declared.value.Value.TheVariants as value
use Rattle.jv_names.specs.Names.{Name}
use Rattle.class_code.specs.declared.instr.Instr.{Instr}
use Rattle.class_code.specs.declared.instr.Instr.TheVariants as instr
use Rattle.class_code.specs.declared.instr.PoolOp.TheVariants as pool_op
use Rattle.class_tree.specs.declared.access.Flag.TheVariants as flags
use Rattle.class_tree.specs.Tree.{first_of}
use Rattle.java_heap.specs.Heaps as heap
use Rattle.link_versions.specs.Classes.{Class, class_at, class_has, is_interface, is_same_class}
use Rattle.link_versions.specs.Members.{declared_method, method_has}
use Rattle.link_versions.specs.Orders.{superclasses}
use Rattle.link_versions.specs.Subtypes.{is_subclass}
use Rattle.link_versions.specs.declared.fault.LinkFault.{LinkFault}
use Rattle.link_versions.specs.Resolution.{from_object, concrete_ones, sole_of, sole_or_fault, selected}
use Rattle.instruction_effect.specs.Outcomes.{Site, Outcome, misfit, or_misfit, when_linked, when_ready}
use Rattle.instruction_effect.specs.Operands.{incompatible, unless_null}
use Rattle.instruction_effect.specs.Arguments.{static_kinds, instance_kinds, when_arguments, takes_arguments}
use Rattle.instruction_effect.specs.Invoking.{abstract_method, no_method, unselected, calls}
use Rattle.instruction_effect.specs.BaseThreads.{is_base_method}
use Rattle.instruction_effect.specs.BaseMethods.{base_outcome}
use Rattle.instruction_effect.specs.MethodResolution.{Resolved, Reference, resolving, is_static}

-- ---- the method that is invoked

-- A base method is performed, and the frame of another one is pushed. An abstract one can't be invoked, also where it is static or
-- private.
abbrev pub invokes_linked : Resolved → MethodNo → List Value → Outcome
invokes_linked x m values =
    if method_has x.site.classes flags.Abstract m then abstract_method x.before
    else if is_base_method x.site.classes m then base_outcome x.site x.before m values
    else calls x.site (record { before = x.before; taking = takes_arguments x.site values; method = m; arguments = values })

-- the class that declares it must be linked
abbrev pub invokes : Resolved → MethodNo → List Value → Outcome
invokes x m values = when_linked x.site m.class (invokes_linked x m values)

-- the method that a selection selects
abbrev pub invokes_selected : Resolved → List Value → Result MethodNo LinkFault → Outcome
invokes_selected x values (Err fault) = unselected x.before fault
invokes_selected x values (Ok m) = invokes x m values

-- ---- `invokestatic`

abbrev pub static_invoked : Resolved → List Value → Outcome
static_invoked x values = if is_static x then invokes x x.method values else incompatible x.before

-- The class that declares the method must be initialized, before it is seen whether the method is static.
abbrev pub invokes_static : Resolved → Outcome
invokes_static x = when_ready x.site x.method.class (when_arguments x.site (static_kinds x.reference.desc) (static_invoked x))

abbrev pub invoke_static : Site → ℕ → Outcome
invoke_static site index = resolving site index invokes_static

-- ---- the receiver

-- A null receiver throws. What comes of another one goes by its class.
abbrev pub with_receiver : Resolved → (ClassNo → Outcome) → List Value → Outcome
with_receiver x so (value.Ref reference ∷ values) = unless_null x.before reference (λ o. or_misfit (heap.class_at x.site.core.heap o) so)
with_receiver x so _ = misfit

-- A method that may not be called so is seen before the receiver is looked at.
abbrev pub when_allowed : Resolved → Bool → (List Value → ClassNo → Outcome) → Outcome
when_allowed x is_allowed so = when_arguments x.site (instance_kinds x.reference.desc) (λ values.
    if is_allowed then with_receiver x (so values) values else incompatible x.before)

-- ---- `invokevirtual`

abbrev pub invokes_virtual : Resolved → Outcome
invokes_virtual x = when_allowed x (not (is_static x)) (λ values n. invokes_selected x values (selected x.site.classes n x.method))

abbrev pub invoke_virtual : Site → ℕ → Outcome
invoke_virtual site index = resolving site index invokes_virtual

-- ---- `invokeinterface`

-- The receiver's class must implement the interface that is named.
abbrev pub interface_invoked : Resolved → List Value → ClassNo → Outcome
interface_invoked x values n =
    if is_subclass x.site.classes n x.class then invokes_selected x values (selected x.site.classes n x.method) else incompatible x.before

abbrev pub invokes_interface : Resolved → Outcome
invokes_interface x = when_allowed x (not (is_static x || method_has x.site.classes flags.Private x.method)) (interface_invoked x)

abbrev pub invoke_interface : Site → ℕ → Outcome
invoke_interface site index = resolving site index invokes_interface

-- ---- `invokespecial`

abbrev pub is_init : Reference → Bool
is_init r = bytes_eq r.name (codes "<init>")

-- a class is a superclass of another one
abbrev pub is_above : List Class → ClassNo → ClassNo → Bool
is_above classes n of = list_any (is_same_class n) (drop 1 (superclasses classes of))

-- The selection starts at the direct superclass of the current class where that has the flag ACC_SUPER, the class that is named is a
-- superclass of it, and the method is no `<init>`; else at the class that is named.
abbrev pub starts_above : Resolved → Bool
starts_above x =
    not (is_init x.reference) && is_above x.site.classes x.class x.site.frame.class && class_has x.site.classes flags.Super x.site.frame.class

abbrev pub start_of : Resolved → ClassNo
start_of x = if starts_above x then unwrap_or (option_and_then (λ c. c.parent) (class_at x.site.classes x.site.frame.class)) x.class else x.class

-- the method of an instance that a class declares
abbrev pub declared_instance : List Class → Name → Name → ClassNo → Option MethodNo
declared_instance classes name desc n =
    option_and_then (λ m. if method_has classes flags.Static m then None else Some m) (declared_method classes name desc n)

-- From a class upwards the first that is declared; at an interface its own, or else a public one of Object; else that of the
-- superinterfaces.
abbrev pub declared_from : List Class → ClassNo → Name → Name → Option MethodNo
declared_from classes n name desc =
    if is_interface classes n then option_or (declared_instance classes name desc n) (from_object classes name desc)
    else first_of (declared_instance classes name desc) (superclasses classes n)

abbrev pub selected_from : List Class → Reference → ClassNo → Result MethodNo LinkFault
selected_from classes r n = elim (declared_from classes n r.name r.desc) [
  | Some m ↦ Ok m
  | None ↦ sole_or_fault (sole_of (concrete_ones classes n r.name r.desc))
]

abbrev pub special_invoked : Resolved → Outcome
special_invoked x = when_allowed x (not (is_static x)) (λ values n. invokes_selected x values (selected_from x.site.classes x.reference (start_of x)))

-- An `<init>` is one of the class that is named.
abbrev pub invokes_special : Resolved → Outcome
invokes_special x = if is_init x.reference && not (is_same_class x.method.class x.class) then no_method x.before else special_invoked x

abbrev pub invoke_special : Site → ℕ → Outcome
invoke_special site index = resolving site index invokes_special

-- ---- the family

abbrev pub call_outcome : Site → Instr → Outcome
call_outcome site (instr.Pool pool_op.InvokeStatic index) = invoke_static site index
call_outcome site (instr.Pool pool_op.InvokeVirtual index) = invoke_virtual site index
call_outcome site (instr.Pool pool_op.InvokeSpecial index) = invoke_special site index
call_outcome site (instr.InvokeInterface index count) = invoke_interface site index
call_outcome site i = misfit
