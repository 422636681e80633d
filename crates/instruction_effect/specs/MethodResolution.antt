-- The method that an invoke instruction names, and its resolution (JVM specification 4.4.2, 5.4.3.3 and 5.4.3.4).
use Rattle.std.specs.Prelude.{ℕ, Bool, true, false, not, List, Option, None, option_map, Ok, Err, if◌then◌else◌}
use Rattle.std.specs.Option.{option_and_then, option_zip}
use Rattle.ti_ids.specs.declared.number.ClassNo.{ClassNo}
use Rattle.ti_ids.specs.declared.number.MethodNo.{MethodNo}
use Rattle.jv_names.specs.Names.{Name}
use Rattle.class_tree.specs.declared.access.Flag.TheVariants as flags
use Rattle.class_tree.specs.declared.pool.Const.{Const}
use Rattle.class_tree.specs.declared.pool.Const.TheVariants as const
use Rattle.class_tree.specs.Tree as tree
use Rattle.class_tree.specs.Tree.{entry_at, name_type_at}
use Rattle.link_versions.specs.Classes.{Class, is_interface}
use Rattle.link_versions.specs.Members.{method_has}
use Rattle.link_versions.specs.Resolution.{resolved_method}
use Rattle.machine_state.specs.Acts.{Act}
use Rattle.instruction_effect.specs.Outcomes.{Site, Outcome, or_misfit}
use Rattle.instruction_effect.specs.Operands.{incompatible, when_there}
use Rattle.instruction_effect.specs.Invoking.{no_method}

-- ---- what an instruction names: section 4.4.2

-- a method by name and descriptor, named in a class by a Methodref, or in an interface by an InterfaceMethodref
pub record Reference : Type 0 where
  pub in_interface : Bool
  pub class : Name
  pub name : Name
  pub desc : Name

abbrev pub reference_to : List Const → Bool → ℕ → ℕ → Option Reference
reference_to pool in_interface class pair =
    option_map (λ r. record { in_interface = in_interface; class = r.0; name = r.1.0; desc = r.1.1 })
    (option_zip (tree.class_at pool class) (name_type_at pool pair))

abbrev pub reference_of : List Const → Const → Option Reference
reference_of pool (const.Method class pair) = reference_to pool false class pair
reference_of pool (const.InterfaceMethod class pair) = reference_to pool true class pair
reference_of pool _ = None

abbrev pub reference_named : List Const → ℕ → Option Reference
reference_named pool index = option_and_then (reference_of pool) (entry_at pool index)

-- ---- resolution

-- A Methodref of an interface, and an InterfaceMethodref of a class, are incompatible.
abbrev pub is_of_other_kind : List Class → ClassNo → Reference → Bool
is_of_other_kind classes n r = if r.in_interface then not (is_interface classes n) else is_interface classes n

abbrev pub when_found : Site → List Act → ClassNo → Reference → (MethodNo → Outcome) → Outcome
when_found site acts n r so = elim (resolved_method site.classes n r.name r.desc) [
  | Ok m ↦ so m
  | Err fault ↦ no_method acts
]

abbrev pub when_resolved_in : Site → List Act → ClassNo → Reference → (MethodNo → Outcome) → Outcome
when_resolved_in site acts n r so = if is_of_other_kind site.classes n r then incompatible acts else when_found site acts n r so

-- What an instruction makes of a resolved method: where it stands, what was done before, what it names, the class of that name, and the
-- method.
pub record Resolved : Type 0 where
  pub site : Site
  pub before : List Act
  pub reference : Reference
  pub class : ClassNo
  pub method : MethodNo

-- The class that is named must be loaded, and the method resolved.
abbrev pub when_resolved : Site → Reference → (Resolved → Outcome) → Outcome
when_resolved site r so =
    when_there site r.class (λ there acts n. when_resolved_in there acts n r (λ m.
    so (record { site = there; before = acts; reference = r; class = n; method = m })))

abbrev pub resolving : Site → ℕ → (Resolved → Outcome) → Outcome
resolving site index so = or_misfit (reference_named site.pool index) (λ r. when_resolved site r so)

abbrev pub is_static : Resolved → Bool
is_static x = method_has x.site.classes flags.Static x.method
