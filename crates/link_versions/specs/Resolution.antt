-- Resolution of fields and methods (JVM specification 5.4.3.2 to 5.4.3.4), and the selection of the method that a call runs
-- (6.5, `invokevirtual` and `invokeinterface`). Where the standard lets the choice be any, it is the first in the lookup order.
use Rattle.std.specs.Prelude.{Bool, not, ◌&&◌, if◌then◌else◌, List, [], ◌∷◌, filter, Option, Some, None, Result, Ok, Err}
use Rattle.std.specs.Option.{option_and_then, option_or}
use Rattle.std.specs.List.{list_any, filter_map}
use Rattle.ti_ids.specs.declared.number.ClassNo.{ClassNo}
use Rattle.ti_ids.specs.declared.number.MethodNo.{MethodNo}
use Rattle.ti_ids.specs.declared.number.FieldNo.{FieldNo}
use Rattle.jv_names.specs.Names.{Name}
use Rattle.class_tree.specs.declared.access.Flag.TheVariants as flags
use Rattle.class_tree.specs.Tree.{first_of}
use Rattle.link_versions.specs.declared.fault.LinkFault.{LinkFault}
use Rattle.link_versions.specs.declared.fault.LinkFault.TheVariants as faults
use Rattle.link_versions.specs.declared.method.Sole.{Sole}
use Rattle.link_versions.specs.declared.method.Sole.TheVariants as sole
use Rattle.link_versions.specs.Classes.{Class, is_same_class, number_of, is_interface}
use Rattle.link_versions.specs.Orders.{lookup_order, superclasses, is_below}
use Rattle.link_versions.specs.Subtypes.{object_name}
use Rattle.link_versions.specs.Members.{declared_field, declared_method, declared_virtual, method_name, method_desc, method_has}

-- what was found, or this fault
abbrev pub found_or : {A : Type 0} → LinkFault → Option A → Result A LinkFault
found_or fault None = Err fault
found_or fault (Some x) = Ok x

-- ---- fields: section 5.4.3.2

-- the first in the lookup order that declares it
unfoldable pub resolved_field : List Class → ClassNo → Name → Name → Result FieldNo LinkFault
resolved_field classes n name desc = found_or faults.NoField (first_of (declared_field classes name desc) (lookup_order classes n))

-- ---- maximally specific superinterface methods: section 5.4.3.3

-- what a superinterface of a class declares, where that is neither private nor static
unfoldable pub candidate : List Class → ClassNo → Name → Name → ClassNo → Option MethodNo
candidate classes n name desc i = if is_interface classes i && not (is_same_class i n) then declared_virtual classes name desc i else None

-- of all superinterfaces
unfoldable pub candidates : List Class → ClassNo → Name → Name → List MethodNo
candidates classes n name desc = filter_map (candidate classes n name desc) (lookup_order classes n)

-- another one is declared in a subinterface of the method's interface
abbrev pub is_overriding : List Class → MethodNo → MethodNo → Bool
is_overriding classes m other = not (is_same_class m.class other.class) && is_below classes other.class m.class

unfoldable pub is_overridden : List Class → List MethodNo → MethodNo → Bool
is_overridden classes others m = list_any (is_overriding classes m) others

-- those that no other one overrides
abbrev pub maximally_specific : List Class → ClassNo → Name → Name → List MethodNo
maximally_specific classes n name desc =
    let all = candidates classes n name desc in filter (λ m. not (is_overridden classes all m)) all

-- of these, those that are not abstract
unfoldable pub concrete_ones : List Class → ClassNo → Name → Name → List MethodNo
concrete_ones classes n name desc = filter (λ m. not (method_has classes flags.Abstract m)) (maximally_specific classes n name desc)

-- how many they are, and which one it is where it is one
abbrev pub sole_of : List MethodNo → Sole
sole_of [] = sole.Nothing
sole_of (m ∷ []) = sole.One m
sole_of (m ∷ n ∷ more) = sole.Several

-- the one that is not abstract, if that is one, and else the first of all
abbrev pub of_sole : Sole → Option MethodNo → Option MethodNo
of_sole (sole.One m) any = Some m
of_sole sole.Nothing any = any
of_sole sole.Several any = any

unfoldable pub from_superinterfaces : List Class → ClassNo → Name → Name → Option MethodNo
from_superinterfaces classes n name desc =
    of_sole (sole_of (concrete_ones classes n name desc)) (first_of (candidate classes n name desc) (lookup_order classes n))

-- ---- methods: sections 5.4.3.3 and 5.4.3.4

-- what a class or the nearest superclass declares
unfoldable pub from_superclasses : List Class → ClassNo → Name → Name → Option MethodNo
from_superclasses classes n name desc = first_of (declared_method classes name desc) (superclasses classes n)

-- a method that is public and not static
abbrev pub if_public : List Class → MethodNo → Option MethodNo
if_public classes m = if method_has classes flags.Public m && not (method_has classes flags.Static m) then Some m else None

-- what `Object` declares, where that is public and not static
unfoldable pub from_object : List Class → Name → Name → Option MethodNo
from_object classes name desc = option_and_then (if_public classes) (option_and_then (declared_method classes name desc) (number_of classes object_name))

-- what is found before superinterfaces are looked at
abbrev pub from_classes : List Class → ClassNo → Name → Name → Option MethodNo
from_classes classes n name desc =
    if is_interface classes n then option_or (declared_method classes name desc n) (from_object classes name desc)
    else from_superclasses classes n name desc

unfoldable pub resolved_method : List Class → ClassNo → Name → Name → Result MethodNo LinkFault
resolved_method classes n name desc =
    found_or faults.NoMethod (option_or (from_classes classes n name desc) (from_superinterfaces classes n name desc))

-- ---- selection: section 6.5

-- what was found in a class, unless it is abstract
abbrev pub unless_abstract : List Class → MethodNo → Result MethodNo LinkFault
unless_abstract classes m = if method_has classes flags.Abstract m then Err faults.Abstract else Ok m

-- the one of all superinterfaces
abbrev pub sole_or_fault : Sole → Result MethodNo LinkFault
sole_or_fault sole.Nothing = Err faults.Abstract
sole_or_fault (sole.One m) = Ok m
sole_or_fault sole.Several = Err faults.Incompatible

-- the first from the receiver's class upwards that is neither private nor static, and else the one of its superinterfaces
unfoldable pub selected_by : List Class → ClassNo → Name → Name → Result MethodNo LinkFault
selected_by classes receiver name desc = elim (first_of (declared_virtual classes name desc) (superclasses classes receiver)) [
  | Some m ↦ unless_abstract classes m
  | None ↦ sole_or_fault (sole_of (concrete_ones classes receiver name desc))
]

-- by the name and the descriptor of a method, where both are there
abbrev pub selected_as : List Class → ClassNo → Option Name → Option Name → Result MethodNo LinkFault
selected_as classes receiver (Some name) (Some desc) = selected_by classes receiver name desc
selected_as classes receiver name desc = Err faults.NoMethod

-- a private method itself
unfoldable pub selected : List Class → ClassNo → MethodNo → Result MethodNo LinkFault
selected classes receiver m =
    if method_has classes flags.Private m then Ok m else selected_as classes receiver (method_name classes m) (method_desc classes m)
