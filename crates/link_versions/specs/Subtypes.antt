-- Whether a value of one class may be taken for one of another: the test of `checkcast` (JVM specification 6.5).
use Rattle.std.specs.Prelude.{ℕ, zero, suc, Bool, true, false, List, [], ◌∷◌, Option, Some, None, option_map, codes, bytes_eq}
use Rattle.std.specs.List.{list_any}
use Rattle.std.specs.Option.{option_map_or}
use Rattle.ti_ids.specs.declared.number.ClassNo.{ClassNo}
use Rattle.jv_names.specs.Names.{Name}
use Rattle.link_versions.specs.declared.class.Element.{Element}
use Rattle.link_versions.specs.declared.class.Element.TheVariants as element
use Rattle.link_versions.specs.Classes.{Class, Kind, OfFile, OfArray, class_at}
use Rattle.link_versions.specs.Orders.{is_below}

-- what every array class extends or implements (section 10.7 of the language): the superclass and the interfaces
abbrev pub object_name : Name
object_name = codes "java/lang/Object"

abbrev pub array_interface_names : List Name
array_interface_names = codes "java/lang/Cloneable" ∷ codes "java/io/Serializable" ∷ []

-- a type: its dimensions, which are 0 where it is no array's, and its element
abbrev pub Typed : Type 0
Typed = ℕ × Element

abbrev pub typed : ClassNo → Option Kind → Typed
typed n (Some (OfArray dimensions e)) = (dimensions, e)
typed n (Some (OfFile versions)) = (0, element.Class n)
typed n None = (0, element.Class n)

-- the type that a class is
unfoldable pub type_of : List Class → ClassNo → Typed
type_of classes n = typed n (option_map (λ c. c.kind) (class_at classes n))

-- an element to an element: the same primitive type, or classes of which the one extends or implements the other
unfoldable pub is_element_below : List Class → Element → Element → Bool
is_element_below classes (element.Class n) (element.Class of) = is_below classes n of
is_element_below classes element.Boolean element.Boolean = true
is_element_below classes element.Byte element.Byte = true
is_element_below classes element.Char element.Char = true
is_element_below classes element.Short element.Short = true
is_element_below classes element.Int element.Int = true
is_element_below classes element.Long element.Long = true
is_element_below classes e f = false

-- an array to an element: to `Object`, `Cloneable` and `Serializable`
unfoldable pub is_array_below : List Class → Element → Bool
is_array_below classes (element.Class of) = option_map_or (λ c. list_any (bytes_eq c.name) (object_name ∷ array_interface_names)) (class_at classes of) false
is_array_below classes e = false

-- a type to a type: of two arrays, the test again of their components
unfoldable pub is_type_below : List Class → ℕ → Element → ℕ → Element → Bool
is_type_below classes zero e zero f = is_element_below classes e f
is_type_below classes (suc m) e zero f = is_array_below classes f
is_type_below classes zero e (suc n) f = false
is_type_below classes (suc m) e (suc n) f = is_type_below classes m e n f

unfoldable pub is_subclass : List Class → ClassNo → ClassNo → Bool
is_subclass classes from to =
    let a = type_of classes from in let b = type_of classes to in is_type_below classes a.0 a.1 b.0 b.1
