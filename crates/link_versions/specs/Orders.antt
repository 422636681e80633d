-- The order in which a field is looked up (JVM specification 5.4.3.2), which names each class that a class extends or
-- implements, and the order in which a method is looked up among superclasses (5.4.3.3).
use Rattle.std.specs.Prelude.{Bool, not, ◌==◌, if◌then◌else◌, List, [], ◌∷◌, ◌++◌, length, filter, Option, Some, None}
use Rattle.std.specs.List.{flat_map, list_any}
use Rattle.ti_ids.specs.declared.number.ClassNo.{ClassNo}
use Rattle.link_versions.specs.Classes.{Class, is_same_class}

-- each class once, where it comes first
abbrev pub distinct : List ClassNo → List ClassNo
distinct [] = []
distinct (n ∷ ns) = n ∷ filter (λ m. not (is_same_class n m)) (distinct ns)

-- what is found from a superclass, if there is one
abbrev pub from_parent : (ClassNo → List ClassNo) → Option ClassNo → List ClassNo
from_parent order None = []
from_parent order (Some n) = order n

-- the class itself, then the orders of its direct superinterfaces in the order of the file, then that of its superclass
abbrev pub ordered : (ClassNo → List ClassNo) → ClassNo → List ClassNo → Option ClassNo → List ClassNo
ordered order n interfaces parent = distinct (n ∷ flat_map order interfaces ++ from_parent order parent)

-- The order in which a class and all that it extends or implements are looked at.
unfoldable pub lookup_order : List Class → ClassNo → List ClassNo
lookup_order [] n = []
lookup_order (c ∷ older) n = if n.0 == length (c ∷ older) then ordered (lookup_order older) n c.interfaces c.parent else lookup_order older n

-- The class itself, its superclass, the superclass of that, and so on.
unfoldable pub superclasses : List Class → ClassNo → List ClassNo
superclasses [] n = []
superclasses (c ∷ older) n = if n.0 == length (c ∷ older) then n ∷ from_parent (superclasses older) c.parent else superclasses older n

-- a class is another one, or extends or implements it
abbrev pub is_below : List Class → ClassNo → ClassNo → Bool
is_below classes n of = list_any (is_same_class of) (lookup_order classes n)
