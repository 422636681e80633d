-- The classes that a type check knows of (JVM specification 4.10.1.1 and 4.10.1.2), each as its file states it.
use Rattle.std.specs.Prelude.{◌≡◌, ℕ, zero, suc, Bool, false, List, [], ◌∷◌, length, find, Option, Some, None, bytes_eq, ◌&&◌}
use Rattle.std.specs.Option.{option_and_then, option_map_or}
use Rattle.std.specs.List.{list_any}
use Rattle.jv_names.specs.Names.{Name}
use Rattle.type_frames.specs.declared.hierarchy.Signature.{Signature}
use Rattle.type_frames.specs.declared.hierarchy.HierarchyClass.{HierarchyClass}

-- all of them; no two have one name
abbrev pub Known : Type 0
Known = List HierarchyClass

-- the class of a name, where it is known
abbrev pub class_named : Known → Name → Option HierarchyClass
class_named h name = find (λ c. bytes_eq c.name name) h

-- the name of its superclass
abbrev pub superclass : Known → Name → Option Name
superclass h name = option_and_then (λ c. c.superclass) (class_named h name)

-- a known interface
abbrev pub is_interface : Known → Name → Bool
is_interface h name = option_map_or (λ c. c.is_interface) (class_named h name) false

-- a known final class
abbrev pub is_final : Known → Name → Bool
is_final h name = option_map_or (λ c. c.is_final) (class_named h name) false

-- The one class is the other, or its superclass is below the other: the least such relation. Superclasses may lead round in a
-- circle, or to a class that is not known.
pub data IsSubclass (h : Known) : Name → Name → Type 0 where
  Same : {name : Name} → IsSubclass h name name
  Above : {name parent of : Name} → superclass h name ≡ Some parent → IsSubclass h parent of → IsSubclass h name of

-- The same, computed: a class and its superclasses upwards, so many at most. As many as there are known classes, and one
-- more, are all.
abbrev pub chain_within : Known → ℕ → Name → List Name
chain_within h zero name = name ∷ []
chain_within h (suc n) name = name ∷ elim (superclass h name) [ None ↦ [] | Some parent ↦ chain_within h n parent ]

abbrev pub chain : Known → Name → List Name
chain h name = chain_within h (length h) name

abbrev pub is_subclass : Known → Name → Name → Bool
is_subclass h name of = list_any (bytes_eq of) (chain h name)

-- ---- methods that may not be overridden: section 4.10.1.5

abbrev pub is_signature : Name → Name → Signature → Bool
is_signature name desc s = bytes_eq s.name name && bytes_eq s.desc desc

-- a known class has a final method of this name and descriptor
abbrev pub has_final : Known → Name → Name → Name → Bool
has_final h name desc class = option_map_or (λ c. list_any (is_signature name desc) c.final_methods) (class_named h class) false
