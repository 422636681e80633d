-- The classes of a run as contracts see them: a list, the newest class first, so that whatever a class refers to stands behind
-- it. A class's number is how many classes there are from it to the end: the class that was defined first has the number 1.
use Rattle.std.specs.Prelude.{ℕ, ◌-◌, Bool, false, ◌==◌, if◌then◌else◌, List, [], ◌∷◌, length, Option, Some, None, slice_get, bytes_eq}
use Rattle.std.specs.Option.{option_and_then, option_map_or}
use Rattle.ti_ids.specs.declared.number.ClassNo.{ClassNo}
use Rattle.ti_ids.specs.declared.number.VersionNo.{VersionNo}
use Rattle.jv_names.specs.Names.{Name}
use Rattle.class_tree.specs.declared.access.Flag.{Flag}
use Rattle.class_tree.specs.declared.access.Flag.TheVariants as flags
use Rattle.class_tree.specs.Flags.{has_flag}
use Rattle.class_tree.specs.Trees.{Tree}
use Rattle.link_versions.specs.declared.class.Element.{Element}
use Rattle.ti_ids.specs.declared.state.InitState.{InitState}

-- what a class is: one of a file, with its versions, the first first; or an array class, of so many dimensions over an element
-- (section 2.4)
pub data Kind : Type 0 where
  OfFile : List Tree → Kind
  OfArray : ℕ → Element → Kind

-- a class: its superclass, if it has one, its direct superinterfaces in the order of the file, and how far it is
pub record Class : Type 0 where
  pub name : Name
  pub parent : Option ClassNo
  pub interfaces : List ClassNo
  pub kind : Kind
  pub state : InitState

-- ---- numbers

-- the element that has this number, counted from the end, where the last one has the number 1
abbrev pub numbered : {A : Type 0} → List A → ℕ → Option A
numbered [] n = None
numbered (x ∷ older) n = if n == length (x ∷ older) then Some x else numbered older n

-- the list with a change of the element that has this number
abbrev pub with_numbered : {A : Type 0} → (A → A) → List A → ℕ → List A
with_numbered change [] n = []
with_numbered change (x ∷ older) n = if n == length (x ∷ older) then change x ∷ older else x ∷ with_numbered change older n

-- both have one number
abbrev pub is_same_class : ClassNo → ClassNo → Bool
is_same_class a b = a.0 == b.0

-- the class of a number
abbrev pub class_at : List Class → ClassNo → Option Class
class_at classes n = numbered classes n.0

-- the number of the class that has this name
abbrev pub number_of : List Class → Name → Option ClassNo
number_of [] name = None
number_of (c ∷ older) name = if bytes_eq name c.name then Some (record { 0 = length (c ∷ older) }) else number_of older name

-- ---- versions

-- the versions of a class, of which an array class has none
abbrev pub versions_of : Kind → List Tree
versions_of (OfFile versions) = versions
versions_of (OfArray dimensions element) = []

-- the versions of the class of a number
abbrev pub versions_in : List Class → ClassNo → List Tree
versions_in classes n = option_map_or (λ c. versions_of c.kind) (class_at classes n) []

-- Every version of a class has the fields and the flags of the first one: that is the condition of a new version. So the first
-- one tells which fields a class declares, and their order numbers them.
unfoldable pub first_version : List Class → ClassNo → Option Tree
first_version classes n = option_and_then (λ c. slice_get (versions_of c.kind) 0) (class_at classes n)

-- the version of a number
unfoldable pub version_at : List Class → VersionNo → Option Tree
version_at classes v = option_and_then (λ c. slice_get (versions_of c.kind) v.place) (class_at classes v.class)

-- how many versions a class has
unfoldable pub version_count : List Class → ClassNo → ℕ
version_count classes n = option_map_or (λ c. length (versions_of c.kind)) (class_at classes n) 0

-- the newest version of a class that has one
abbrev pub newest_version : List Class → ClassNo → VersionNo
newest_version classes n = record { class = n; place = version_count classes n - 1 }

-- the one that is installed next
abbrev pub next_version : List Class → ClassNo → VersionNo
next_version classes n = record { class = n; place = version_count classes n }

-- a class has a flag (table 4.1-A), which an array class never has
unfoldable pub class_has : List Class → Flag → ClassNo → Bool
class_has classes flag n = option_map_or (λ t. has_flag t.flags.bits flag) (first_version classes n) false

abbrev pub is_interface : List Class → ClassNo → Bool
is_interface classes n = class_has classes flags.Interface n
