-- How a lookup order is collected. No public clause cites it.
use Rattle.std.specs.Prelude.{◌≡◌, ℕ, nat_eq, if◌then◌else◌, List, [], ◌∷◌, ◌++◌, fold}
use Rattle.std.specs.List.{list_any}
use Rattle.std.specs.HashSet.{HashSet, contains}
use Rattle.std.specs.declared.hash.FoldHasher.{FoldHasher}
use Rattle.std.specs.declared.hash.BuildHasherDefault.{BuildHasherDefault}
use Rattle.ti_ids.specs.declared.number.ClassNo.{ClassNo}
use Rattle.link_versions.specs.Classes.{is_same_class}

-- a class at the end, unless it is there
abbrev pub added : List ClassNo → ClassNo → List ClassNo
added ns n = if list_any (is_same_class n) ns then ns else ns ++ n ∷ []

-- several, one after another
abbrev pub all_added : List ClassNo → List ClassNo → List ClassNo
all_added ns more = fold added ns more

-- the set has the numbers of the list
unfoldable pub IsCollected : List ClassNo → HashSet ℕ (BuildHasherDefault FoldHasher) → Type 0
IsCollected ns seen = (n : ClassNo) → contains nat_eq seen n.0 ≡ list_any (is_same_class n) ns
