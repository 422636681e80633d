-- An index of members, by their names and, at each name, by their descriptors. No public clause cites it.
use Rattle.std.specs.Prelude.{ℕ, Bool, if◌then◌else◌, List, map, Option, Some, None, bytes_eq}
use Rattle.std.specs.Map.{lookup}
use Rattle.std.specs.Global.{Vec}
use Rattle.std.specs.Option.{option_or, option_and_then}
use Rattle.std.specs.HashMap.{HashMap, get_by}
use Rattle.std.specs.declared.hash.FoldHasher.{FoldHasher}
use Rattle.std.specs.declared.hash.BuildHasherDefault.{BuildHasherDefault}
use Rattle.jv_names.specs.Names.{Name}

-- what a map by texts has at a text
abbrev pub at_text : {X S : Type 0} → HashMap (Vec ℕ) X S → Name → Option X
at_text m text = get_by (λ k. bytes_eq text k.items) m

-- the places of the members of one name, by their descriptors
abbrev pub ByDesc : Type 0
ByDesc = HashMap (Vec ℕ) ℕ (BuildHasherDefault FoldHasher)

abbrev pub ByName : Type 0
ByName = HashMap (Vec ℕ) ByDesc (BuildHasherDefault FoldHasher)

unfoldable pub place_by_desc : ByDesc → Name → Option ℕ
place_by_desc places desc = at_text places desc

unfoldable pub place_by_name : ByName → Name → Name → Option ℕ
place_by_name names name desc = option_and_then (λ places. place_by_desc places desc) (at_text names name)

-- what there was, and else a place
abbrev pub or_place : Option ℕ → Bool → ℕ → Option ℕ
or_place found here place = option_or found (if here then Some place else None)

-- ---- the same as a list

abbrev pub Index : Type 0
Index = List (Name × List (Name × ℕ))

abbrev pub seen_places : ByDesc → List (Name × ℕ)
seen_places places = map (λ e. (e.0.items, e.1)) places.entries

unfoldable pub seen : ByName → Index
seen names = map (λ e. (e.0.items, seen_places e.1)) names.entries

-- the place of a name and a descriptor
unfoldable pub found_in : Index → Name → Name → Option ℕ
found_in index name desc = option_and_then (lookup (bytes_eq desc)) (lookup (bytes_eq name) index)
