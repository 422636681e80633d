-- Lists of types by their places.
use Rattle.std.specs.Prelude.{◌≡◌, ℕ, ◌-◌, ◌<◌, ◌≤◌, min, List, [], ◌∷◌, ◌++◌, Option, None, Some, length, take, nat_le, slice_index_or, if◌then◌else◌}
use Rattle.type_frames.specs.declared.vtype.VType.{VType}
use Rattle.type_frames.specs.Types.{expanded}

abbrev pub list_at : List (List VType) → ℕ → List VType
list_at lists place = slice_index_or lists place []

-- the words that a list takes, of which no more than 2^16 are counted
abbrev pub words_counted : List VType → ℕ
words_counted types = min (length (expanded types)) 65536

-- the list at a place ends with this type, before which an older one stands
pub record IsLast (lists : List (List VType)) (place : ℕ) (t : VType) (below : ℕ) : Type 0 where
  pub is : list_at lists place ≡ list_at lists below ++ t ∷ []
  pub older : below < place

-- there are more lists, and the earlier ones are as they were
pub record IsGrown (old new : List (List VType)) : Type 0 where
  pub longer : length old ≤ length new
  pub kept : (k : ℕ) → k < length old → list_at new k ≡ list_at old k

-- the list at a place is an earlier one with more types
pub record IsPut (old new : List (List VType)) (place : ℕ) (types : List VType) (at : ℕ) : Type 0 where
  pub grown : IsGrown old new
  pub within : at < length new
  pub is : list_at new at ≡ list_at old place ++ types

-- without the last types
abbrev pub without_last : ℕ → List VType → Option (List VType)
without_last count types = if nat_le count (length types) then Some (take (length types - count) types) else None
