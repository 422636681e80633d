-- What the index of a list of instructions holds. No public clause cites it.
use Rattle.std.specs.Prelude.{◌≡◌, ℕ, ◌<◌, List, length, Some, slice_get, slice_index_or}
use Rattle.class_code.specs.declared.instr.Instr.{Instr}
use Rattle.class_code.specs.Listing.{IsRising}

-- each offset is below this one
abbrev pub AreBelow : List (ℕ × Instr) → ℕ → Type 0
AreBelow instrs end = (place : ℕ) (d : ℕ × Instr) → place < length instrs → (slice_index_or instrs place d).0 < end

-- each of the first instructions, so many, has its place at its offset
abbrev pub ArePlaced : List (ℕ × Instr) → ℕ → List ℕ → Type 0
ArePlaced instrs count places = (place : ℕ) (d : ℕ × Instr) → place < count → slice_get places (slice_index_or instrs place d).0 ≡ Some place

-- an instruction that begins at this offset has this place
abbrev pub IsPlaceOf : List (ℕ × Instr) → ℕ → ℕ → Type 0
IsPlaceOf instrs pc place = (place < length instrs) × ((d : ℕ × Instr) → (slice_index_or instrs place d).0 ≡ pc)

-- what a list and its index keep
pub record IsIndexed (instrs : List (ℕ × Instr)) (places : List ℕ) : Type 0 where
  pub rising : IsRising instrs
  pub placed : ArePlaced instrs (length instrs) places
