-- Instructions by the byte at which each begins.
use Rattle.std.specs.Prelude.{ℕ, ◌+◌, List, [], ◌∷◌, Option, Some, None}
use Rattle.first_form.specs.declared.Instr.{Instr}

-- those from a place on, each with the offset of its place, where the first place has this offset
abbrev pub listed_from : ℕ → List (Option Instr) → List (ℕ × Instr)
listed_from at [] = []
listed_from at (None ∷ places) = listed_from (at + 1) places
listed_from at (Some i ∷ places) = (at, i) ∷ listed_from (at + 1) places
