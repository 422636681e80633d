-- The instructions of a method's code, each with its offset in bytes (JVM specification 4.7.3 and 4.9.1).
use Rattle.std.specs.Prelude.{◌≡◌, ℕ, ◌+◌, ℤ, pos, ◌+ℤ◌, Bool, List, [], ◌∷◌, ◌++◌, length, map, Option, None, find, not}
use Rattle.std.specs.List.{flat_map, list_any, list_all}
use Rattle.std.specs.List.Sorted.{IsStrictlyIncreasing}
use Rattle.std.specs.Ordering.{int_eq}
use Rattle.class_code.specs.declared.instr.Instr.{Instr}
use Rattle.class_code.specs.declared.instr.Instr.TheVariants as instr
use Rattle.class_code.specs.Spelling.{spelling, Stands}
use Rattle.class_code.specs.Ranges.{Fits}

-- their bytes, one after the other
abbrev pub spelled : List (ℕ × Instr) → List ℕ
spelled ps = flat_map (λ p. spelling p.1) ps

-- each instruction stands where those before it end, from this offset on, and may stand there
abbrev pub InPlace : ℕ → List (ℕ × Instr) → Type 0
InPlace at [] = Unit {0}
InPlace at (p ∷ ps) = (p.0 ≡ at) × Fits p.1 × Stands at p.1 × InPlace (at + length (spelling p.1)) ps

-- the code is these instructions' bytes
pub record IsSpelled (code : List ℕ) (ps : List (ℕ × Instr)) : Type 0 where
  pub whole : code ≡ spelled ps
  pub in_place : InPlace 0 ps

-- their offsets rise
abbrev pub IsRising : List (ℕ × Instr) → Type 0
IsRising ps = IsStrictlyIncreasing (map (λ p. p.0) ps)

-- ---- targets

-- how far from itself an instruction may lead, but for the next one
abbrev pub jumps : Instr → List ℤ
jumps (instr.Branch when by) = by ∷ []
jumps (instr.GotoWide by) = by ∷ []
jumps (instr.TableSwitch t) = t.default ∷ t.offsets
jumps (instr.LookupSwitch l) = l.default ∷ map (λ p. p.1) l.pairs
jumps i = []

-- an instruction of the list begins at this offset
abbrev pub begins : List (ℕ × Instr) → ℤ → Bool
begins ps target = list_any (λ p. int_eq (pos p.0) target) ps

-- wherever an instruction leads, one of the list begins
abbrev pub lands : List (ℕ × Instr) → ℕ × Instr → Bool
lands ps p = list_all (λ by. begins ps (pos p.0 +ℤ by)) (jumps p.1)

-- the first instruction that leads to where none begins
abbrev pub astray : List (ℕ × Instr) → Option (ℕ × Instr)
astray ps = find (λ p. not (lands ps p)) ps

-- The code's list of instructions: it is their bytes, and none leads astray.
pub record IsListing (code : List ℕ) (ps : List (ℕ × Instr)) : Type 0 where
  pub spelled : IsSpelled code ps
  pub targets : astray ps ≡ None

-- ---- one instruction

-- A whole instruction stands at the front of these bytes, whose first has this offset, and takes so many of them.
pub record IsInstrAt (at : ℕ) (bytes : List ℕ) (len : ℕ) : Type 0 where
  pub instr : Instr
  pub rest : List ℕ
  pub fits : Fits instr
  pub stands : Stands at instr
  pub parts : bytes ≡ spelling instr ++ rest
  pub len_is : len ≡ length (spelling instr)
