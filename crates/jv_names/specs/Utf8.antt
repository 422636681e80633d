-- Modified UTF-8, in which class files spell texts: JVM specification 4.4.7. A text is the list of its UTF-16 units.
use Rattle.std.specs.Prelude.{◌≡◌, ◌≢◌, ℕ, ◌+◌, ◌/◌, ◌%◌, ◌^◌, ◌<◌, ◌&&◌, nat_le, if◌then◌else◌, List, [], ◌∷◌, ◌++◌, length, flat_map, Result, Ok, Err}
use Rattle.std.specs.List.{AllByRecursion}
use Rattle.jv_names.specs.declared.utf8.TextFault.{TextFault}
use Rattle.jv_names.specs.declared.utf8.TextFault.TheVariants.{Bad, Memory}

-- One byte spells a unit from 1 to 0x7f, two spell 0 and a unit from 0x80 to 0x7ff, and three any other.
unfoldable pub unit_bytes : ℕ → List ℕ
unit_bytes unit =
    if nat_le 1 unit && nat_le unit 0x7f then unit ∷ []
    else if nat_le unit 0x7ff then (0xc0 + unit / 64) ∷ (0x80 + unit % 64) ∷ []
    else (0xe0 + unit / 4096) ∷ (0x80 + unit / 64 % 64) ∷ (0x80 + unit % 64) ∷ []

abbrev pub utf8 : List ℕ → List ℕ
utf8 units = flat_map unit_bytes units

abbrev pub AreUnits : List ℕ → Type 0
AreUnits units = AllByRecursion (λ unit. unit < 2 ^ 16) units

-- the bytes spell this text
pub record SpellsText (units bytes : List ℕ) : Type 0 where
  pub in_range : AreUnits units
  pub spelled : bytes ≡ utf8 units

-- no unit's bytes stand at the front
abbrev pub BeginsNoUnit : List ℕ → Type 0
BeginsNoUnit bytes = (unit : ℕ) (after : List ℕ) → unit < 2 ^ 16 → bytes ≢ unit_bytes unit ++ after

-- whole units, and the rest, at whose front none stands
pub record StopsAt (bytes front rest : List ℕ) : Type 0 where
  pub in_range : AreUnits front
  pub parts : bytes ≡ utf8 front ++ rest
  pub stops : BeginsNoUnit rest

-- The first byte that begins no unit has this offset: whole units stand before it.
pub record IsFirstBad (bytes : List ℕ) (offset : ℕ) : Type 0 where
  pub front : List ℕ
  pub rest : List ℕ
  pub stops_at : StopsAt bytes front rest
  pub more : rest ≢ []
  pub place : offset ≡ length (utf8 front)

-- ---- what reading answers, want of memory apart

-- this text
abbrev pub GivesText : Result (List ℕ) TextFault → List ℕ → Type 0
GivesText (Ok read) units = read ≡ units
GivesText (Err (Bad offset)) units = ⊥
GivesText (Err Memory) units = Unit {0}

-- the fault at this offset
abbrev pub RefusesAt : Result (List ℕ) TextFault → ℕ → Type 0
RefusesAt (Ok read) offset = ⊥
RefusesAt (Err (Bad at)) offset = at ≡ offset
RefusesAt (Err Memory) offset = Unit {0}

-- a fact of the offset
abbrev pub IfBad : TextFault → (ℕ → Type 0) → Type 0
IfBad (Bad offset) P = P offset
IfBad Memory P = Unit {0}
