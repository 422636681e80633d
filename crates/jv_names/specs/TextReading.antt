-- Modified UTF-8 read unit by unit (JVM specification 4.4.7), as functions of the bytes.
use Rattle.std.specs.Prelude.{◌≡◌, ℕ, ◌+◌, ◌-◌, ◌*◌, ◌^◌, ◌<◌, ◌&&◌, ◌||◌, ◌==◌, nat_le, if◌then◌else◌, List, [], ◌∷◌, ◌++◌, take, drop, Option, Some, None}
use Rattle.std.specs.Option.{option_and_then}
use Rattle.std.specs.Cmp.Lexicographic.{pointwise}
use Rattle.jv_names.specs.Utf8.{unit_bytes, BeginsNoUnit}

-- how many bytes spell a unit whose first byte this is; what 0xc1 would begin is spelled shorter, so it begins none
abbrev pub unit_size : ℕ → Option ℕ
unit_size first =
    if nat_le 1 first && nat_le first 0x7f then Some 1
    else if first == 0xc0 || (nat_le 0xc2 first && nat_le first 0xdf) then Some 2
    else if nat_le 0xe0 first && nat_le first 0xef then Some 3
    else None

-- the number that the bits of one, two or three bytes give
abbrev pub bits_of_unit : List ℕ → ℕ
bits_of_unit [] = 0
bits_of_unit (first ∷ []) = first
bits_of_unit (first ∷ second ∷ []) = (first - 0xc0) * 64 + (second - 0x80)
bits_of_unit (first ∷ second ∷ third ∷ rest) = (first - 0xe0) * 4096 + (second - 0x80) * 64 + (third - 0x80)

-- the unit that these bytes are, and what stands behind them
abbrev pub spelled_unit : List ℕ → List ℕ → Option (ℕ × List ℕ)
spelled_unit own rest = if pointwise ◌==◌ (unit_bytes (bits_of_unit own)) own then Some (bits_of_unit own, rest) else None

abbrev pub first_size : List ℕ → Option ℕ
first_size [] = None
first_size (first ∷ rest) = unit_size first

-- the unit whose bytes stand at the front, and what stands behind them
unfoldable pub unit_at : List ℕ → Option (ℕ × List ℕ)
unit_at bytes = option_and_then (λ size. spelled_unit (take size bytes) (drop size bytes)) (first_size bytes)

-- what an answer of that says
abbrev pub IsUnitAnswer : List ℕ → Option (ℕ × List ℕ) → Type 0
IsUnitAnswer bytes None = BeginsNoUnit bytes
IsUnitAnswer bytes (Some x) = (x.0 < 2 ^ 16) × (bytes ≡ unit_bytes x.0 ++ x.1)
