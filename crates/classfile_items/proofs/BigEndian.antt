-- The numbers of the first bytes, highest first, in the words of `byteorder` and in those of std.
use Rattle.std.proofs.Common.{◌≡◌, ℕ, List, [], ◌∷◌, arith}
use Rattle.std.specs.Int.{w16, w32, w64, from_be_bytes}
use Rattle.byteorder.specs.Endian.{big_number}

pub two : (a b : ℕ) (rest : List ℕ) → big_number 2 (a ∷ b ∷ rest) ≡ from_be_bytes w16 (a ∷ b ∷ [])
two a b rest = omega arith

pub four : (a b c d : ℕ) (rest : List ℕ) → big_number 4 (a ∷ b ∷ c ∷ d ∷ rest) ≡ from_be_bytes w32 (a ∷ b ∷ c ∷ d ∷ [])
four a b c d rest = omega arith

pub eight : (a b c d e f g h : ℕ) (rest : List ℕ) → big_number 8 (a ∷ b ∷ c ∷ d ∷ e ∷ f ∷ g ∷ h ∷ rest) ≡ from_be_bytes w64 (a ∷ b ∷ c ∷ d ∷ e ∷ f ∷ g ∷ h ∷ [])
eight a b c d e f g h rest = omega arith
