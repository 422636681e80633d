-- Operands read from the front: what was spelled is read again, and what is cut off is not read.
use Rattle.std.proofs.Common.{◌≡◌, ℕ, suc, ◌^◌, ◌<◌, ℤ, List, [], ◌∷◌, ◌++◌, length, Ok, Err, refl, ap, ◌∙◌, append_assoc, arith, w8, w16, w32, FitsSigned}
use Rattle.std.specs.Int.{cast_unsigned, cast_signed}
use Rattle.std.specs.List.{flat_map, AllByRecursion}
use Rattle.std.proofs.lemmas.Nat.{from_be_bytes-to_be_bytes_2, from_be_bytes-to_be_bytes_4}
use Rattle.std.proofs.lemmas.Int.{to_z-of_z}
use Rattle.std.proofs.Math.Facts.{Fits-of_z}
use Rattle.class_code.specs.declared.fault.InstrFault.TheVariants as instr_fault
use Rattle.class_code.specs.declared.instr.Padding.{Padding}
use Rattle.class_code.specs.declared.instr.Padding.TheVariants as padding
use Rattle.class_code.specs.Spelling.{s1, u2, s2, s4, padding_bytes}
use Rattle.class_code.specs.OperandReading.{take_u1, take_s1, take_u2, take_s2, take_s4, take_padding, take_words}

-- ---- what was spelled is read again

pub s1_again : (n : ℤ) (rest : List ℕ) → FitsSigned w8 n → take_s1 (s1 n ++ rest) ≡ Ok (n, rest)
s1_again n rest fits = ap (λ (m : ℤ). Ok (m, rest)) (to_z-of_z w8 n fits)

pub u2_again : (n : ℕ) (rest : List ℕ) → n < 2 ^ 16 → take_u2 (u2 n ++ rest) ≡ Ok (n, rest)
u2_again n rest fits = ap (λ (m : ℕ). Ok (m, rest)) (from_be_bytes-to_be_bytes_2 n fits)

pub s2_again : (n : ℤ) (rest : List ℕ) → FitsSigned w16 n → take_s2 (s2 n ++ rest) ≡ Ok (n, rest)
s2_again n rest fits = ap (λ (m : ℤ). Ok (m, rest)) (ap (cast_signed w16) (from_be_bytes-to_be_bytes_2 (cast_unsigned w16 n) (omega (arith, (Fits-of_z {w = w16} {z = n} fits).fits))) ∙ to_z-of_z w16 n fits)

pub s4_again : (n : ℤ) (rest : List ℕ) → FitsSigned w32 n → take_s4 (s4 n ++ rest) ≡ Ok (n, rest)
unfolding s4
s4_again n rest fits = ap (λ (m : ℤ). Ok (m, rest)) (ap (cast_signed w32) (from_be_bytes-to_be_bytes_4 (cast_unsigned w32 n) (omega (arith, (Fits-of_z {w = w32} {z = n} fits).fits))) ∙ to_z-of_z w32 n fits)

-- ---- what is cut off is not read

pub u1_cut : (bytes : List ℕ) → length bytes < 1 → take_u1 bytes ≡ Err instr_fault.Truncated
u1_cut [] lt = refl
u1_cut (a ∷ bytes) lt = absurd (omega arith)

pub s1_cut : (bytes : List ℕ) → length bytes < 1 → take_s1 bytes ≡ Err instr_fault.Truncated
s1_cut [] lt = refl
s1_cut (a ∷ bytes) lt = absurd (omega arith)

pub u2_cut : (bytes : List ℕ) → length bytes < 2 → take_u2 bytes ≡ Err instr_fault.Truncated
u2_cut [] lt = refl
u2_cut (a ∷ []) lt = refl
u2_cut (a ∷ b ∷ bytes) lt = absurd (omega arith)

pub s2_cut : (bytes : List ℕ) → length bytes < 2 → take_s2 bytes ≡ Err instr_fault.Truncated
s2_cut [] lt = refl
s2_cut (a ∷ []) lt = refl
s2_cut (a ∷ b ∷ bytes) lt = absurd (omega arith)

pub s4_cut : (bytes : List ℕ) → length bytes < 4 → take_s4 bytes ≡ Err instr_fault.Truncated
s4_cut [] lt = refl
s4_cut (a ∷ []) lt = refl
s4_cut (a ∷ b ∷ []) lt = refl
s4_cut (a ∷ b ∷ c ∷ []) lt = refl
s4_cut (a ∷ b ∷ c ∷ d ∷ bytes) lt = absurd (omega arith)

-- ---- the bytes before a switch's operands

pub padding_again : (n : ℕ) (p : Padding) (rest : List ℕ) → length (padding_bytes p) ≡ n → take_padding n (padding_bytes p ++ rest) ≡ Ok (p, rest)
padding_again n padding.None rest e = rw (← e) refl
padding_again n (padding.One a) rest e = rw (← e) refl
padding_again n (padding.Two a b) rest e = rw (← e) refl
padding_again n (padding.Three a b c) rest e = rw (← e) refl

-- ---- some numbers, one after the other

pub words_again : (ns : List ℤ) (rest : List ℕ) → AllByRecursion (FitsSigned w32) ns → take_words (length ns) (flat_map s4 ns ++ rest) ≡ Ok (ns, rest)
words_again [] rest fits = refl
words_again (n ∷ ns) rest fits =
    let regrouped : flat_map s4 (n ∷ ns) ++ rest ≡ s4 n ++ (flat_map s4 ns ++ rest) = append_assoc (s4 n) (flat_map s4 ns) rest in
    ap (take_words (suc (length ns))) regrouped ∙ rw (s4_again n (flat_map s4 ns ++ rest) fits.0, words_again ns rest fits.1) refl
