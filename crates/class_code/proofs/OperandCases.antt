-- Each operand stands whole at the front of some bytes, or is cut off or not allowed.
use Rattle.std.proofs.Common.{◌≡◌, inl, inr, ℕ, zero, suc, ◌+◌, ◌*◌, ◌^◌, ◌<◌, ◌≤◌, lit<, ℤ, List, [], ◌∷◌, ◌++◌, length, Option, Some, None, refl, sym, ap, ◌∙◌, append_assoc, arith, get_or, w8, w16, w32, FitsSigned}
use Rattle.std.specs.Prelude.{◌⊎◌}
use Rattle.std.specs.Int.{from_be_bytes, to_be_bytes, cast_signed}
use Rattle.std.specs.List.{flat_map, AllByRecursion}
use Rattle.std.proofs.lemmas.Nat.{be_bytes_2, be_bytes_4}
use Rattle.std.proofs.lemmas.Int.{of_z-to_z, by_lt_z}
use Rattle.std.proofs.Math.Facts.{sfits_to_z}
use Rattle.class_code.specs.declared.fault.InstrFault.{InstrFault}
use Rattle.class_code.specs.declared.fault.InstrFault.TheVariants as instr_fault
use Rattle.class_code.specs.declared.instr.Padding.{Padding}
use Rattle.class_code.specs.declared.instr.Padding.TheVariants as padding
use Rattle.class_code.specs.declared.instr.Primitive.{Primitive}
use Rattle.class_code.specs.declared.instr.Primitive.TheVariants as primitive
use Rattle.class_code.specs.Codes.{primitive_code}
use Rattle.class_code.specs.Spelling.{s1, u2, s2, s4, padding_bytes, pair_bytes, IsAbove, Rises}
use Rattle.class_code.specs.Ranges.{PairFits}
use Rattle.class_code.specs.Faults.{PrimitiveFault, IsNotAbove, last_key, PairFault}
use Rattle.class_code.proofs.FaultBack.{IsBytes}

-- what is spelled so at the front takes k bytes, and is followed by bytes
abbrev pub Whole : {A : Type 0} → (A → List ℕ) → (A → Type 0) → ℕ → List ℕ → Type 0
Whole {A} spell P k bytes = (x : A) × (rest : List ℕ) × (bytes ≡ spell x ++ rest) × P x × (length rest + k ≡ length bytes) × IsBytes rest

each_fits : (bytes : List ℕ) → IsBytes bytes → (i : ℕ) → get_or bytes i 0 < 256
each_fits [] fits i = lit< tt
each_fits (b ∷ bytes) fits zero = fits.0
each_fits (b ∷ bytes) fits (suc i) = each_fits bytes fits.1 i

-- ---- numbers

abbrev pub one_byte : ℕ → List ℕ
one_byte n = n ∷ []

pub u1_or_cut : (bytes : List ℕ) → IsBytes bytes → Whole one_byte (λ n. n < 256) 1 bytes ⊎ (length bytes < 1)
u1_or_cut [] fits = inr (lit< tt)
u1_or_cut (a ∷ bytes) fits = inl (a, bytes, refl, fits.0, omega arith, fits.1)

pub s1_or_cut : (bytes : List ℕ) → IsBytes bytes → Whole s1 (FitsSigned w8) 1 bytes ⊎ (length bytes < 1)
s1_or_cut [] fits = inr (lit< tt)
s1_or_cut (a ∷ bytes) fits = inl (cast_signed w8 a, bytes, ap (λ (n : ℕ). n ∷ bytes) (sym (of_z-to_z w8 a fits.0)), sfits_to_z (record { fits = fits.0 }), omega arith, fits.1)

pub u2_back : (a b : ℕ) (bytes : List ℕ) → IsBytes (a ∷ b ∷ bytes) → (from_be_bytes w16 (a ∷ b ∷ []) < 2 ^ 16) × (u2 (from_be_bytes w16 (a ∷ b ∷ [])) ≡ a ∷ b ∷ [])
u2_back a b bytes fits = (omega (arith, fits.0, fits.1.0), be_bytes_2 (a ∷ b ∷ []) (from_be_bytes w16 (a ∷ b ∷ [])) refl (each_fits (a ∷ b ∷ []) (fits.0, (fits.1.0, tt))) refl)

pub u2_or_cut : (bytes : List ℕ) → IsBytes bytes → Whole u2 (λ n. n < 2 ^ 16) 2 bytes ⊎ (length bytes < 2)
u2_or_cut [] fits = inr (lit< tt)
u2_or_cut (a ∷ []) fits = inr (lit< tt)
u2_or_cut (a ∷ b ∷ bytes) fits =
    let both = u2_back a b bytes fits in
    inl (from_be_bytes w16 (a ∷ b ∷ []), bytes, ap (λ (front : List ℕ). front ++ bytes) (sym both.1), both.0, omega arith, fits.1.1)

pub s2_or_cut : (bytes : List ℕ) → IsBytes bytes → Whole s2 (FitsSigned w16) 2 bytes ⊎ (length bytes < 2)
s2_or_cut [] fits = inr (lit< tt)
s2_or_cut (a ∷ []) fits = inr (lit< tt)
s2_or_cut (a ∷ b ∷ bytes) fits =
    let n : ℕ = from_be_bytes w16 (a ∷ b ∷ []) in
    let both = u2_back a b bytes fits in
    let again : s2 (cast_signed w16 n) ≡ a ∷ b ∷ [] = ap u2 (of_z-to_z w16 n both.0) ∙ both.1 in
    inl (cast_signed w16 n, bytes, ap (λ (front : List ℕ). front ++ bytes) (sym again), sfits_to_z (record { fits = both.0 }), omega arith, fits.1.1)

s4_back : (a b c d : ℕ) → IsBytes (a ∷ b ∷ c ∷ d ∷ []) → (from_be_bytes w32 (a ∷ b ∷ c ∷ d ∷ []) < 2 ^ 32) × (s4 (cast_signed w32 (from_be_bytes w32 (a ∷ b ∷ c ∷ d ∷ []))) ≡ a ∷ b ∷ c ∷ d ∷ [])
unfolding s4
s4_back a b c d fits =
    let n : ℕ = from_be_bytes w32 (a ∷ b ∷ c ∷ d ∷ []) in
    let small : n < 2 ^ 32 = omega (arith, fits.0, fits.1.0, fits.1.1.0, fits.1.1.1.0) in
    (small, ap (λ (m : ℕ). to_be_bytes w32 m) (of_z-to_z w32 n small) ∙ be_bytes_4 (a ∷ b ∷ c ∷ d ∷ []) n refl (each_fits (a ∷ b ∷ c ∷ d ∷ []) fits) refl)

pub s4_or_cut : (bytes : List ℕ) → IsBytes bytes → Whole s4 (FitsSigned w32) 4 bytes ⊎ (length bytes < 4)
s4_or_cut [] fits = inr (lit< tt)
s4_or_cut (a ∷ []) fits = inr (lit< tt)
s4_or_cut (a ∷ b ∷ []) fits = inr (lit< tt)
s4_or_cut (a ∷ b ∷ c ∷ []) fits = inr (lit< tt)
s4_or_cut (a ∷ b ∷ c ∷ d ∷ bytes) fits =
    let both = s4_back a b c d (fits.0, (fits.1.0, (fits.1.1.0, (fits.1.1.1.0, tt)))) in
    inl (cast_signed w32 (from_be_bytes w32 (a ∷ b ∷ c ∷ d ∷ [])), bytes, ap (λ (front : List ℕ). front ++ bytes) (sym both.1), sfits_to_z (record { fits = both.0 }), omega arith, fits.1.1.1.1)

-- where there are enough bytes
pub s4_of : (bytes : List ℕ) → IsBytes bytes → 4 ≤ length bytes → Whole s4 (FitsSigned w32) 4 bytes
s4_of bytes fits enough = elim (s4_or_cut bytes fits) [
  | inl w ↦ w
  | inr cut ↦ absurd (omega (arith, cut, enough))
]

-- ---- the bytes before a switch's operands

abbrev pub Padded : ℕ → List ℕ → Type 0
Padded n bytes = (p : Padding) × (rest : List ℕ) × (bytes ≡ padding_bytes p ++ rest) × (length (padding_bytes p) ≡ n) × (length rest + n ≡ length bytes) × IsBytes rest

pub padding_of : (n : ℕ) (bytes : List ℕ) → IsBytes bytes → n < 4 → n ≤ length bytes → Padded n bytes
padding_of zero bytes fits few enough = (padding.None, bytes, refl, refl, omega arith, fits)
padding_of (suc zero) (a ∷ bytes) fits few enough = (padding.One a, bytes, refl, refl, omega arith, fits.1)
padding_of (suc (suc zero)) (a ∷ b ∷ bytes) fits few enough = (padding.Two a b, bytes, refl, refl, omega arith, fits.1.1)
padding_of (suc (suc (suc zero))) (a ∷ b ∷ c ∷ bytes) fits few enough = (padding.Three a b c, bytes, refl, refl, omega arith, fits.1.1.1)
padding_of n bytes fits few enough = absurd (omega (arith, few, enough))

-- ---- the entries of a switch

abbrev pub Words : ℕ → List ℕ → Type 0
Words n bytes = (ws : List ℤ) × (rest : List ℕ) × (bytes ≡ flat_map s4 ws ++ rest) × AllByRecursion (FitsSigned w32) ws × (length ws ≡ n) × IsBytes rest

pub words_or_cut : (n : ℕ) (bytes : List ℕ) → IsBytes bytes → Words n bytes ⊎ (length bytes < 4 * n)
words_or_cut zero bytes fits = inl ([], bytes, refl, tt, refl, fits)
words_or_cut (suc n) bytes fits = elim (s4_or_cut bytes fits) [
  | inr cut ↦ inr (omega (arith, cut))
  | inl (w, rest, parts, range, len, left) ↦ elim (words_or_cut n rest left) [
    | inr cut ↦ inr (omega (arith, cut, len))
    | inl (ws, after, more, ranges, count, end) ↦
        inl (w ∷ ws, after, parts ∙ ap (λ (r : List ℕ). s4 w ++ r) more ∙ sym (append_assoc (s4 w) (flat_map s4 ws) after), (range, ranges), omega (arith, count), end)
  ]
]

-- a key is above the one before, or is not
above_or_not : (last : Option ℤ) (key : ℤ) → IsAbove last key ⊎ IsNotAbove last key
above_or_not None key = inl tt
above_or_not (Some last) key = by_lt_z last key (λ less. inl less) (λ least. inr least)

abbrev PairOf : Option ℤ → List ℕ → Type 0
PairOf last bytes = (p : ℤ × ℤ) × (rest : List ℕ) × (bytes ≡ pair_bytes p ++ rest) × PairFits p × IsAbove last p.0 × IsBytes rest

pair_or_fault : (last : Option ℤ) (bytes : List ℕ) → IsBytes bytes → PairOf last bytes ⊎ ((why : InstrFault) × PairFault last bytes why)
pair_or_fault last bytes fits = elim (s4_or_cut bytes fits) [
  | inr cut ↦ inr (instr_fault.Truncated, inl (refl, cut))
  | inl (key, rest, parts, range, len, left) ↦ elim (above_or_not last key) [
    | inr not_above ↦ inr (instr_fault.BadOperand, inr (key, rest, range, parts, inl (not_above, refl)))
    | inl above ↦ elim (s4_or_cut rest left) [
      | inr cut ↦ inr (instr_fault.Truncated, inr (key, rest, range, parts, inr (above, (refl, cut))))
      | inl (to, after, more, to_range, to_len, end) ↦
          inl ((key, to), after, parts ∙ ap (λ (r : List ℕ). s4 key ++ r) more ∙ sym (append_assoc (s4 key) (s4 to) after), (range, to_range), above, end)
    ]
  ]
]

abbrev pub PairsOf : ℕ → Option ℤ → List ℕ → Type 0
PairsOf n last bytes = (ps : List (ℤ × ℤ)) × (rest : List ℕ) × (bytes ≡ flat_map pair_bytes ps ++ rest) × AllByRecursion PairFits ps × (length ps ≡ n) × Rises last ps × IsBytes rest

-- behind some pairs that are in order the next is at fault
abbrev pub StopsIn : ℕ → Option ℤ → List ℕ → Type 0
StopsIn n last bytes = (front : List (ℤ × ℤ)) × (rest : List ℕ) × (why : InstrFault) × (length front < n) × (bytes ≡ flat_map pair_bytes front ++ rest) × AllByRecursion PairFits front × Rises last front × PairFault (last_key last front) rest why

pub pairs_or_fault : (n : ℕ) (last : Option ℤ) (bytes : List ℕ) → IsBytes bytes → PairsOf n last bytes ⊎ StopsIn n last bytes
pairs_or_fault zero last bytes fits = inl ([], bytes, refl, tt, refl, tt, fits)
pairs_or_fault (suc n) last bytes fits = elim (pair_or_fault last bytes fits) [
  | inr (why, fault) ↦ inr ([], bytes, why, omega arith, refl, tt, tt, fault)
  | inl (p, rest, parts, range, above, left) ↦ elim (pairs_or_fault n (Some p.0) rest left) [
    | inl (ps, after, more, ranges, count, rising, end) ↦
        inl (p ∷ ps, after, parts ∙ ap (λ (r : List ℕ). pair_bytes p ++ r) more ∙ sym (append_assoc (pair_bytes p) (flat_map pair_bytes ps) after), (range, ranges), omega (arith, count), (above, rising), end)
    | inr (front, after, why, fewer, more, ranges, rising, fault) ↦
        inr (p ∷ front, after, why, omega (arith, fewer), parts ∙ ap (λ (r : List ℕ). pair_bytes p ++ r) more ∙ sym (append_assoc (pair_bytes p) (flat_map pair_bytes front) after), (range, ranges), (above, rising), fault)
  ]
]

-- ---- the operand of newarray

pub primitive_or_fault : (b : ℕ) → ((p : Primitive) × (b ≡ primitive_code p)) ⊎ ((why : InstrFault) × PrimitiveFault b why)
primitive_or_fault zero = inr (instr_fault.BadOperand, inl (lit< tt))
primitive_or_fault (suc zero) = inr (instr_fault.BadOperand, inl (lit< tt))
primitive_or_fault (suc (suc zero)) = inr (instr_fault.BadOperand, inl (lit< tt))
primitive_or_fault (suc (suc (suc zero))) = inr (instr_fault.BadOperand, inl (lit< tt))
primitive_or_fault (suc (suc (suc (suc zero)))) = inl (primitive.Boolean, refl)
primitive_or_fault (suc (suc (suc (suc (suc zero))))) = inl (primitive.Char, refl)
primitive_or_fault (suc (suc (suc (suc (suc (suc zero)))))) = inr (instr_fault.Floating, inl refl)
primitive_or_fault (suc (suc (suc (suc (suc (suc (suc zero))))))) = inr (instr_fault.Floating, inr refl)
primitive_or_fault (suc (suc (suc (suc (suc (suc (suc (suc zero)))))))) = inl (primitive.Byte, refl)
primitive_or_fault (suc (suc (suc (suc (suc (suc (suc (suc (suc zero))))))))) = inl (primitive.Short, refl)
primitive_or_fault (suc (suc (suc (suc (suc (suc (suc (suc (suc (suc zero)))))))))) = inl (primitive.Int, refl)
primitive_or_fault (suc (suc (suc (suc (suc (suc (suc (suc (suc (suc (suc zero))))))))))) = inl (primitive.Long, refl)
primitive_or_fault (suc (suc (suc (suc (suc (suc (suc (suc (suc (suc (suc (suc b)))))))))))) = inr (instr_fault.BadOperand, inr (omega arith))
