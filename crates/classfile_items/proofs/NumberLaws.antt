-- The laws of numbers.
use Rattle.std.proofs.Common.{◌≡◌, ℕ, zero, suc, ◌-◌, ◌^◌, ◌<◌, ◌≤◌, Bool, true, false, not, ℤ, pos, negsuc, List, [], ◌∷◌, ◌++◌, length, get_or, take, drop, Ok, refl, sym, ap, ◌∙◌, length-append, arith, w16, w32, w64}
use Rattle.std.specs.Prelude.{nat_lt, ◌==◌, ◌&&◌, FitsSigned}
use Rattle.std.specs.Int.{from_be_bytes, cast_signed, cast_unsigned}
use Rattle.std.specs.Int.Signed.{mag}
use Rattle.std.proofs.lemmas.Bool.{and_parts, and_from, ltb-true, lt-ltb, ltb-false, le-ltb, eqb-true, eq-eqb}
use Rattle.std.proofs.lemmas.List.{take-append-drop, length-take-le}
use Rattle.std.proofs.Math.Seq.{take-append_seam, drop-append_seam}
use Rattle.std.proofs.lemmas.Int.{of_z-to_z, to_z-of_z}
use Rattle.std.proofs.Math.Facts.{Fits-of_z, sfits_to_z}
use Rattle.std.proofs.lemmas.Nat.{from_be_bytes-to_be_bytes_2, from_be_bytes-to_be_bytes_4, from_be_bytes-to_be_bytes_8, be_bytes_2, be_bytes_4, be_bytes_8}
use Rattle.class_tree.specs.Ranges.{is_byte, is_u2, is_u4, is_u8, is_signed, is_s4, is_s8, are_bytes}
use Rattle.class_tree.specs.Spelling as bytes_of
use Rattle.classfile_items.specs.Reading.{u1, u2, u4, u8, s4, s8, raw}
use Rattle.classfile_items.proofs.Laws.{Stands, IsSound, IsComplete, step, done, by_test, of_found, bytes_before, bytes_behind}

abbrev pub one_byte : ℕ → List ℕ
one_byte n = n ∷ []

byte_at : (bytes : List ℕ) → are_bytes bytes ≡ true → (i : ℕ) → get_or bytes i 0 < 256
byte_at [] are i = omega arith
byte_at (a ∷ bytes) are zero = ltb-true a 256 (and_parts _ _ are).0
byte_at (a ∷ bytes) are (suc i) = byte_at bytes (and_parts (is_byte a) _ are).1 i

-- ---- unsigned numbers

u1_stands : (end : ℕ) (bytes : List ℕ) (x : ℕ × List ℕ) → are_bytes bytes ≡ true → u1 end bytes ≡ Ok x → Stands one_byte is_byte bytes x
unfolding u1
u1_stands end [] x are e = cc
u1_stands end (a ∷ bytes) x are e =
    of_found (Stands one_byte is_byte (a ∷ bytes)) (a, bytes) x e (record { spelled = refl; passes = (and_parts _ _ are).0; left = (and_parts (is_byte a) _ are).1 })

pub u1_sound : (end : ℕ) → IsSound (u1 end) one_byte is_byte
u1_sound end = record { stands = u1_stands end }

pub u1_complete : (end : ℕ) → IsComplete (u1 end) one_byte is_byte
unfolding u1
u1_complete end n rest passes = refl

two_below : (a b : ℕ) → a < 256 → b < 256 → from_be_bytes w16 (a ∷ b ∷ []) < 65536
two_below a b p q = omega arith

u2_stands : (end : ℕ) (bytes : List ℕ) (x : ℕ × List ℕ) → are_bytes bytes ≡ true → u2 end bytes ≡ Ok x → Stands bytes_of.u2 is_u2 bytes x
unfolding u2 bytes_of.u2
u2_stands end [] x are e = cc
u2_stands end (a ∷ []) x are e = cc
u2_stands end (a ∷ b ∷ bytes) x are e =
    let n = from_be_bytes w16 (a ∷ b ∷ []) in
    let at : (i : ℕ) → get_or (a ∷ b ∷ []) i 0 < 256 = byte_at (a ∷ b ∷ []) (bytes_before (a ∷ b ∷ []) bytes are) in
    of_found (Stands bytes_of.u2 is_u2 (a ∷ b ∷ bytes)) (n, bytes) x e (record {
      spelled = ap (λ (front : List ℕ). front ++ bytes) (sym (be_bytes_2 (a ∷ b ∷ []) n refl at refl));
      passes = lt-ltb n 65536 (two_below a b (at 0) (at 1));
      left = bytes_behind (a ∷ b ∷ []) bytes are;
    })

pub u2_sound : (end : ℕ) → IsSound (u2 end) bytes_of.u2 is_u2
u2_sound end = record { stands = u2_stands end }

pub u2_complete : (end : ℕ) → IsComplete (u2 end) bytes_of.u2 is_u2
unfolding u2 bytes_of.u2
u2_complete end n rest passes = ap (λ (m : ℕ). Ok (m, rest)) (from_be_bytes-to_be_bytes_2 n (ltb-true n 65536 passes))

four_below : (a b c d : ℕ) → a < 256 → b < 256 → c < 256 → d < 256 → from_be_bytes w32 (a ∷ b ∷ c ∷ d ∷ []) < 2 ^ 32
four_below a b c d p q r s = omega arith

u4_stands : (end : ℕ) (bytes : List ℕ) (x : ℕ × List ℕ) → are_bytes bytes ≡ true → u4 end bytes ≡ Ok x → Stands bytes_of.u4 is_u4 bytes x
unfolding u4 bytes_of.u4
u4_stands end [] x are e = cc
u4_stands end (a ∷ []) x are e = cc
u4_stands end (a ∷ b ∷ []) x are e = cc
u4_stands end (a ∷ b ∷ c ∷ []) x are e = cc
u4_stands end (a ∷ b ∷ c ∷ d ∷ bytes) x are e =
    let front = a ∷ b ∷ c ∷ d ∷ [] in
    let n = from_be_bytes w32 front in
    let at : (i : ℕ) → get_or front i 0 < 256 = byte_at front (bytes_before front bytes are) in
    of_found (Stands bytes_of.u4 is_u4 (a ∷ b ∷ c ∷ d ∷ bytes)) (n, bytes) x e (record {
      spelled = ap (λ (front : List ℕ). front ++ bytes) (sym (be_bytes_4 front n refl at refl));
      passes = lt-ltb n (2 ^ 32) (four_below a b c d (at 0) (at 1) (at 2) (at 3));
      left = bytes_behind front bytes are;
    })

pub u4_sound : (end : ℕ) → IsSound (u4 end) bytes_of.u4 is_u4
u4_sound end = record { stands = u4_stands end }

pub u4_complete : (end : ℕ) → IsComplete (u4 end) bytes_of.u4 is_u4
unfolding u4 bytes_of.u4
u4_complete end n rest passes = ap (λ (m : ℕ). Ok (m, rest)) (from_be_bytes-to_be_bytes_4 n (ltb-true n (2 ^ 32) passes))

eight_below : (a b c d e f g h : ℕ) → a < 256 → b < 256 → c < 256 → d < 256 → e < 256 → f < 256 → g < 256 → h < 256 → from_be_bytes w64 (a ∷ b ∷ c ∷ d ∷ e ∷ f ∷ g ∷ h ∷ []) < 2 ^ 64
eight_below a b c d e f g h p q r s t u v w = omega arith

u8_stands : (end : ℕ) (bytes : List ℕ) (x : ℕ × List ℕ) → are_bytes bytes ≡ true → u8 end bytes ≡ Ok x → Stands bytes_of.u8 is_u8 bytes x
unfolding u8 bytes_of.u8
u8_stands end [] x are e = cc
u8_stands end (a ∷ []) x are e = cc
u8_stands end (a ∷ b ∷ []) x are e = cc
u8_stands end (a ∷ b ∷ c ∷ []) x are e = cc
u8_stands end (a ∷ b ∷ c ∷ d ∷ []) x are e = cc
u8_stands end (a ∷ b ∷ c ∷ d ∷ f ∷ []) x are e = cc
u8_stands end (a ∷ b ∷ c ∷ d ∷ f ∷ g ∷ []) x are e = cc
u8_stands end (a ∷ b ∷ c ∷ d ∷ f ∷ g ∷ h ∷ []) x are e = cc
u8_stands end (a ∷ b ∷ c ∷ d ∷ f ∷ g ∷ h ∷ i ∷ bytes) x are e =
    let front = a ∷ b ∷ c ∷ d ∷ f ∷ g ∷ h ∷ i ∷ [] in
    let n = from_be_bytes w64 front in
    let at : (i : ℕ) → get_or front i 0 < 256 = byte_at front (bytes_before front bytes are) in
    of_found (Stands bytes_of.u8 is_u8 (front ++ bytes)) (n, bytes) x e (record {
      spelled = ap (λ (front : List ℕ). front ++ bytes) (sym (be_bytes_8 front n refl at refl));
      passes = lt-ltb n (2 ^ 64) (eight_below a b c d f g h i (at 0) (at 1) (at 2) (at 3) (at 4) (at 5) (at 6) (at 7));
      left = bytes_behind front bytes are;
    })

pub u8_sound : (end : ℕ) → IsSound (u8 end) bytes_of.u8 is_u8
u8_sound end = record { stands = u8_stands end }

pub u8_complete : (end : ℕ) → IsComplete (u8 end) bytes_of.u8 is_u8
unfolding u8 bytes_of.u8
u8_complete end n rest passes = ap (λ (m : ℕ). Ok (m, rest)) (from_be_bytes-to_be_bytes_8 n (ltb-true n (2 ^ 64) passes))

-- ---- signed numbers

signed_of_mag : (bound : ℕ) (n : ℤ) → mag n < bound → is_signed bound n ≡ true
signed_of_mag bound (pos n) lt = ap (λ (t : Bool). t && true) (lt-ltb n bound lt)
signed_of_mag bound (negsuc n) lt = ap not (le-ltb (bound - 1) n (omega arith))

not_true : (b : Bool) → not b ≡ true → b ≡ false
not_true true e = sym e
not_true false e = refl

mag_of_signed : (bound : ℕ) (n : ℤ) → 0 < bound → is_signed bound n ≡ true → mag n < bound
mag_of_signed bound (pos n) above passes = ltb-true n bound (and_parts _ _ passes).0
mag_of_signed bound (negsuc n) above passes = let le : n ≤ bound - 1 = ltb-false (bound - 1) n (not_true _ passes) in omega arith

pub s4_sound : (end : ℕ) → IsSound (s4 end) bytes_of.s4 is_s4
unfolding s4
s4_sound end = step (u4_sound end) (λ n is_n.
    let fits : n < 2 ^ 32 = ltb-true n (2 ^ 32) is_n in
    done (cast_signed w32 n) (ap bytes_of.u4 (of_z-to_z w32 n fits)) (signed_of_mag (2 ^ 31) (cast_signed w32 n) (sfits_to_z {w = w32} {n = n} (record { fits = fits })).sfits))

pub s4_complete : (end : ℕ) → IsComplete (s4 end) bytes_of.s4 is_s4
unfolding s4
s4_complete end n rest passes =
    let fits : FitsSigned w32 n = record { sfits = mag_of_signed (2 ^ 31) n (omega arith) passes } in
    let below : is_u4 (cast_unsigned w32 n) ≡ true = lt-ltb _ _ (Fits-of_z {w = w32} {z = n} fits).fits in
    rw (u4_complete end (cast_unsigned w32 n) rest below) (ap (λ (m : ℤ). Ok (m, rest)) (to_z-of_z w32 n fits))

pub s8_sound : (end : ℕ) → IsSound (s8 end) bytes_of.s8 is_s8
unfolding s8
s8_sound end = step (u8_sound end) (λ n is_n.
    let fits : n < 2 ^ 64 = ltb-true n (2 ^ 64) is_n in
    done (cast_signed w64 n) (ap bytes_of.u8 (of_z-to_z w64 n fits)) (signed_of_mag (2 ^ 63) (cast_signed w64 n) (sfits_to_z {w = w64} {n = n} (record { fits = fits })).sfits))

pub s8_complete : (end : ℕ) → IsComplete (s8 end) bytes_of.s8 is_s8
unfolding s8
s8_complete end n rest passes =
    let fits : FitsSigned w64 n = record { sfits = mag_of_signed (2 ^ 63) n (omega arith) passes } in
    let below : is_u8 (cast_unsigned w64 n) ≡ true = lt-ltb _ _ (Fits-of_z {w = w64} {z = n} fits).fits in
    rw (u8_complete end (cast_unsigned w64 n) rest below) (ap (λ (m : ℤ). Ok (m, rest)) (to_z-of_z w64 n fits))

-- ---- bytes as they stand

abbrev pub as_they_stand : List ℕ → List ℕ
as_they_stand bytes = bytes

-- so many bytes
abbrev pub are_raw : ℕ → List ℕ → Bool
are_raw n bytes = are_bytes bytes && (length bytes == n)

raw_stands : (end n : ℕ) (bytes : List ℕ) (x : List ℕ × List ℕ) → are_bytes bytes ≡ true → raw end n bytes ≡ Ok x → Stands as_they_stand (are_raw n) bytes x
unfolding raw
raw_stands end n bytes x are e =
    by_test (Stands as_they_stand (are_raw n) bytes x) (nat_lt (length bytes) n) _ _ x e (λ short f. cc) (λ long f.
    let le : n ≤ length bytes = ltb-false (length bytes) n long in
    let parts : take n bytes ++ drop n bytes ≡ bytes = take-append-drop n bytes in
    let all : are_bytes (take n bytes ++ drop n bytes) ≡ true = ap are_bytes parts ∙ are in
    of_found (Stands as_they_stand (are_raw n) bytes) (take n bytes, drop n bytes) x f (record {
      spelled = sym parts;
      passes = and_from _ _ (bytes_before (take n bytes) (drop n bytes) all) (eq-eqb _ _ (length-take-le n bytes le));
      left = bytes_behind (take n bytes) (drop n bytes) all;
    }))

pub raw_sound : (end n : ℕ) → IsSound (raw end n) as_they_stand (are_raw n)
raw_sound end n = record { stands = raw_stands end n }

raw_back : (end : ℕ) (bytes rest : List ℕ) → raw end (length bytes) (bytes ++ rest) ≡ Ok (bytes, rest)
unfolding raw
raw_back end bytes rest =
    rw (le-ltb (length (bytes ++ rest)) (length bytes) (omega (arith, length-append bytes rest)), take-append_seam bytes rest, drop-append_seam bytes rest) refl

pub raw_complete : (end n : ℕ) → IsComplete (raw end n) as_they_stand (are_raw n)
raw_complete end n bytes rest passes =
    let same : length bytes ≡ n = eqb-true (length bytes) n (and_parts (are_bytes bytes) _ passes).1 in
    ap (λ (m : ℕ). raw end m (bytes ++ rest)) (sym same) ∙ raw_back end bytes rest
