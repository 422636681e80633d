-- What the operations of the machine leave is what `int_wrap` leaves: std says of a word's operations what they do to its
-- bits.
use Rattle.std.proofs.Common.{◌≡◌, ℕ, zero, suc, ◌+◌, ◌/◌, ◌%◌, ◌^◌, ◌<◌, ◌≤◌, ℤ, pos, negsuc, ◌*ℤ◌, neg_ℤ, refl, sym, ap, ◌∙◌, arith}
use Rattle.std.specs.Int.{Width, w8, w16, w32, w64, w128, cast_signed, cast_unsigned, int_wrap, int_shl}
use Rattle.std.specs.Int.RustNames.{FitsSigned, int_div}
use Rattle.std.proofs.lemmas.Int.{to_z-of_z, wraps, int_wrap-mul_right, wrapping_mul-bits}
use Rattle.std.proofs.Math.Nat.{mod-eq_of_lt, div-le_self}
use Rattle.std.proofs.Math.Pow.{pow-lt}
use Rattle.std.specs.Int.Signed.{mag}
use mir.Val.{bits, hbits}
use mir.ValLaws.{of_z_fits}
use Rattle.jv_number.specs.Numbers.{modulo}

-- half of the numbers of a width are negative
two_halves : (w : Width) → 2 ^ hbits w + 2 ^ hbits w ≡ 2 ^ bits w
two_halves w8 = refl
two_halves w16 = refl
two_halves w32 = refl
two_halves w64 = refl
two_halves w128 = refl

-- A number nearer to 0 than 2 ^ bits w, cast to w bits and back.
cast_is : (w : Width) (z : ℤ) → mag z < 2 ^ bits w → cast_signed w (cast_unsigned w z) ≡ int_wrap w z
unfolding int_wrap
cast_is w (pos n) h = ap (cast_signed w) (sym (mod-eq_of_lt h))
cast_is w (negsuc n) h = let small : n % 2 ^ bits w ≡ n = mod-eq_of_lt h in ap (cast_signed w) (omega arith)

-- the bits of a number that fits, taken for a number without a sign
unsigned_is : (w : Width) (z : ℤ) → FitsSigned w z → cast_unsigned w z ≡ modulo z (2 ^ bits w)
unsigned_is w (pos n) f = let small : n < 2 ^ bits w = omega (arith, f.sfits, two_halves w) in sym (mod-eq_of_lt small)
unsigned_is w (negsuc n) f =
    let small : n < 2 ^ bits w = omega (arith, f.sfits, two_halves w) in
    let same : n % 2 ^ bits w ≡ n = mod-eq_of_lt small in omega arith

-- `mag` is n at n and at -(n + 1)
mag-neg : (n : ℕ) → mag (neg_ℤ (pos n)) ≤ n
mag-neg zero = omega arith
mag-neg (suc n) = omega arith

-- a quotient lies hardly farther from 0 than what was divided
mag-div : (a b : ℤ) → mag (int_div a b) ≤ suc (mag a)
mag-div (pos a) (pos b) = omega (arith, div-le_self a b)
mag-div (pos a) (negsuc b) = omega (arith, mag-neg (a / suc b), div-le_self a (suc b))
mag-div (negsuc a) (pos b) = omega (arith, mag-neg (suc a / b), div-le_self (suc a) b)
mag-div (negsuc a) (negsuc b) = div-le_self (suc a) (suc b)

-- a quotient: only that of the least number by -1 is out of range
pub div_is : (w : Width) (a b : ℤ) → FitsSigned w a → cast_signed w (cast_unsigned w (int_div a b)) ≡ int_wrap w (int_div a b)
div_is w a b f = cast_is w (int_div a b) (omega (arith, mag-div a b, two_halves w, f.sfits))

-- a shift to the left
pub shl_is : (w : Width) (a : ℤ) (k : ℕ) → FitsSigned w a → k < bits w → int_shl w a k ≡ int_wrap w (a *ℤ pos (2 ^ k))
shl_is w a k f h =
    let small : 2 ^ k < 2 ^ bits w = pow-lt h in
    wrapping_mul-bits w (cast_unsigned w a) (2 ^ k) (of_z_fits w a f).fits small
    ∙ (λ i. int_wrap w (to_z-of_z w a f i *ℤ cast_is w (pos (2 ^ k)) small i))
    ∙ int_wrap-mul_right w a (pos (2 ^ k))

-- a shift to the right of a number without a sign
pub ushr_is : (w : Width) (a : ℤ) (k : ℕ) → FitsSigned w a
    → cast_signed w (cast_unsigned w a / 2 ^ k) ≡ int_wrap w (pos (modulo a (2 ^ bits w) / 2 ^ k))
ushr_is w a k f =
    let small : cast_unsigned w a / 2 ^ k < 2 ^ bits w = omega (arith, div-le_self (cast_unsigned w a) (2 ^ k), (of_z_fits w a f).fits) in
    cast_is w (pos (cast_unsigned w a / 2 ^ k)) small ∙ ap (λ n. int_wrap w (pos (n / 2 ^ k))) (unsigned_is w a f)

-- those, and what std says of the machine's sums, differences and products
pub ruleset leavings = (wraps, div_is, shl_is, ushr_is)
