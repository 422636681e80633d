-- The definitions, computed.
use Rattle.std.proofs.Common.{◌≡◌, ◌+◌, ◌^◌, ℤ, pos, neg_ℤ, Err, refl, true, w32, w64}
use Rattle.std.specs.Int.{int_wrap}
use Rattle.ti_ids.specs.declared.value.Value.TheVariants as value
use Rattle.class_code.specs.declared.instr.Arithmetic.TheVariants as arithmetic
use Rattle.class_code.specs.declared.instr.Conversion.TheVariants as conversion
use Rattle.class_code.specs.declared.instr.Condition.TheVariants as condition
use Rattle.jv_number.specs.Numbers.{negative, number}
use Rattle.jv_number.specs.Values.{answer, converted}
use Rattle.jv_number.specs.Comparisons.{compare, holds}

-- the least int and the least long
abbrev least_int : ℤ
least_int = neg_ℤ (pos (2 ^ 31))

abbrev least_long : ℤ
least_long = neg_ℤ (pos (2 ^ 63))

-- ---- wrapping

sum_past_the_end : number w32 arithmetic.Add (pos 2147483647) (pos 1) ≡ least_int
unfolding int_wrap
sum_past_the_end = refl

product_past_the_end : number w32 arithmetic.Mul (pos 46341) (pos 46341) ≡ neg_ℤ (pos 2147479015)
unfolding int_wrap
product_past_the_end = refl

negative_of_the_least : negative w32 least_int ≡ least_int
unfolding int_wrap
negative_of_the_least = refl

-- ---- quotients and remainders

quotient_toward_zero : number w32 arithmetic.Div (neg_ℤ (pos 7)) (pos 2) ≡ neg_ℤ (pos 3)
unfolding int_wrap
quotient_toward_zero = refl

remainder_of_a_negative : number w32 arithmetic.Rem (neg_ℤ (pos 7)) (pos 2) ≡ neg_ℤ (pos 1)
remainder_of_a_negative = refl

quotient_of_the_least : number w32 arithmetic.Div least_int (neg_ℤ (pos 1)) ≡ least_int
unfolding int_wrap
quotient_of_the_least = refl

quotient_of_the_least_long : number w64 arithmetic.Div least_long (neg_ℤ (pos 1)) ≡ least_long
unfolding int_wrap
quotient_of_the_least_long = refl

remainder_of_the_least : number w32 arithmetic.Rem least_int (neg_ℤ (pos 1)) ≡ pos 0
remainder_of_the_least = refl

remainder_by_zero : answer arithmetic.Rem (value.Long (pos 7)) (value.Long (pos 0)) ≡ Err (record {})
remainder_by_zero = refl

-- ---- shifts

shift_by_33 : number w32 arithmetic.Shl (pos 1) (pos 33) ≡ pos 2
unfolding int_wrap
shift_by_33 = refl

long_shift_by_33 : number w64 arithmetic.Shl (pos 1) (pos 33) ≡ pos (2 ^ 33)
unfolding int_wrap
long_shift_by_33 = refl

shift_by_minus_one : number w32 arithmetic.Shl (pos 1) (neg_ℤ (pos 1)) ≡ least_int
unfolding int_wrap
shift_by_minus_one = refl

shift_rounds_down : number w32 arithmetic.Shr (neg_ℤ (pos 7)) (pos 1) ≡ neg_ℤ (pos 4)
shift_rounds_down = refl

shift_without_sign : number w32 arithmetic.Ushr (neg_ℤ (pos 1)) (pos 28) ≡ pos 15
unfolding int_wrap
shift_without_sign = refl

shift_by_nothing : number w32 arithmetic.Ushr (neg_ℤ (pos 1)) (pos 32) ≡ neg_ℤ (pos 1)
unfolding int_wrap
shift_by_nothing = refl

-- ---- bits

low_bits_of_a_negative : number w32 arithmetic.And (neg_ℤ (pos 7)) (pos 15) ≡ pos 9
low_bits_of_a_negative = refl

all_bits_turned : number w64 arithmetic.Xor (pos 12) (neg_ℤ (pos 1)) ≡ neg_ℤ (pos 13)
all_bits_turned = refl

-- ---- conversions

int_to_byte : converted conversion.IntToByte (value.Int (pos 200)) ≡ value.Int (neg_ℤ (pos 56))
unfolding int_wrap
int_to_byte = refl

int_to_char : converted conversion.IntToChar (value.Int (neg_ℤ (pos 1))) ≡ value.Int (pos 65535)
int_to_char = refl

int_to_short : converted conversion.IntToShort (value.Int (pos 40000)) ≡ value.Int (neg_ℤ (pos 25536))
unfolding int_wrap
int_to_short = refl

long_to_int : converted conversion.LongToInt (value.Long (pos (2 ^ 32 + 1))) ≡ value.Int (pos 1)
unfolding int_wrap
long_to_int = refl

-- ---- comparisons

least_before_zero : compare least_long (pos 0) ≡ neg_ℤ (pos 1)
least_before_zero = refl

equal_is_at_least : holds condition.Ge (pos 5) (pos 5) ≡ true
equal_is_at_least = refl
