-- The same of values, which are of a kind: int, long or reference (JVM specification 2.11.3, 2.11.4 and 6.5).
use Rattle.std.specs.Prelude.{◌^◌, Bool, true, false, not, ◌&&◌, IsTrue, pos, Result, Ok, Err, if◌then◌else◌}
use Rattle.std.specs.Int.{w8, w16, w32, w64, int_wrap}
use Rattle.std.specs.Ordering.{int_eq}
use Rattle.ti_ids.specs.declared.value.Value.{Value}
use Rattle.ti_ids.specs.declared.value.Value.TheVariants as value
use Rattle.class_code.specs.declared.instr.Arithmetic.{Arithmetic}
use Rattle.class_code.specs.declared.instr.Arithmetic.TheVariants as arithmetic
use Rattle.class_code.specs.declared.instr.Conversion.{Conversion}
use Rattle.class_code.specs.declared.instr.Conversion.TheVariants as conversion
use Rattle.jv_number.specs.declared.binary.Zero.{Zero}
use Rattle.jv_number.specs.Numbers.{modulo, negative, number}

-- ---- of two operands

-- an operation has two operands, unless it is a negation
abbrev pub has_two : Arithmetic → Bool
has_two arithmetic.Neg = false
has_two op = true

abbrev pub is_shift : Arithmetic → Bool
is_shift arithmetic.Shl = true
is_shift arithmetic.Shr = true
is_shift arithmetic.Ushr = true
is_shift op = false

abbrev pub is_division : Arithmetic → Bool
is_division arithmetic.Div = true
is_division arithmetic.Rem = true
is_division op = false

-- The operands are of the kinds that the operation takes: two ints or two longs, but a shift goes by an int, whatever it
-- shifts.
abbrev pub Fits : Arithmetic → Value → Value → Type 0
Fits op (value.Int a) (value.Int b) = IsTrue (has_two op)
Fits op (value.Long a) (value.Long b) = IsTrue (has_two op && not (is_shift op))
Fits op (value.Long a) (value.Int b) = IsTrue (is_shift op)
Fits op a b = ⊥

-- the number 0, of either width
abbrev pub is_zero : Value → Bool
is_zero (value.Int z) = int_eq z (pos 0)
is_zero (value.Long z) = int_eq z (pos 0)
is_zero (value.Ref r) = false

-- a quotient or a remainder by 0
abbrev pub divides_by_zero : Arithmetic → Value → Bool
divides_by_zero op b = is_division op && is_zero b

-- what an operation leaves of operands that fit
abbrev pub combined : Arithmetic → Value → Value → Value
combined op (value.Int a) (value.Int b) = value.Int (number w32 op a b)
combined op (value.Long a) (value.Long b) = value.Long (number w64 op a b)
combined op (value.Long a) (value.Int b) = value.Long (number w64 op a b)
-- of others nothing is said
combined op a b = a

-- the same, or that a divisor is 0
abbrev pub answer : Arithmetic → Value → Value → Result Value Zero
answer op a b = if divides_by_zero op b then Err (record {}) else Ok (combined op a b)

-- ---- of one operand

abbrev pub IsNumber : Value → Type 0
IsNumber (value.Int z) = Unit {0}
IsNumber (value.Long z) = Unit {0}
IsNumber (value.Ref r) = ⊥

-- the negative of a number
abbrev pub negated : Value → Value
negated (value.Int z) = value.Int (negative w32 z)
negated (value.Long z) = value.Long (negative w64 z)
-- of a reference nothing is said
negated (value.Ref r) = value.Ref r

-- the value is of the kind that the conversion takes
abbrev pub Converts : Conversion → Value → Type 0
Converts conversion.IntToLong (value.Int z) = Unit {0}
Converts conversion.LongToInt (value.Long z) = Unit {0}
Converts conversion.IntToByte (value.Int z) = Unit {0}
Converts conversion.IntToChar (value.Int z) = Unit {0}
Converts conversion.IntToShort (value.Int z) = Unit {0}
Converts c v = ⊥

-- A number of another type: a long has every int's number; the others keep the low 32, 8 or 16 bits, with a sign, and a
-- char the low 16 without one.
abbrev pub converted : Conversion → Value → Value
converted conversion.IntToLong (value.Int z) = value.Long z
converted conversion.LongToInt (value.Long z) = value.Int (int_wrap w32 z)
converted conversion.IntToByte (value.Int z) = value.Int (int_wrap w8 z)
converted conversion.IntToChar (value.Int z) = value.Int (pos (modulo z (2 ^ 16)))
converted conversion.IntToShort (value.Int z) = value.Int (int_wrap w16 z)
-- of a value of another kind nothing is said
converted c v = v
