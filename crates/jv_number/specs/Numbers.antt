-- The arithmetic of int and long (JVM specification 2.11.3 and 6.5). Numbers have no bounds here: `int_wrap w z` is the
-- number that w bits hold with a sign, and that is a multiple of 2 ^ bits w away from z.
use Rattle.std.specs.Prelude.{ℕ, ◌/◌, ◌^◌, ℤ, pos, neg_ℤ, ◌+ℤ◌, ◌-ℤ◌, ◌*ℤ◌, int_div, int_rem, unsigned_abs}
use Rattle.std.specs.Int.{Width, int_wrap, int_div_euclid, int_rem_euclid, int_bit_and, int_bit_or, int_bit_xor}
use mir.Val.{bits}
use Rattle.class_code.specs.declared.instr.Arithmetic.{Arithmetic}
use Rattle.class_code.specs.declared.instr.Arithmetic.TheVariants as arithmetic

-- z modulo n: the number from 0 to n - 1 that is a multiple of n away from z
abbrev pub modulo : ℤ → ℕ → ℕ
modulo z n = unsigned_abs (int_rem_euclid z (pos n))

-- how far a shift by b goes: the low 5 bits of b at an int, the low 6 at a long
abbrev pub distance : Width → ℤ → ℕ
distance w b = modulo b (bits w)

-- the negative of a number; that of the least one is itself
abbrev pub negative : Width → ℤ → ℤ
negative w a = int_wrap w (neg_ℤ a)

-- What an operation leaves of two numbers of one width; a shift takes what it shifts by as the second, a negation has the
-- first alone. `Div` rounds toward zero, and a remainder has the sign of what was divided. `Shr` rounds down. `Ushr` takes
-- the bits for a number without a sign. `And`, `Or` and `Xor` go bit by bit, over two's complement.
abbrev pub number : Width → Arithmetic → ℤ → ℤ → ℤ
number w arithmetic.Add a b = int_wrap w (a +ℤ b)
number w arithmetic.Sub a b = int_wrap w (a -ℤ b)
number w arithmetic.Mul a b = int_wrap w (a *ℤ b)
number w arithmetic.Div a b = int_wrap w (int_div a b)
number w arithmetic.Rem a b = int_rem a b
number w arithmetic.Neg a b = negative w a
number w arithmetic.Shl a b = int_wrap w (a *ℤ pos (2 ^ distance w b))
number w arithmetic.Shr a b = int_div_euclid a (pos (2 ^ distance w b))
number w arithmetic.Ushr a b = int_wrap w (pos (modulo a (2 ^ bits w) / 2 ^ distance w b))
number w arithmetic.And a b = int_bit_and w a b
number w arithmetic.Or a b = int_bit_or w a b
number w arithmetic.Xor a b = int_bit_xor w a b
