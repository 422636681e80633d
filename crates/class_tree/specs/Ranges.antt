-- Ranges of the numbers in a class file: JVM specification, chapter 4.
use Rattle.std.specs.Prelude.{ℕ, ◌-◌, ◌^◌, ℤ, pos, negsuc, int_lt, Bool, ◌&&◌, not, nat_lt, List, length}
use Rattle.std.specs.List.{list_all}

abbrev pub is_byte : ℕ → Bool
is_byte n = nat_lt n 256

abbrev pub is_u2 : ℕ → Bool
is_u2 n = nat_lt n 65536

abbrev pub is_u4 : ℕ → Bool
is_u4 n = nat_lt n (2 ^ 32)

abbrev pub is_u8 : ℕ → Bool
is_u8 n = nat_lt n (2 ^ 64)

-- so many can be counted in two bytes
abbrev pub is_short : {A : Type 0} → List A → Bool
is_short xs = is_u2 (length xs)

-- so many, each of which passes the test
abbrev pub are_counted : {A : Type 0} → (A → Bool) → List A → Bool
are_counted test xs = is_short xs && list_all test xs

abbrev pub are_bytes : List ℕ → Bool
are_bytes bytes = list_all is_byte bytes

-- below the bound and not below its negative
abbrev pub is_signed : ℕ → ℤ → Bool
is_signed bound n = int_lt n (pos bound) && not (int_lt n (negsuc (bound - 1)))

abbrev pub is_s4 : ℤ → Bool
is_s4 n = is_signed (2 ^ 31) n

abbrev pub is_s8 : ℤ → Bool
is_s8 n = is_signed (2 ^ 63) n
