-- How numbers stand to one another (JVM specification 6.5: lcmp, if<cond> and if_icmp<cond>).
use Rattle.std.specs.Prelude.{Bool, not, ℤ, ◌-ℤ◌, int_lt, int_le}
use Rattle.std.specs.Int.{int_signum}
use Rattle.std.specs.Ordering.{int_eq}
use Rattle.class_code.specs.declared.instr.Condition.{Condition}
use Rattle.class_code.specs.declared.instr.Condition.TheVariants as condition

-- the sign of the difference: -1 where a is less than b, 0 where they are equal, 1 where a is greater
abbrev pub compare : ℤ → ℤ → ℤ
compare a b = int_signum (a -ℤ b)

-- whether a stands so to b
abbrev pub holds : Condition → ℤ → ℤ → Bool
holds condition.Eq a b = int_eq a b
holds condition.Ne a b = not (int_eq a b)
holds condition.Lt a b = int_lt a b
holds condition.Ge a b = int_le b a
holds condition.Gt a b = int_lt b a
holds condition.Le a b = int_le a b
