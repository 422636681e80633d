-- A file that is read part by part.
use Rattle.std.proofs.Common.{ℕ, ◌<◌, ◌≤◌, List, length, length-append, refl, ap, arith}
use Rattle.std.specs.Prelude.{Option, None, Some, IfSome}
use Rattle.std.specs.Io.KnownBytes.{Consumes}
use Rattle.ti_port.specs.Port.{Finds}
use Rattle.ti_port.specs.declared.store.Fetched.TheVariants.{TooLong}

-- these bytes were read, at least one a turn, and they are within the limit
pub record ReadSoFar (before now : Option (List ℕ)) (bytes : List ℕ) (turn limit : ℕ) : Type 0 where
  pub read : Consumes before now bytes
  pub one_a_turn : turn ≤ length bytes
  pub within : length bytes ≤ limit

-- what was read is past the limit, so all that there was is past it too
pub too_long : (before now : Option (List ℕ)) (bytes : List ℕ) (limit : ℕ) → Consumes before now bytes → limit < length bytes → IfSome before (λ rest. Finds (Some rest) limit TooLong)
too_long None now bytes limit read long = tt
too_long (Some xs) None bytes limit read long = absurd read
too_long (Some xs) (Some ys) bytes limit read long = (xs, refl, omega (arith, ap length read, length-append {A = ℕ}))
