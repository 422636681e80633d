-- The bit of a flag, and the test of it by a mask.
use Rattle.std.proofs.Common.{◌≡◌, ℕ, zero, suc, ◌*◌, ◌/◌, ◌%◌, ◌^◌, ◌<◌, not, nat_eq, bit_and, refl, arith}
use Rattle.std.specs.Bool.{Decides}
use Rattle.std.proofs.lemmas.Bool.Decides.{nat_tests}
use Rattle.std.proofs.lemmas.Nat.Bits.{and_pow}
use Rattle.class_tree.specs.declared.access.Flag.{Flag}
use Rattle.class_tree.specs.declared.access.Flag.TheVariants.{Public, Private, Protected, Static, Final, Super, Synchronized, Volatile, Bridge, Transient, Varargs, Native, Interface, Abstract, Strict, Synthetic, Annotation, Enum}
use Rattle.class_tree.specs.Flags.{bit_of, HasFlag}

-- it is a power of two
place_of : (flag : Flag) → (k : ℕ) × (bit_of flag ≡ 2 ^ k) × (0 < bit_of flag)
place_of Public = (0, refl, omega arith)
place_of Private = (1, refl, omega arith)
place_of Protected = (2, refl, omega arith)
place_of Static = (3, refl, omega arith)
place_of Final = (4, refl, omega arith)
place_of Super = (5, refl, omega arith)
place_of Synchronized = (5, refl, omega arith)
place_of Volatile = (6, refl, omega arith)
place_of Bridge = (6, refl, omega arith)
place_of Transient = (7, refl, omega arith)
place_of Varargs = (7, refl, omega arith)
place_of Native = (8, refl, omega arith)
place_of Interface = (9, refl, omega arith)
place_of Abstract = (10, refl, omega arith)
place_of Strict = (11, refl, omega arith)
place_of Synthetic = (12, refl, omega arith)
place_of Annotation = (13, refl, omega arith)
place_of Enum = (14, refl, omega arith)

product_is : (b p : ℕ) → b < 2 → 0 < p → Decides (not (nat_eq (b * p) 0)) (b ≡ 1)
product_is zero p low some = grind (arith, nat_tests)
product_is (suc zero) p low some = grind (arith, nat_tests)
product_is (suc (suc b)) p low some = absurd (omega arith)

masked : (bits mask k : ℕ) → mask ≡ 2 ^ k → 0 < mask → Decides (not (nat_eq (bit_and bits mask) 0)) (bits / mask % 2 ≡ 1)
masked bits mask k e some = rw (e, and_pow bits k) (product_is (bits / 2 ^ k % 2) (2 ^ k) (omega arith) (omega arith))

pub has_flag : (bits : ℕ) (flag : Flag) → Decides (not (nat_eq (bit_and bits (bit_of flag)) 0)) (HasFlag bits flag)
has_flag bits flag = let at = place_of flag in masked bits (bit_of flag) at.0 at.1 at.2
