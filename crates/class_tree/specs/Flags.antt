-- Access flags: JVM specification 4.1, 4.5 and 4.6.
use Rattle.std.specs.Prelude.{◌≡◌, ℕ, ◌/◌, ◌%◌, Bool, ◌==◌}
use Rattle.class_tree.specs.declared.access.Flag.{Flag}
use Rattle.class_tree.specs.declared.access.Flag.TheVariants.{Public, Private, Protected, Static, Final, Super, Synchronized, Volatile, Bridge, Transient, Varargs, Native, Interface, Abstract, Strict, Synthetic, Annotation, Enum}

-- the bit of each flag, as tables 4.1-A, 4.5-A and 4.6-A give it
abbrev pub bit_of : Flag → ℕ
bit_of Public = 0x0001
bit_of Private = 0x0002
bit_of Protected = 0x0004
bit_of Static = 0x0008
bit_of Final = 0x0010
bit_of Super = 0x0020
bit_of Synchronized = 0x0020
bit_of Volatile = 0x0040
bit_of Bridge = 0x0040
bit_of Transient = 0x0080
bit_of Varargs = 0x0080
bit_of Native = 0x0100
bit_of Interface = 0x0200
bit_of Abstract = 0x0400
bit_of Strict = 0x0800
bit_of Synthetic = 0x1000
bit_of Annotation = 0x2000
bit_of Enum = 0x4000

-- the bit of a flag is set
abbrev pub HasFlag : ℕ → Flag → Type 0
HasFlag bits flag = bits / bit_of flag % 2 ≡ 1

abbrev pub has_flag : ℕ → Flag → Bool
has_flag bits flag = bits / bit_of flag % 2 == 1
