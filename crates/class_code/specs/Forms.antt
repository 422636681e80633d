-- What each of the 256 opcodes begins (JVM specification 6.5 and 7).
use Rattle.std.specs.Prelude.{◌≡◌, ℕ, ◌+◌, Bool, nat_le, ◌&&◌, IsTrue, List, [], ◌∷◌}
use Rattle.std.specs.List.{list_any}
use Rattle.class_code.specs.declared.form.Form.{Form}
use Rattle.class_code.specs.declared.form.Form.TheVariants as form
use Rattle.class_code.specs.Codes.{kind_place, branch_code, pool_code, simple_code}

-- a range of bytes, both ends with it
abbrev pub lies_in : ℕ → ℕ × ℕ → Bool
lies_in b range = nat_le range.0 b && nat_le b range.1

-- Those of float and double. In a row: constants; loads of locals, by operand and by opcode; of elements; the same of stores;
-- add, sub, mul, div, rem, neg; conversions, twice; comparisons; returns.
abbrev pub floating : List (ℕ × ℕ)
floating = (0x0b, 0x0f) ∷ (0x17, 0x18) ∷ (0x22, 0x29) ∷ (0x30, 0x31) ∷ (0x38, 0x39) ∷ (0x43, 0x4a) ∷ (0x51, 0x52) ∷ (0x62, 0x63) ∷ (0x66, 0x67) ∷ (0x6a, 0x6b) ∷ (0x6e, 0x6f) ∷ (0x72, 0x73) ∷ (0x76, 0x77) ∷ (0x86, 0x87) ∷ (0x89, 0x90) ∷ (0x95, 0x98) ∷ (0xae, 0xaf) ∷ []

-- `jsr` and `ret`; `invokedynamic`; `jsr_w` and what no instruction has
abbrev pub unsupported : List (ℕ × ℕ)
unsupported = (0xa8, 0xa9) ∷ (0xba, 0xba) ∷ (0xc9, 0xff) ∷ []

abbrev pub is_floating : ℕ → Bool
is_floating b = list_any (lies_in b) floating

abbrev pub is_unsupported : ℕ → Bool
is_unsupported b = list_any (lies_in b) unsupported

-- the opcode of each form that has one of its own; no byte is 256
abbrev pub form_code : Form → ℕ
form_code (form.Simple s) = simple_code s
form_code form.PushByte = 0x10
form_code form.PushShort = 0x11
form_code form.LoadConst = 0x12
form_code (form.Load k) = 0x15 + kind_place k
form_code (form.Store k) = 0x36 + kind_place k
form_code form.Increment = 0x84
form_code (form.Branch c) = branch_code c
form_code form.GotoWide = 0xc8
form_code form.TableSwitch = 0xaa
form_code form.LookupSwitch = 0xab
form_code (form.Pool o) = pool_code o
form_code form.InvokeInterface = 0xb9
form_code form.NewArray = 0xbc
form_code form.MultiNewArray = 0xc5
form_code form.Wide = 0xc4
form_code form.Floating = 256
form_code form.Unsupported = 256

-- the opcode begins an instruction of this form
abbrev pub IsForm : ℕ → Form → Type 0
IsForm b form.Floating = IsTrue (is_floating b)
IsForm b form.Unsupported = IsTrue (is_unsupported b)
IsForm b f = b ≡ form_code f
