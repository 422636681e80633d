-- The bytes of each instruction: its opcode and its operands, the highest byte of each first (JVM specification 6.5).
use Rattle.std.specs.Prelude.{ℕ, ◌+◌, ◌-◌, ◌%◌, ◌^◌, ◌≡◌, ◌<◌, ℤ, pos, ◌+ℤ◌, ◌≤ℤ◌, ◌<ℤ◌, List, [], ◌∷◌, ◌++◌, length, Option, Some, None}
use Rattle.std.specs.Int.{w8, w16, w32, to_be_bytes, cast_unsigned}
use Rattle.std.specs.List.{flat_map}
use Rattle.class_code.specs.declared.instr.Padding.{Padding}
use Rattle.class_code.specs.declared.instr.Padding.TheVariants as padding
use Rattle.class_code.specs.declared.instr.TableSwitch.{TableSwitch}
use Rattle.class_code.specs.declared.instr.LookupSwitch.{LookupSwitch}
use Rattle.class_code.specs.declared.instr.Instr.{Instr}
use Rattle.class_code.specs.declared.instr.Instr.TheVariants as instr
use Rattle.class_code.specs.Codes.{kind_place, primitive_code, branch_code, pool_code, simple_code}

-- signed and unsigned numbers of one, two and four bytes; an unsigned one of one byte is that byte
abbrev pub s1 : ℤ → List ℕ
s1 n = cast_unsigned w8 n ∷ []

abbrev pub u2 : ℕ → List ℕ
u2 n = to_be_bytes w16 n

abbrev pub s2 : ℤ → List ℕ
s2 n = u2 (cast_unsigned w16 n)

unfoldable pub s4 : ℤ → List ℕ
s4 n = to_be_bytes w32 (cast_unsigned w32 n)

abbrev pub padding_bytes : Padding → List ℕ
padding_bytes padding.None = []
padding_bytes (padding.One a) = a ∷ []
padding_bytes (padding.Two a b) = a ∷ b ∷ []
padding_bytes (padding.Three a b c) = a ∷ b ∷ c ∷ []

-- a key and its offset
abbrev pub pair_bytes : ℤ × ℤ → List ℕ
pair_bytes p = s4 p.0 ++ s4 p.1

-- what stands behind the opcode of `tableswitch`
abbrev pub table_bytes : TableSwitch → List ℕ
table_bytes t = padding_bytes t.padding ++ (s4 t.default ++ (s4 t.low ++ (s4 t.high ++ flat_map s4 t.offsets)))

-- what stands behind the opcode of `lookupswitch`
abbrev pub lookup_bytes : LookupSwitch → List ℕ
lookup_bytes l = padding_bytes l.padding ++ (s4 l.default ++ (s4 (pos (length l.pairs)) ++ flat_map pair_bytes l.pairs))

-- An instruction's bytes. Behind the opcode of `wide`, 0xc4, stands that of the instruction that it widens. What only a
-- list made ready for running holds has none.
abbrev pub spelling : Instr → List ℕ
spelling (instr.Simple s) = simple_code s ∷ []
spelling (instr.PushByte n) = 0x10 ∷ s1 n
spelling (instr.PushShort n) = 0x11 ∷ s2 n
spelling (instr.LoadConst index) = 0x12 ∷ index ∷ []
spelling (instr.Load k local) = (0x15 + kind_place k) ∷ local ∷ []
spelling (instr.LoadWide k local) = 0xc4 ∷ (0x15 + kind_place k) ∷ u2 local
spelling (instr.Store k local) = (0x36 + kind_place k) ∷ local ∷ []
spelling (instr.StoreWide k local) = 0xc4 ∷ (0x36 + kind_place k) ∷ u2 local
spelling (instr.Increment local by) = 0x84 ∷ local ∷ s1 by
spelling (instr.IncrementWide local by) = 0xc4 ∷ 0x84 ∷ u2 local ++ s2 by
spelling (instr.Branch when by) = branch_code when ∷ s2 by
spelling (instr.GotoWide by) = 0xc8 ∷ s4 by
spelling (instr.TableSwitch t) = 0xaa ∷ table_bytes t
spelling (instr.LookupSwitch l) = 0xab ∷ lookup_bytes l
spelling (instr.Pool o index) = pool_code o ∷ u2 index
spelling (instr.InvokeInterface index count) = 0xb9 ∷ u2 index ++ count ∷ 0 ∷ []
spelling (instr.NewArray of) = 0xbc ∷ primitive_code of ∷ []
spelling (instr.MultiNewArray index dimensions) = 0xc5 ∷ u2 index ++ dimensions ∷ []
spelling (instr.PushInt n) = []
spelling (instr.PushLong n) = []

-- ---- where a switch may stand

-- how many bytes stand between a switch's opcode at this offset and the next multiple of four
abbrev pub padding_len : ℕ → ℕ
padding_len at = 3 - at % 4

-- a key is above the one before, if there is one
abbrev pub IsAbove : Option ℤ → ℤ → Type 0
IsAbove None key = Unit {0}
IsAbove (Some last) key = last <ℤ key

-- the keys rise, from above the one before the first
abbrev pub Rises : Option ℤ → List (ℤ × ℤ) → Type 0
Rises last [] = Unit {0}
Rises last (p ∷ ps) = IsAbove last p.0 × Rises (Some p.0) ps

-- its low bound is at most its high one, and it has an offset for each number from the one to the other
pub record IsTable (at : ℕ) (t : TableSwitch) : Type 0 where
  pub padding : length (padding_bytes t.padding) ≡ padding_len at
  pub order : t.low ≤ℤ t.high
  pub count : pos (length t.offsets) +ℤ t.low ≡ t.high +ℤ pos 1

-- the number of its pairs is one of four bytes with a sign, and their keys rise
pub record IsLookup (at : ℕ) (l : LookupSwitch) : Type 0 where
  pub padding : length (padding_bytes l.padding) ≡ padding_len at
  pub count : length l.pairs < 2 ^ 31
  pub rising : Rises None l.pairs

-- the instruction may stand at this offset
abbrev pub Stands : ℕ → Instr → Type 0
Stands at (instr.TableSwitch t) = IsTable at t
Stands at (instr.LookupSwitch l) = IsLookup at l
Stands at i = Unit {0}
