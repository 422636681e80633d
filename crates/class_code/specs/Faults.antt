-- Why no instruction begins at the front of some bytes (JVM specification 6.5). Of two causes it is the one at the earlier byte.
use Rattle.std.specs.Prelude.{◌≡◌, ◌≢◌, ℕ, ◌+◌, ◌*◌, ◌<◌, ◌⊎◌, ℤ, pos, negsuc, ◌+ℤ◌, ◌≤ℤ◌, ◌<ℤ◌, List, [], ◌∷◌, ◌++◌, length, Option, Some, None, FitsSigned}
use Rattle.std.specs.Int.{w32}
use Rattle.std.specs.List.{flat_map, AllByRecursion}
use Rattle.class_code.specs.declared.fault.InstrFault.{InstrFault}
use Rattle.class_code.specs.declared.fault.InstrFault.TheVariants as instr_fault
use Rattle.class_code.specs.declared.fault.Unread.{Unread}
use Rattle.class_code.specs.declared.fault.Unread.TheVariants as unread
use Rattle.class_code.specs.declared.form.Form.{Form}
use Rattle.class_code.specs.declared.form.Form.TheVariants as form
use Rattle.class_code.specs.declared.instr.Padding.{Padding}
use Rattle.class_code.specs.Spelling.{s4, padding_bytes, padding_len, pair_bytes, IsAbove, Rises}
use Rattle.class_code.specs.Ranges.{PairFits}
use Rattle.class_code.specs.Forms.{IsForm}

-- fewer bytes are left than the operands take
abbrev pub IsCut : ℕ → List ℕ → InstrFault → Type 0
IsCut n bytes why = (why ≡ instr_fault.Truncated) × (length bytes < n)

-- ---- newarray, invokeinterface and wide

-- a code of `newarray` that is not allowed: 6 and 7 are float and double, and 4 to 11 are all that there are
abbrev pub PrimitiveFault : ℕ → InstrFault → Type 0
PrimitiveFault code instr_fault.Floating = (code ≡ 6) ⊎ (code ≡ 7)
PrimitiveFault code instr_fault.BadOperand = (code < 4) ⊎ (11 < code)
PrimitiveFault code instr_fault.Unsupported = ⊥
PrimitiveFault code instr_fault.Truncated = ⊥

-- that, or no code
abbrev pub NewArrayFault : List ℕ → InstrFault → Type 0
NewArrayFault [] why = why ≡ instr_fault.Truncated
NewArrayFault (code ∷ bytes) why = PrimitiveFault code why

-- the fourth operand of `invokeinterface` is not 0, or the four are cut off
abbrev pub InterfaceFault : List ℕ → InstrFault → Type 0
InterfaceFault (a ∷ b ∷ count ∷ fourth ∷ bytes) why = (why ≡ instr_fault.BadOperand) × (fourth ≢ 0)
InterfaceFault bytes why = IsCut 4 bytes why

-- behind `wide`, what is wrong with an opcode of this form, 0xa9 being `ret`, or with the operands behind it
abbrev pub WidenedFault : ℕ → Form → List ℕ → InstrFault → Type 0
WidenedFault b (form.Load k) bytes why = IsCut 2 bytes why
WidenedFault b (form.Store k) bytes why = IsCut 2 bytes why
WidenedFault b form.Increment bytes why = IsCut 4 bytes why
WidenedFault b form.Floating bytes why = why ≡ instr_fault.Floating
WidenedFault b form.Unsupported bytes why = ((b ≡ 0xa9) × (why ≡ instr_fault.Unsupported)) ⊎ ((b ≢ 0xa9) × (why ≡ instr_fault.BadOperand))
WidenedFault b f bytes why = why ≡ instr_fault.BadOperand

-- that, or no opcode
abbrev pub WideFault : List ℕ → InstrFault → Type 0
WideFault [] why = why ≡ instr_fault.Truncated
WideFault (b ∷ bytes) why = (f : Form) × IsForm b f × WidenedFault b f bytes why

-- ---- tableswitch

-- what stands before its offsets: 12 bytes and the padding
pub record IsTableHead (at : ℕ) (bytes : List ℕ) (padding : Padding) (default low high : ℤ) (rest : List ℕ) : Type 0 where
  pub parts : bytes ≡ padding_bytes padding ++ (s4 default ++ (s4 low ++ (s4 high ++ rest)))
  pub place : length (padding_bytes padding) ≡ padding_len at
  pub fits : FitsSigned w32 default × FitsSigned w32 low × FitsSigned w32 high

-- how many numbers there are from the low bound to the high one
abbrev pub IsCount : ℤ → ℤ → ℕ → Type 0
IsCount low high n = pos n +ℤ low ≡ high +ℤ pos 1

-- behind the head: the low bound is above the high one, or else the offsets are cut off
abbrev pub TableRestFault : ℤ → ℤ → List ℕ → InstrFault → Type 0
TableRestFault low high rest why = ((high <ℤ low) × (why ≡ instr_fault.BadOperand)) ⊎ ((n : ℕ) × (low ≤ℤ high) × IsCount low high n × IsCut (4 * n) rest why)

-- its head is cut off, or else that
abbrev pub TableFault : ℕ → List ℕ → InstrFault → Type 0
TableFault at bytes why = IsCut (padding_len at + 12) bytes why
    ⊎ ((padding : Padding) × (default : ℤ) × (low : ℤ) × (high : ℤ) × (rest : List ℕ) × IsTableHead at bytes padding default low high rest × TableRestFault low high rest why)

-- ---- lookupswitch

-- what stands before its pairs: 8 bytes and the padding
pub record IsLookupHead (at : ℕ) (bytes : List ℕ) (padding : Padding) (default count : ℤ) (rest : List ℕ) : Type 0 where
  pub parts : bytes ≡ padding_bytes padding ++ (s4 default ++ (s4 count ++ rest))
  pub place : length (padding_bytes padding) ≡ padding_len at
  pub fits : FitsSigned w32 default × FitsSigned w32 count

-- a key is not above the one before
abbrev pub IsNotAbove : Option ℤ → ℤ → Type 0
IsNotAbove None key = ⊥
IsNotAbove (Some last) key = key ≤ℤ last

-- the key of the last pair, or else the one before the first
abbrev pub last_key : Option ℤ → List (ℤ × ℤ) → Option ℤ
last_key last [] = last
last_key last (p ∷ ps) = last_key (Some p.0) ps

-- a pair's key is cut off, or else is not above the one before, or else its offset is cut off
abbrev pub PairFault : Option ℤ → List ℕ → InstrFault → Type 0
PairFault last bytes why = IsCut 4 bytes why
    ⊎ ((key : ℤ) × (rest : List ℕ) × FitsSigned w32 key × (bytes ≡ s4 key ++ rest) × ((IsNotAbove last key × (why ≡ instr_fault.BadOperand)) ⊎ (IsAbove last key × IsCut 4 rest why)))

-- behind some pairs that are in order, fewer than the count, the next is at fault
pub record PairsFault (count : ℕ) (bytes : List ℕ) (why : InstrFault) : Type 0 where
  pub front : List (ℤ × ℤ)
  pub rest : List ℕ
  pub fewer : length front < count
  pub parts : bytes ≡ flat_map pair_bytes front ++ rest
  pub rising : Rises None front
  pub fits : AllByRecursion PairFits front
  pub fault : PairFault (last_key None front) rest why

-- behind the head: the count is below 0, or else a pair is at fault
abbrev pub LookupRestFault : ℤ → List ℕ → InstrFault → Type 0
LookupRestFault (negsuc n) rest why = why ≡ instr_fault.BadOperand
LookupRestFault (pos n) rest why = PairsFault n rest why

-- its head is cut off, or else that
abbrev pub LookupFault : ℕ → List ℕ → InstrFault → Type 0
LookupFault at bytes why = IsCut (padding_len at + 8) bytes why
    ⊎ ((padding : Padding) × (default : ℤ) × (count : ℤ) × (rest : List ℕ) × IsLookupHead at bytes padding default count rest × LookupRestFault count rest why)

-- ---- any instruction

-- what is wrong with the operands of a form, wherever it stands; those of a switch come below
abbrev pub OperandsFault : Form → List ℕ → InstrFault → Type 0
OperandsFault (form.Simple s) bytes why = ⊥
OperandsFault form.PushByte bytes why = IsCut 1 bytes why
OperandsFault form.PushShort bytes why = IsCut 2 bytes why
OperandsFault form.LoadConst bytes why = IsCut 1 bytes why
OperandsFault (form.Load k) bytes why = IsCut 1 bytes why
OperandsFault (form.Store k) bytes why = IsCut 1 bytes why
OperandsFault form.Increment bytes why = IsCut 2 bytes why
OperandsFault (form.Branch c) bytes why = IsCut 2 bytes why
OperandsFault form.GotoWide bytes why = IsCut 4 bytes why
OperandsFault form.TableSwitch bytes why = ⊥
OperandsFault form.LookupSwitch bytes why = ⊥
OperandsFault (form.Pool o) bytes why = IsCut 2 bytes why
OperandsFault form.InvokeInterface bytes why = InterfaceFault bytes why
OperandsFault form.NewArray bytes why = NewArrayFault bytes why
OperandsFault form.MultiNewArray bytes why = IsCut 3 bytes why
OperandsFault form.Wide bytes why = WideFault bytes why
OperandsFault form.Floating bytes why = why ≡ instr_fault.Floating
OperandsFault form.Unsupported bytes why = why ≡ instr_fault.Unsupported

-- the same of every form, whose opcode has this offset
abbrev pub FormFault : ℕ → Form → List ℕ → InstrFault → Type 0
FormFault at form.TableSwitch bytes why = TableFault at bytes why
FormFault at form.LookupSwitch bytes why = LookupFault at bytes why
FormFault at f bytes why = OperandsFault f bytes why

-- Why no instruction begins with these bytes, whose first has this offset.
abbrev pub HeadFault : ℕ → List ℕ → InstrFault → Type 0
HeadFault at [] why = ⊥
HeadFault at (b ∷ bytes) why = (f : Form) × IsForm b f × FormFault at f bytes why

-- a fact of the fault for which an instruction was not read, and nothing where memory ran out
abbrev pub IfInstrFault : Unread → (InstrFault → Type 0) → Type 0
IfInstrFault unread.Memory P = Unit {0}
IfInstrFault (unread.Fault why) P = P why
