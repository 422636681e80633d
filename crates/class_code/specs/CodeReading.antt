-- How code is read from left to right, as functions (JVM specification 4.7.3, 4.9.1 and 6.5). That they are the relations of
-- `Listing`, `Faults` and `FirstFaults` is proved.
use Rattle.std.specs.Prelude.{ℕ, zero, suc, ◌+◌, ◌-◌, ◌*◌, ◌==◌, nat_lt, cond, ℤ, pos, negsuc, ◌+ℤ◌, ◌-ℤ◌, int_lt, List, [], ◌∷◌, length, Option, Some, None, Result, Ok, Err, is_none, nat_abs}
use Rattle.class_code.specs.declared.fault.InstrFault.{InstrFault}
use Rattle.class_code.specs.declared.fault.InstrFault.TheVariants as instr_fault
use Rattle.class_code.specs.declared.form.Form.{Form}
use Rattle.class_code.specs.declared.form.Form.TheVariants as form
use Rattle.class_code.specs.declared.instr.Padding.{Padding}
use Rattle.class_code.specs.declared.instr.Instr.{Instr}
use Rattle.class_code.specs.declared.instr.Instr.TheVariants as instr
use Rattle.class_code.specs.Spelling.{padding_len}
use Rattle.class_code.specs.Listing.{astray}
use Rattle.class_code.specs.FormSearch.{form_at}
use Rattle.class_code.specs.OperandReading.{Read, ◌>>=◌, take_u1, take_s1, take_u2, take_s2, take_s4, primitive_at, take_padding, take_words, take_pairs}

-- ---- wide

-- what `wide` makes of an opcode of this form, 0xa9 being `ret`
abbrev pub read_widened : ℕ → Form → List ℕ → Read Instr
read_widened b (form.Load k) bytes = take_u2 bytes >>= λ n. Ok (instr.LoadWide k n.0, n.1)
read_widened b (form.Store k) bytes = take_u2 bytes >>= λ n. Ok (instr.StoreWide k n.0, n.1)
read_widened b form.Increment bytes = take_u2 bytes >>= λ n. take_s2 n.1 >>= λ by. Ok (instr.IncrementWide n.0 by.0, by.1)
read_widened b form.Floating bytes = Err instr_fault.Floating
read_widened b form.Unsupported bytes = cond (b == 0xa9) (Err instr_fault.Unsupported) (Err instr_fault.BadOperand)
read_widened b f bytes = Err instr_fault.BadOperand

abbrev pub read_wide : List ℕ → Read Instr
read_wide [] = Err instr_fault.Truncated
read_wide (b ∷ bytes) = read_widened b (form_at b) bytes

-- ---- switches

-- how many numbers there are from the low bound to the high one
abbrev pub count_of : ℤ → ℤ → ℕ
count_of low high = nat_abs ((high +ℤ pos 1) -ℤ low)

-- a `tableswitch` of this head: its bounds are looked at before its offsets, and whether these are whole before they are read
abbrev pub table_rest : Padding → ℤ → ℤ → ℤ → List ℕ → Read Instr
table_rest p d l h bytes =
    cond (int_lt h l) (Err instr_fault.BadOperand) (cond (nat_lt (length bytes) (4 * count_of l h)) (Err instr_fault.Truncated)
    (take_words (count_of l h) bytes >>= λ os. Ok (instr.TableSwitch (record { padding = p; default = d; low = l; high = h; offsets = os.0 }), os.1)))

abbrev pub read_table : ℕ → List ℕ → Read Instr
read_table at bytes = cond (nat_lt (length bytes) (padding_len at + 12)) (Err instr_fault.Truncated)
    (take_padding (padding_len at) bytes >>= λ p. take_s4 p.1 >>= λ d. take_s4 d.1 >>= λ l. take_s4 l.1 >>= λ h. table_rest p.0 d.0 l.0 h.0 h.1)

-- a `lookupswitch` of this head, the last number of which is its count of pairs
abbrev pub lookup_rest : Padding → ℤ → ℤ → List ℕ → Read Instr
lookup_rest p d (negsuc n) bytes = Err instr_fault.BadOperand
lookup_rest p d (pos n) bytes = take_pairs n None bytes >>= λ ps. Ok (instr.LookupSwitch (record { padding = p; default = d; pairs = ps.0 }), ps.1)

abbrev pub read_lookup : ℕ → List ℕ → Read Instr
read_lookup at bytes = cond (nat_lt (length bytes) (padding_len at + 8)) (Err instr_fault.Truncated)
    (take_padding (padding_len at) bytes >>= λ p. take_s4 p.1 >>= λ d. take_s4 d.1 >>= λ c. lookup_rest p.0 d.0 c.0 c.1)

-- ---- an instruction

-- what an opcode of this form begins, which has this offset and before these bytes
abbrev pub read_form : ℕ → Form → List ℕ → Read Instr
read_form at (form.Simple s) bytes = Ok (instr.Simple s, bytes)
read_form at form.PushByte bytes = take_s1 bytes >>= λ n. Ok (instr.PushByte n.0, n.1)
read_form at form.PushShort bytes = take_s2 bytes >>= λ n. Ok (instr.PushShort n.0, n.1)
read_form at form.LoadConst bytes = take_u1 bytes >>= λ n. Ok (instr.LoadConst n.0, n.1)
read_form at (form.Load k) bytes = take_u1 bytes >>= λ n. Ok (instr.Load k n.0, n.1)
read_form at (form.Store k) bytes = take_u1 bytes >>= λ n. Ok (instr.Store k n.0, n.1)
read_form at form.Increment bytes = take_u1 bytes >>= λ n. take_s1 n.1 >>= λ by. Ok (instr.Increment n.0 by.0, by.1)
read_form at (form.Branch c) bytes = take_s2 bytes >>= λ n. Ok (instr.Branch c n.0, n.1)
read_form at form.GotoWide bytes = take_s4 bytes >>= λ n. Ok (instr.GotoWide n.0, n.1)
read_form at form.TableSwitch bytes = read_table at bytes
read_form at form.LookupSwitch bytes = read_lookup at bytes
read_form at (form.Pool o) bytes = take_u2 bytes >>= λ n. Ok (instr.Pool o n.0, n.1)
read_form at form.InvokeInterface bytes = take_u2 bytes >>= λ i. take_u1 i.1 >>= λ c. take_u1 c.1 >>= λ z. cond (z.0 == 0) (Ok (instr.InvokeInterface i.0 c.0, z.1)) (Err instr_fault.BadOperand)
read_form at form.NewArray bytes = take_u1 bytes >>= λ c. primitive_at c.0 >>= λ p. Ok (instr.NewArray p, c.1)
read_form at form.MultiNewArray bytes = take_u2 bytes >>= λ i. take_u1 i.1 >>= λ d. Ok (instr.MultiNewArray i.0 d.0, d.1)
read_form at form.Wide bytes = read_wide bytes
read_form at form.Floating bytes = Err instr_fault.Floating
read_form at form.Unsupported bytes = Err instr_fault.Unsupported

-- The instruction at the front of the bytes, the first of which has this offset, and the bytes behind it; or why there is none.
abbrev pub instr_at : ℕ → List ℕ → Read Instr
instr_at at [] = Err instr_fault.Truncated
instr_at at (b ∷ bytes) = read_form at (form_at b) bytes

-- ---- all instructions of a code

-- a fault with its offset
abbrev pub or_stop : {A : Type 0} → ℕ → Result A InstrFault → Result A (InstrFault × ℕ)
or_stop at (Ok x) = Ok x
or_stop at (Err why) = Err (why, at)

-- those from this offset on, each where the one before ends, if there are no more than this; each takes a byte or more
abbrev pub instrs_from : ℕ → ℕ → List ℕ → Result (List (ℕ × Instr)) (InstrFault × ℕ)
instrs_from most at [] = Ok []
instrs_from zero at bytes = Err (instr_fault.Truncated, at)
instrs_from (suc n) at bytes = or_stop at (instr_at at bytes) >>= λ x. instrs_from n (at + (length bytes - length x.1)) x.1 >>= λ ps. Ok ((at, x.0) ∷ ps)

-- All instructions of a code, each with its offset; or why there is none at an offset where those before it end.
abbrev pub instrs_of : List ℕ → Result (List (ℕ × Instr)) (InstrFault × ℕ)
instrs_of code = instrs_from (length code) 0 code

-- instructions none of which leads astray
abbrev pub if_none_astray : Result (List (ℕ × Instr)) (InstrFault × ℕ) → Option (List (ℕ × Instr))
if_none_astray (Ok ps) = cond (is_none (astray ps)) (Some ps) None
if_none_astray (Err stop) = None

-- The code's list, if it has one.
abbrev pub list_of : List ℕ → Option (List (ℕ × Instr))
list_of code = if_none_astray (instrs_of code)
