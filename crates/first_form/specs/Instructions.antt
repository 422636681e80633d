-- Instructions: JVM specification 6.5. A code is the list of its instructions, each with its offset.
use Rattle.std.specs.Prelude.{◌≡◌, ℕ, zero, suc, ◌+◌, ◌-◌, ◌*◌, List, [], ◌∷◌, length, get_or, Option, Some, None, option_map, find, Bool, false, ◌==◌, ◌&&◌, nat_le, if◌then◌else◌, pos, ◌-ℤ◌}
use Rattle.ti_ids.specs.Maybe.{◌>>=◌}
use Rattle.first_form.specs.declared.Instr.{Instr}
use Rattle.first_form.specs.declared.Instr.TheVariants.{IntConst, IntArith, GetStatic, InvokeVirtual, Return}
use Rattle.first_form.specs.declared.Kind.{Kind}
use Rattle.first_form.specs.declared.Kind.TheVariants.{Int, Stream}
use Rattle.first_form.specs.declared.Op.TheVariants.{Add, Sub, Mul}

-- an opcode, and the two bytes behind it, of which a short instruction has no use
abbrev pub instruction : ℕ → ℕ → ℕ → Option Instr
instruction opcode high low =
    if nat_le 2 opcode && nat_le opcode 8 then Some (IntConst (pos opcode -ℤ pos 3))
    else if opcode == 0x60 then Some (IntArith Add)
    else if opcode == 0x64 then Some (IntArith Sub)
    else if opcode == 0x68 then Some (IntArith Mul)
    else if opcode == 0xb1 then Some Return
    else if opcode == 0xb2 then Some (GetStatic (high * 256 + low))
    else if opcode == 0xb6 then Some (InvokeVirtual (high * 256 + low))
    else None

-- how many bytes it takes
abbrev pub size : Instr → ℕ
size (IntConst n) = 1
size (IntArith op) = 1
size (GetStatic n) = 3
size (InvokeVirtual n) = 3
size Return = 1

-- the instruction that the bytes begin with
abbrev pub first : List ℕ → Option Instr
first [] = None
first (opcode ∷ operands) = instruction opcode (get_or operands 0 0) (get_or operands 1 0)

-- the instructions from an offset on, one after the other, behind so many bytes of the one before
abbrev pub listing_from : ℕ → ℕ → List ℕ → Option (List (ℕ × Instr))
listing_from zero at [] = Some []
listing_from (suc more) at [] = None
listing_from (suc more) at (byte ∷ bytes) = listing_from more (at + 1) bytes
listing_from zero at (byte ∷ bytes) = do
  i ← first (byte ∷ bytes)
  rest ← listing_from (size i - 1) (at + 1) bytes
  Some ((at, i) ∷ rest)

-- the instructions of a code, or none where it is no sequence of whole ones
abbrev pub listing : List ℕ → Option (List (ℕ × Instr))
listing code = listing_from 0 0 code

-- the instruction that stands at an offset
abbrev pub at_pc : ℕ → List (ℕ × Instr) → Option Instr
at_pc pc instrs = option_map (λ e. e.1) (find (λ e. e.0 == pc) instrs)

-- the instruction of a code that stands at an offset
abbrev pub instr_at : List ℕ → ℕ → Option Instr
instr_at code pc = listing code >>= at_pc pc

-- ---- the type check of this form: section 4.10.1, for a main that prints ints

-- the entries of the pool that an instruction may name
abbrev pub out_entry : ℕ
out_entry = 13

abbrev pub println_entry : ℕ
println_entry = 19

-- an instruction names an entry that it may
abbrev pub NamesKnown : Instr → Type 0
NamesKnown (IntConst n) = Unit {0}
NamesKnown (IntArith op) = Unit {0}
NamesKnown (GetStatic n) = n ≡ out_entry
NamesKnown (InvokeVirtual n) = n ≡ println_entry
NamesKnown Return = Unit {0}

-- the stack after an instruction that finds its operands and names what it may
abbrev pub kinds_after : Instr → List Kind → Option (List Kind)
kinds_after (IntConst n) stack = Some (Int ∷ stack)
kinds_after (IntArith op) (Int ∷ Int ∷ stack) = Some (Int ∷ stack)
kinds_after (IntArith op) _ = None
kinds_after (GetStatic n) stack = if n == out_entry then Some (Stream ∷ stack) else None
kinds_after (InvokeVirtual n) (Int ∷ Stream ∷ stack) = if n == println_entry then Some stack else None
kinds_after (InvokeVirtual n) _ = None
kinds_after Return stack = None

-- each instruction fits, the stack has at most so many entries, and a return stands last and nowhere else
abbrev pub fits : ℕ → List Kind → List (ℕ × Instr) → Bool
fits most stack [] = false
fits most stack ((at, Return) ∷ rest) = length rest == 0
fits most stack ((at, i) ∷ rest) =
    elim (kinds_after i stack) [ None ↦ false | Some after ↦ nat_le (length after) most && fits most after rest ]

abbrev pub runs_on : ℕ → List ℕ → Bool
runs_on most code = elim (listing code) [ None ↦ false | Some l ↦ fits most [] l ]
