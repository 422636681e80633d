-- The first fault of a code that has no list of instructions (JVM specification 4.9.1), and what decoding answers.
use Rattle.std.specs.Prelude.{◌≡◌, ℕ, ◌⊎◌, List, ◌++◌, length, Some, Result, Ok, Err}
use Rattle.class_code.specs.declared.instr.Instr.{Instr}
use Rattle.class_code.specs.declared.fault.InstrFault.{InstrFault}
use Rattle.class_code.specs.declared.fault.InstrFault.TheVariants as instr_fault
use Rattle.class_code.specs.declared.fault.CodeFault.{CodeFault}
use Rattle.class_code.specs.declared.fault.CodeFault.TheVariants as fault
use Rattle.class_code.specs.Listing.{spelled, InPlace, IsSpelled, astray}
use Rattle.class_code.specs.Faults.{HeadFault}

-- Instructions stand at the code's front, and behind them, at this offset, no further one begins, for this cause.
pub record StopsAt (code : List ℕ) (why : InstrFault) (at : ℕ) : Type 0 where
  pub front : List (ℕ × Instr)
  pub rest : List ℕ
  pub parts : code ≡ spelled front ++ rest
  pub in_place : InPlace 0 front
  pub place : at ≡ length (spelled front)
  pub fault : HeadFault at rest why

-- the fault of an instruction at this offset in a code of this length: one that is cut off is so at the code's end
abbrev pub placed : InstrFault → ℕ → ℕ → CodeFault
placed instr_fault.Floating at end = fault.Floating at
placed instr_fault.Unsupported at end = fault.Unsupported at
placed instr_fault.Truncated at end = fault.Truncated end
placed instr_fault.BadOperand at end = fault.BadOperand at

-- The first fault: where the instructions stop, or else, if they are whole, the first of them that leads astray.
abbrev pub FirstFault : List ℕ → CodeFault → Type 0
FirstFault code f = ((why : InstrFault) × (at : ℕ) × StopsAt code why at × (f ≡ placed why at (length code)))
    ⊎ ((ps : List (ℕ × Instr)) × (p : ℕ × Instr) × IsSpelled code ps × (astray ps ≡ Some p) × (f ≡ fault.BadTarget p.0))

-- ---- what decoding answers, which is free where memory runs out

-- this list
abbrev pub Gives : {V : Type 0} → (V → List (ℕ × Instr)) → Result V CodeFault → List (ℕ × Instr) → Type 0
Gives view (Ok v) ps = view v ≡ ps
Gives view (Err fault.Memory) ps = Unit {0}
Gives view (Err e) ps = ⊥

-- this fault
abbrev pub Refuses : {V : Type 0} → Result V CodeFault → CodeFault → Type 0
Refuses (Ok v) f = ⊥
Refuses (Err fault.Memory) f = Unit {0}
Refuses (Err e) f = e ≡ f

-- a fault of which this holds
abbrev pub IfFault : CodeFault → (CodeFault → Type 0) → Type 0
IfFault fault.Memory P = Unit {0}
IfFault f P = P f
