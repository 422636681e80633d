-- The laws of a code that is whole in the file (JVM specification 4.7.3 and 4.9.1): its fault is what its own bytes say, by the
-- relations of instructions.
use Rattle.std.specs.Prelude.{◌≡◌, ◌⊎◌, ℕ, ◌+◌, ◌≤◌, true, false, List, [], ◌++◌, length, take, Some, Err}
use Rattle.std.specs.List.{list_all}
use Rattle.class_code.specs.declared.instr.Instr.{Instr}
use Rattle.class_code.specs.declared.fault.InstrFault.{InstrFault}
use Rattle.class_code.specs.declared.fault.InstrFault.TheVariants as instr_fault
use Rattle.class_code.specs.PoolUses.{pool_use, pool_use_at}
use Rattle.class_code.specs.Listing.{spelled, InPlace, astray}
use Rattle.class_code.specs.Faults.{HeadFault}
use Rattle.class_tree.specs.declared.pool.Const.{Const}
use Rattle.class_tree.specs.Ranges.{are_bytes}
use Rattle.class_tree.specs.CodeRules.{is_met}
use Rattle.classfile_items.specs.declared.fault.ReadClassFault.{ReadClassFault}
use Rattle.classfile_items.specs.declared.fault.ReadClassFault.TheVariants.{BadIndex, BadCode, Floating, Unsupported}
use Rattle.classfile_items.specs.Reading.{offset}
use Rattle.classfile_code.specs.CodeReading.{listed}

-- A code begins with these instructions, each of which names what it must, and goes on with these bytes.
pub record FrontStands (major : ℕ) (pool : List Const) (code : List ℕ) (front : List (ℕ × Instr)) (rest : List ℕ) : Type 0 where
  pub parts : code ≡ spelled front ++ rest
  pub in_place : InPlace 0 front
  pub met : list_all (λ p. is_met major pool (pool_use p.1)) front ≡ true

-- the fault of an instruction that stands at this offset of the file and isn't read
abbrev pub instr_fault_at : ℕ → InstrFault → ReadClassFault
instr_fault_at at instr_fault.Floating = Floating at
instr_fault_at at instr_fault.Unsupported = Unsupported at
instr_fault_at at instr_fault.Truncated = BadCode at
instr_fault_at at instr_fault.BadOperand = BadCode at

-- What is wrong at this offset of a code, where the file has that offset: an index, which stands behind its opcode, or else the
-- instruction.
abbrev pub IsHeadFault : ℕ → List Const → ℕ → ℕ → List ℕ → ReadClassFault → Type 0
IsHeadFault major pool at pc bytes fault =
    ((is_met major pool (pool_use_at bytes) ≡ false) × (fault ≡ BadIndex (at + 1)))
    ⊎ ((why : InstrFault) × (is_met major pool (pool_use_at bytes) ≡ true) × HeadFault pc bytes why × (fault ≡ instr_fault_at at why))

-- The fault of a code that begins at this offset of the file: that of the first instruction that isn't right, or, if all are, of the
-- first that leads astray.
abbrev pub IsCodeFault : ℕ → List Const → ℕ → List ℕ → ReadClassFault → Type 0
IsCodeFault major pool start code fault =
    ((front : List (ℕ × Instr)) × (rest : List ℕ) × FrontStands major pool code front rest × IsHeadFault major pool (start + length (spelled front)) (length (spelled front)) rest fault)
    ⊎ ((list : List (ℕ × Instr)) × (p : ℕ × Instr) × FrontStands major pool code list [] × (astray list ≡ Some p) × (fault ≡ BadCode (start + p.0)))

-- A code that has this fault is refused for it.
abbrev pub CodeFaultShows : Type 0
CodeFaultShows = (major : ℕ) (pool : List Const) (end len : ℕ) (bytes : List ℕ) (fault : ReadClassFault) → len ≤ length bytes → are_bytes bytes ≡ true → IsCodeFault major pool (offset end bytes) (take len bytes) fault → listed major pool end len bytes ≡ Err fault

-- It is refused for no other.
abbrev pub OnlyCodeFault : Type 0
OnlyCodeFault = (major : ℕ) (pool : List Const) (end len : ℕ) (bytes : List ℕ) (fault : ReadClassFault) → len ≤ length bytes → are_bytes bytes ≡ true → listed major pool end len bytes ≡ Err fault → IsCodeFault major pool (offset end bytes) (take len bytes) fault
