-- Reading the code of a method: JVM specification 4.7.3 and 4.9.1.
use Rattle.std.specs.Prelude.{ℕ, zero, suc, ◌+◌, ◌-◌, Bool, nat_lt, if◌then◌else◌, List, [], ◌∷◌, length, take, drop, Some, None, Result, Ok, Err}
use Rattle.class_code.specs.declared.instr.Instr.{Instr}
use Rattle.class_code.specs.declared.fault.InstrFault.{InstrFault}
use Rattle.class_code.specs.declared.fault.InstrFault.TheVariants as instr_fault
use Rattle.class_code.specs.Listing.{astray}
use Rattle.class_code.specs.PoolUses.{pool_use_at}
use Rattle.class_code.specs.CodeReading.{instr_at}
use Rattle.class_tree.specs.declared.pool.Const.{Const}
use Rattle.class_tree.specs.declared.body.Handler.{Handler}
use Rattle.class_tree.specs.declared.body.Code.{Code}
use Rattle.class_tree.specs.declared.body.CodeAttr.{CodeAttr}
use Rattle.class_tree.specs.declared.body.CodeAttr.TheVariants as code_attr
use Rattle.class_tree.specs.CodeRules.{is_met, is_place, is_range_end, is_catch_type, is_code_length, is_stack_map}
use Rattle.classfile_items.specs.declared.fault.ReadClassFault.{ReadClassFault}
use Rattle.classfile_items.specs.declared.fault.ReadClassFault.TheVariants.{Truncated, BadIndex, BadCode, BadLength, Floating, Unsupported}
use Rattle.classfile_items.specs.Reading.{Found, Checked, ◌>>=◌, FaultOf, unless, faultless, provided, offset, u2, u4, counted}
use Rattle.classfile_items.specs.Contents.{text_index, kept, measured}
use Rattle.classfile_code.specs.FrameReading.{frame_at}

-- ---- instructions, one after the other, each with its index first

-- the index behind an opcode, where it is there, names what the instruction uses; it stands at this offset
abbrev pub index_fault : ℕ → List Const → ℕ → List ℕ → FaultOf
index_fault major pool at bytes = unless (is_met major pool (pool_use_at bytes)) (BadIndex at)

-- An instruction that isn't read, at this offset: one that is cut off by the file's end is truncated, and by the code's end bad.
abbrev pub stopped : ℕ → Bool → ℕ → InstrFault → ReadClassFault
stopped end cut at instr_fault.Floating = Floating at
stopped end cut at instr_fault.Unsupported = Unsupported at
stopped end cut at instr_fault.BadOperand = BadCode at
stopped end cut at instr_fault.Truncated = if cut then Truncated end else BadCode at

abbrev pub or_stopped : {A : Type 0} → ℕ → Bool → ℕ → Result A InstrFault → Checked A
or_stopped end cut at (Ok x) = Ok x
or_stopped end cut at (Err why) = Err (stopped end cut at why)

-- an instruction at an offset of the code, of which these bytes are there
abbrev pub instr_of : ℕ → List Const → ℕ → Bool → ℕ → ℕ → List ℕ → Found Instr
instr_of major pool end cut at pc bytes = faultless (index_fault major pool (at + 1) bytes) bytes >>= λ b. or_stopped end cut at (instr_at pc b)

-- The instructions of a code from this offset of it on. Their number is at most `most`. `cut` says that the file ends before
-- the code does.
abbrev pub instrs_from : ℕ → List Const → ℕ → Bool → ℕ → ℕ → ℕ → List ℕ → Checked (List (ℕ × Instr))
instrs_from major pool end cut at zero pc bytes = Ok []
instrs_from major pool end cut at (suc most) pc [] = if cut then Err (Truncated end) else Ok []
instrs_from major pool end cut at (suc most) pc (b ∷ bytes) =
    instr_of major pool end cut at pc (b ∷ bytes) >>= λ i. let len = length (b ∷ bytes) - length i.1 in
    instrs_from major pool end cut (at + len) most (pc + len) i.1 >>= λ is. Ok ((pc, i.0) ∷ is)

-- the code's instructions; of a code that the file cuts off, those that are there are looked at first
abbrev pub instrs : ℕ → List Const → ℕ → ℕ → List ℕ → Checked (List (ℕ × Instr))
instrs major pool end len bytes = instrs_from major pool end (nat_lt (length bytes) len) (offset end bytes) len 0 (take len bytes)

-- when all instructions have been read, the first that leads astray
abbrev pub astray_fault : ℕ → List (ℕ × Instr) → FaultOf
astray_fault at list = elim (astray list) [ None ↦ None | Some p ↦ Some (BadCode (at + p.0)) ]

abbrev pub listed : ℕ → List Const → ℕ → ℕ → List ℕ → Found (List ℕ × List (ℕ × Instr))
listed major pool end len bytes =
    instrs major pool end len bytes >>= λ list. faultless (astray_fault (offset end bytes) list) ((take len bytes, list), drop len bytes)

abbrev pub code_array : ℕ → List Const → ℕ → List ℕ → Found (List ℕ × List (ℕ × Instr))
code_array major pool end bytes = u4 end bytes >>= λ n. provided (is_code_length n.0) (BadLength (offset end bytes)) n >>= λ m. listed major pool end m.0 m.1

-- ---- handlers

-- a place of the code of which this holds
abbrev pub place : ℕ → (ℕ → Bool) → List ℕ → Found ℕ
place end holds bytes = u2 end bytes >>= λ n. provided (holds n.0) (BadCode (offset end bytes)) n

abbrev pub catch_type : ℕ → List Const → List ℕ → Found ℕ
catch_type end pool bytes = u2 end bytes >>= λ n. provided (is_catch_type pool n.0) (BadIndex (offset end bytes)) n

abbrev pub handler : ℕ → List Const → ℕ → List (ℕ × Instr) → List ℕ → Found Handler
handler end pool len list bytes =
    place end (is_place list) bytes >>= λ start. place end (is_range_end list len start.0) start.1 >>= λ last. place end (is_place list) last.1 >>= λ target.
    catch_type end pool target.1 >>= λ type.
    Ok (record { start = start.0; end = last.0; target = target.0; catch_type = type.0 }, type.1)

-- ---- attributes

abbrev pub raw_attr : ℕ → ℕ → List ℕ → Found CodeAttr
raw_attr end name bytes = kept (code_attr.Raw name) end bytes

abbrev pub frames_attr : ℕ → List Const → ℕ → List ℕ → Found CodeAttr
frames_attr end pool name bytes = measured (counted end (frame_at pool end)) (code_attr.Frames name) end bytes

abbrev pub code_attr_at : ℕ → List Const → List ℕ → Found CodeAttr
code_attr_at end pool bytes =
    text_index end pool bytes >>= λ name. if is_stack_map name.0.1 then frames_attr end pool name.0.0 name.1 else raw_attr end name.0.0 name.1

-- ---- the content of an attribute Code

abbrev pub code : ℕ → List Const → ℕ → List ℕ → Found Code
code major pool end bytes =
    u2 end bytes >>= λ stack. u2 end stack.1 >>= λ locals. code_array major pool end locals.1 >>= λ array.
    counted end (handler end pool (length array.0.0) array.0.1) array.1 >>= λ handlers.
    counted end (code_attr_at end pool) handlers.1 >>= λ attrs.
    Ok (record { max_stack = stack.0; max_locals = locals.0; bytes = array.0.0; handlers = handlers.0; attrs = attrs.0 }, attrs.1)
