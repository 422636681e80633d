-- Branches (JVM specification 6.5: ifeq to goto, ifnull, ifnonnull, goto_w). `value2` is the top.
use Rattle.std.specs.Prelude.{Bool, true, false, not, ℤ, pos, Option, Some, None, is_some, is_none, ◌==◌}
use Rattle.ti_ids.specs.Maybe.{◌>>=◌}
use Rattle.ti_ids.specs.declared.number.ObjNo.{ObjNo}
use Rattle.class_code.specs.declared.instr.Branch.{Branch}
use Rattle.class_code.specs.declared.instr.Branch.TheVariants as branch
use Rattle.jv_number.specs.Comparisons.{holds}
use Rattle.thread_frames.specs.Operands.{OperandStack}
use Rattle.bytecode_local.specs.Kinds.{int_at, reference_at}
use Rattle.bytecode_local.specs.Changes.{Change, jumping}

-- both are null, or both refer to the same object
abbrev pub same_reference : Option ObjNo → Option ObjNo → Bool
same_reference None None = true
same_reference (Some a) (Some b) = a.0 == b.0
same_reference None (Some b) = false
same_reference (Some a) None = false

abbrev pub branched : Branch → ℤ → OperandStack → Option Change
branched (branch.If c) by stack = int_at stack 0 >>= λ v. Some (jumping 1 (holds c v (pos 0)) by)
branched (branch.IfIntCompare c) by stack = int_at stack 0 >>= λ value2. int_at stack 1 >>= λ value1. Some (jumping 2 (holds c value1 value2) by)
branched branch.IfSameReference by stack = reference_at stack 0 >>= λ value2. reference_at stack 1 >>= λ value1. Some (jumping 2 (same_reference value1 value2) by)
branched branch.IfOtherReference by stack = reference_at stack 0 >>= λ value2. reference_at stack 1 >>= λ value1. Some (jumping 2 (not (same_reference value1 value2)) by)
branched branch.Goto by stack = Some (jumping 0 true by)
branched branch.IfNull by stack = reference_at stack 0 >>= λ v. Some (jumping 1 (is_none v) by)
branched branch.IfNonNull by stack = reference_at stack 0 >>= λ v. Some (jumping 1 (is_some v) by)
