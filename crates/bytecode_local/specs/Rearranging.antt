-- Instructions that move or copy operands whatever they hold (JVM specification 6.5: pop to swap). `value1` is the top. Where
-- 6.5 has several forms, the categories of the operands say which one it is.
use Rattle.std.specs.Prelude.{[], ◌∷◌, Option, Some, if◌then◌else◌}
use Rattle.ti_ids.specs.Maybe.{◌>>=◌}
use Rattle.class_code.specs.declared.instr.StackOp.{StackOp}
use Rattle.class_code.specs.declared.instr.StackOp.TheVariants as stack_op
use Rattle.thread_frames.specs.Operands.{OperandStack}
use Rattle.bytecode_local.specs.Kinds.{is_category_two, operand_at, category_one_at}
use Rattle.bytecode_local.specs.Changes.{Change, exchange}

-- pop2: two values of category 1 (form 1), or one of category 2 (form 2)
abbrev pub popped_two : OperandStack → Option Change
popped_two stack = operand_at stack 0 >>= λ value1.
    if is_category_two value1 then Some (exchange 1 [])
    else (category_one_at stack 1 >>= λ value2. Some (exchange 2 []))

-- dup_x2: above two values of category 1 (form 1), or one of category 2 (form 2)
abbrev pub copied_under_two : OperandStack → Option Change
copied_under_two stack = category_one_at stack 0 >>= λ value1. operand_at stack 1 >>= λ value2.
    if is_category_two value2 then Some (exchange 2 (value1 ∷ value2 ∷ value1 ∷ []))
    else (category_one_at stack 2 >>= λ value3. Some (exchange 3 (value1 ∷ value2 ∷ value3 ∷ value1 ∷ [])))

-- dup2: two values of category 1 (form 1), or one of category 2 (form 2)
abbrev pub two_copied : OperandStack → Option Change
two_copied stack = operand_at stack 0 >>= λ value1.
    if is_category_two value1 then Some (exchange 1 (value1 ∷ value1 ∷ []))
    else (category_one_at stack 1 >>= λ value2. Some (exchange 2 (value1 ∷ value2 ∷ value1 ∷ value2 ∷ [])))

-- dup2_x1: the same, above one of category 1
abbrev pub two_copied_under_one : OperandStack → Option Change
two_copied_under_one stack = operand_at stack 0 >>= λ value1. category_one_at stack 1 >>= λ value2.
    if is_category_two value1 then Some (exchange 2 (value1 ∷ value2 ∷ value1 ∷ []))
    else (category_one_at stack 2 >>= λ value3. Some (exchange 3 (value1 ∷ value2 ∷ value3 ∷ value1 ∷ value2 ∷ [])))

-- dup2_x2, where the top is of category 2: above two values of category 1 (form 2), or one of category 2 (form 4)
abbrev pub long_copied_under_two : OperandStack → Option Change
long_copied_under_two stack = operand_at stack 0 >>= λ value1. operand_at stack 1 >>= λ value2.
    if is_category_two value2 then Some (exchange 2 (value1 ∷ value2 ∷ value1 ∷ []))
    else (category_one_at stack 2 >>= λ value3. Some (exchange 3 (value1 ∷ value2 ∷ value3 ∷ value1 ∷ [])))

-- dup2_x2, where the top is of category 1, and so is what lies below: above two values of category 1 (form 1), or one of
-- category 2 (form 3)
abbrev pub pair_copied_under_two : OperandStack → Option Change
pair_copied_under_two stack = operand_at stack 0 >>= λ value1. category_one_at stack 1 >>= λ value2. operand_at stack 2 >>= λ value3.
    if is_category_two value3 then Some (exchange 3 (value1 ∷ value2 ∷ value3 ∷ value1 ∷ value2 ∷ []))
    else (category_one_at stack 3 >>= λ value4. Some (exchange 4 (value1 ∷ value2 ∷ value3 ∷ value4 ∷ value1 ∷ value2 ∷ [])))

abbrev pub two_copied_under_two : OperandStack → Option Change
two_copied_under_two stack = operand_at stack 0 >>= λ value1. if is_category_two value1 then long_copied_under_two stack else pair_copied_under_two stack

abbrev pub rearranged : StackOp → OperandStack → Option Change
rearranged stack_op.Pop stack = category_one_at stack 0 >>= λ value1. Some (exchange 1 [])
rearranged stack_op.Pop2 stack = popped_two stack
rearranged stack_op.Dup stack = category_one_at stack 0 >>= λ value1. Some (exchange 1 (value1 ∷ value1 ∷ []))
rearranged stack_op.DupX1 stack = category_one_at stack 0 >>= λ value1. category_one_at stack 1 >>= λ value2. Some (exchange 2 (value1 ∷ value2 ∷ value1 ∷ []))
rearranged stack_op.DupX2 stack = copied_under_two stack
rearranged stack_op.Dup2 stack = two_copied stack
rearranged stack_op.Dup2X1 stack = two_copied_under_one stack
rearranged stack_op.Dup2X2 stack = two_copied_under_two stack
rearranged stack_op.Swap stack = category_one_at stack 0 >>= λ value1. category_one_at stack 1 >>= λ value2. Some (exchange 2 (value2 ∷ value1 ∷ []))
