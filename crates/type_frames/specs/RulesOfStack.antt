-- The rules of the instructions that move operands whatever they are (JVM specification 4.10.1.9, `pop` to `swap`). Each takes one
-- word or a whole long.
use Rattle.std.specs.Prelude.{ℕ, [], ◌∷◌, Option, Some}
use Rattle.std.specs.Option.{option_or}
use Rattle.ti_ids.specs.Maybe.{◌>>=◌}
use Rattle.class_code.specs.declared.instr.StackOp.{StackOp}
use Rattle.class_code.specs.declared.instr.StackOp.TheVariants as stack_op
use Rattle.type_frames.specs.declared.vtype.VType.{VType}
use Rattle.type_frames.specs.Types.{is_one_word, is_long}
use Rattle.type_frames.specs.States.{State, top_if, all_put}

abbrev pub one : State → Option (VType × State)
one s = top_if is_one_word s

abbrev pub two : State → Option (VType × State)
two s = top_if is_long s

abbrev pub pop_rule : State → Option State
pop_rule s = one s >>= λ a. Some a.1

abbrev pub pop2_rule : State → Option State
pop2_rule s = option_or (two s >>= λ a. Some a.1) (one s >>= λ a. one a.1 >>= λ b. Some b.1)

abbrev pub dup_rule : ℕ → State → Option State
dup_rule room s = one s >>= λ a. all_put room (a.0 ∷ a.0 ∷ []) a.1

abbrev pub dup_x1_rule : ℕ → State → Option State
dup_x1_rule room s = one s >>= λ a. one a.1 >>= λ b. all_put room (a.0 ∷ b.0 ∷ a.0 ∷ []) b.1

abbrev pub dup_x2_rule : ℕ → State → Option State
dup_x2_rule room s = one s >>= λ a. option_or
    (two a.1 >>= λ b. all_put room (a.0 ∷ b.0 ∷ a.0 ∷ []) b.1)
    (one a.1 >>= λ b. one b.1 >>= λ c. all_put room (a.0 ∷ c.0 ∷ b.0 ∷ a.0 ∷ []) c.1)

abbrev pub dup2_rule : ℕ → State → Option State
dup2_rule room s = option_or
    (two s >>= λ a. all_put room (a.0 ∷ a.0 ∷ []) a.1)
    (one s >>= λ a. one a.1 >>= λ b. all_put room (b.0 ∷ a.0 ∷ b.0 ∷ a.0 ∷ []) b.1)

abbrev pub dup2_x1_rule : ℕ → State → Option State
dup2_x1_rule room s = option_or
    (two s >>= λ a. one a.1 >>= λ b. all_put room (a.0 ∷ b.0 ∷ a.0 ∷ []) b.1)
    (one s >>= λ a. one a.1 >>= λ b. one b.1 >>= λ c. all_put room (b.0 ∷ a.0 ∷ c.0 ∷ b.0 ∷ a.0 ∷ []) c.1)

-- over a long
abbrev pub dup2_over_two : ℕ → State → Option State
dup2_over_two room s = option_or
    (two s >>= λ a. two a.1 >>= λ b. all_put room (a.0 ∷ b.0 ∷ a.0 ∷ []) b.1)
    (one s >>= λ a. one a.1 >>= λ b. two b.1 >>= λ c. all_put room (b.0 ∷ a.0 ∷ c.0 ∷ b.0 ∷ a.0 ∷ []) c.1)

-- over two words
abbrev pub dup2_over_ones : ℕ → State → Option State
dup2_over_ones room s = option_or
    (two s >>= λ a. one a.1 >>= λ b. one b.1 >>= λ c. all_put room (a.0 ∷ c.0 ∷ b.0 ∷ a.0 ∷ []) c.1)
    (one s >>= λ a. one a.1 >>= λ b. one b.1 >>= λ c. one c.1 >>= λ d. all_put room (b.0 ∷ a.0 ∷ d.0 ∷ c.0 ∷ b.0 ∷ a.0 ∷ []) d.1)

abbrev pub dup2_x2_rule : ℕ → State → Option State
dup2_x2_rule room s = option_or (dup2_over_two room s) (dup2_over_ones room s)

abbrev pub swap_rule : ℕ → State → Option State
swap_rule room s = one s >>= λ a. one a.1 >>= λ b. all_put room (a.0 ∷ b.0 ∷ []) b.1

unfoldable pub stack_rule : ℕ → StackOp → State → Option State
stack_rule room stack_op.Pop s = pop_rule s
stack_rule room stack_op.Pop2 s = pop2_rule s
stack_rule room stack_op.Dup s = dup_rule room s
stack_rule room stack_op.DupX1 s = dup_x1_rule room s
stack_rule room stack_op.DupX2 s = dup_x2_rule room s
stack_rule room stack_op.Dup2 s = dup2_rule room s
stack_rule room stack_op.Dup2X1 s = dup2_x1_rule room s
stack_rule room stack_op.Dup2X2 s = dup2_x2_rule room s
stack_rule room stack_op.Swap s = swap_rule room s
