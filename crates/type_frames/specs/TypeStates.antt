-- The type states of a method as they are found: one instruction after the other, from the state that each is reached with.
use Rattle.std.specs.Prelude.{ℕ, ◌+◌, List, [], ◌∷◌, map, Option, Some, slice_get}
use Rattle.std.specs.List.{zip}
use Rattle.ti_ids.specs.Maybe.{◌>>=◌}
use Rattle.class_code.specs.declared.instr.Instr.{Instr}
use Rattle.type_frames.specs.declared.frame.MapFrame.{MapFrame}
use Rattle.type_frames.specs.States.{State, held}
use Rattle.type_frames.specs.TypeChecks.{Checked, initial}
use Rattle.type_frames.specs.Walking.{entered, passed}

-- these states, each with the offset of its instruction
abbrev pub held_at : List (ℕ × Instr) → List State → List MapFrame
held_at instrs states = map (λ x. held x.0.0 x.1) (zip instrs states)

-- the state of the instruction at a place, and what it leaves
abbrev pub typed_step : Checked → ℕ → ℕ × Instr → State → Option (MapFrame × State)
typed_step m place p s =
    entered m place p.0 s >>= λ state. passed m p (slice_get m.env.instrs (place + 1)) state >>= λ left. Some (held p.0 state, left)

-- those of these instructions, if they all pass
abbrev pub typed_from : Checked → ℕ → List (ℕ × Instr) → State → Option (List MapFrame)
typed_from m place [] s = Some []
typed_from m place (p ∷ instrs) s = typed_step m place p s >>= λ x. typed_from m (place + 1) instrs x.1 >>= λ frames. Some (x.0 ∷ frames)

abbrev pub typed : Checked → Option (List MapFrame)
typed m = initial m >>= λ s. typed_from m 0 m.env.instrs s
