-- The states that a stack map gives, by their places in it.
use Rattle.std.specs.Prelude.{ℕ, List, Option, Some, slice_get}
use Rattle.ti_ids.specs.Maybe.{◌>>=◌}
use Rattle.type_frames.specs.declared.frame.MapFrame.{MapFrame}
use Rattle.type_frames.specs.States.{State}
use Rattle.type_frames.specs.TypeChecks.{state_of}

abbrev pub given_at : List MapFrame → ℕ → Option State
given_at frames place = slice_get frames place >>= λ f. Some (state_of f)
