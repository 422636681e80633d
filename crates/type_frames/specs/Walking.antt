-- What the walk over a method's code finds, one instruction after the other.
use Rattle.std.specs.Prelude.{◌≡◌, ℕ, zero, suc, ◌<◌, Bool, not, ◌&&◌, ◌||◌, pos, ◌+ℤ◌, List, length, Option, None, Some, unwrap_or, if◌then◌else◌}
use Rattle.std.specs.List.{list_all}
use Rattle.ti_ids.specs.Maybe.{◌>>=◌}
use Rattle.class_code.specs.declared.instr.Instr.{Instr}
use Rattle.class_code.specs.Listing.{jumps}
use Rattle.type_frames.specs.States.{State}
use Rattle.type_frames.specs.Rules.{rule, falls_through}
use Rattle.type_frames.specs.TypeChecks.{Checked, initial, mapped, is_state_assignable, is_accepted_at, covers, is_handled, may_follow, left_at, FitsAt}

-- each handler that covers an offset accepts what is thrown there
abbrev pub are_handled : Checked → ℕ → State → Bool
are_handled m at s = list_all (λ h. not (covers at h) || is_handled m s h) m.handlers

-- what an instruction leaves is accepted by all to which it leads
abbrev pub are_accepted : Checked → ℕ → Instr → State → Bool
are_accepted m at i left = list_all (λ by. is_accepted_at m (pos at +ℤ by) left) (jumps i)

-- what an instruction leaves, where its rule and all to which it leads accept it
abbrev pub goes_on : Checked → ℕ × Instr → Option (ℕ × Instr) → State → Option State
goes_on m p next left = if may_follow m (falls_through p.1) left next && are_accepted m p.0 p.1 left then Some left else None

abbrev pub passed : Checked → ℕ × Instr → Option (ℕ × Instr) → State → Option State
passed m p next s = if are_handled m p.0 s then rule m.env p.0 p.1 s >>= goes_on m p next else None

-- the state with which the first instruction begins, from that of the descriptor; and a later one, from what the one before left
abbrev pub entered_first : Checked → ℕ → State → Option State
entered_first m at s = elim (mapped m at) [ None ↦ Some s | Some given ↦ if is_state_assignable m.env.hierarchy s given then Some given else None ]

abbrev pub entered_later : Checked → ℕ → State → Option State
entered_later m at s = Some (unwrap_or (mapped m at) s)

abbrev pub entered : Checked → ℕ → ℕ → State → Option State
entered m zero at s = entered_first m at s
entered m (suc before) at s = entered_later m at s

-- what the instruction at a place leaves of the state that it is reached with
abbrev pub stepped : Checked → ℕ → ℕ × Instr → Option (ℕ × Instr) → State → Option State
stepped m place p next s = entered m place p.0 s >>= passed m p next

-- what is known where so many instructions have passed: their states, and the one that the next is reached with
abbrev pub IsReached : Checked → List State → ℕ → State → Type 0
IsReached m states zero s = initial m ≡ Some s
IsReached m states (suc before) s = left_at m states before ≡ Some s

pub record Walked (m : Checked) (states : List State) (place : ℕ) (s : State) : Type 0 where
  pub count : length states ≡ place
  pub fit : (k : ℕ) → k < place → FitsAt m states k
  pub reached : IsReached m states place s
