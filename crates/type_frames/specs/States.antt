-- Type states, and how instructions take types from the operand stack and put types on it (JVM specification 4.10.1.4).
use Rattle.std.specs.Prelude.{ℕ, Bool, List, [], ◌∷◌, reverse, length, nat_le, Option, Some, None, if◌then◌else◌}
use Rattle.ti_ids.specs.Maybe.{◌>>=◌}
use Rattle.type_frames.specs.declared.vtype.VType.{VType}
use Rattle.type_frames.specs.declared.frame.MapFrame.{MapFrame}
use Rattle.type_frames.specs.Types.{expanded}
use Rattle.type_frames.specs.Hierarchies.{Known}
use Rattle.type_frames.specs.Assignable.{is_assignable}

-- the types of the local variables, of the operand stack from the top down, and whether `this` is not initialized yet
pub record State : Type 0 where
  pub locals : List VType
  pub stack : List VType
  pub this_uninit : Bool

-- the state before the instruction at an offset, as it is held
abbrev pub held : ℕ → State → MapFrame
held at s = record { at = at; locals = s.locals; stack = reverse s.stack; this_uninit = s.this_uninit }

-- ---- the operand stack

-- the top, where it is so, and the state without it
abbrev pub top_if : (VType → Bool) → State → Option (VType × State)
top_if is s = elim s.stack [
  | [] ↦ None
  | t ∷ rest ↦ if is t then Some (t, record s { stack = rest }) else None
]

-- without a top that may stand for this type
abbrev pub taken : Known → VType → State → Option State
taken h t s = top_if (λ x. is_assignable h x t) s >>= λ p. Some p.1

-- without these, the first one from the top
abbrev pub all_taken : Known → List VType → State → Option State
all_taken h [] s = Some s
all_taken h (t ∷ ts) s = taken h t s >>= all_taken h ts

-- with this on top, where there is room for so many words
abbrev pub put : ℕ → VType → State → Option State
put room t s = if nat_le (length (expanded (t ∷ s.stack))) room then Some (record s { stack = t ∷ s.stack }) else None

-- with these, the first one first
abbrev pub all_put : ℕ → List VType → State → Option State
all_put room [] s = Some s
all_put room (t ∷ ts) s = put room t s >>= all_put room ts
