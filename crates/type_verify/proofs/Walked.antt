-- What is known where the code has walked so far: type states up to there, of as many local variables as the method has.
use Rattle.std.proofs.Common.{◌≡◌, ℕ, ◌+◌, ◌≤◌, ◌∙◌, List, [], ◌∷◌, ◌++◌, length, Some, None, refl, subst, arith}
use Rattle.std.specs.Prelude.{slice_get, All, Ok}
use Rattle.class_code.specs.declared.instr.Instr.{Instr}
use Rattle.type_frames.specs.declared.frame.MapFrame.{MapFrame}
use Rattle.type_frames.specs.States.{State}
use Rattle.type_frames.specs.TypeChecks.{Checked, initial, AreStates, IsOffending}
use Rattle.type_frames.specs.Walking.{entered, stepped, Walked}
use Rattle.type_frames.proofs.Reached.{walked_none, walked_more, walked_all, step_of, offends_by, passed_room, entered_room}

-- some states have been found up to a place
pub record IsWalked (m : Checked) (place : ℕ) (s : State) : Type 0 where
  pub states : List State
  pub walked : Walked m states place s
  pub room : length s.locals ≡ m.max_locals

pub walk_more : (m : Checked) (frames : List MapFrame) (place : ℕ) (s left : State) (p : ℕ × Instr) → m.map ≡ Ok frames
    → All (λ f. length f.locals ≡ m.max_locals) frames → IsWalked m place s → slice_get m.env.instrs place ≡ Some p
    → stepped m place p (slice_get m.env.instrs (place + 1)) s ≡ Some left → IsWalked m (place + 1) left
walk_more m frames place s left p map rooms w here e =
    let step = step_of m place p (slice_get m.env.instrs (place + 1)) s left e in
    record {
      states = w.states ++ step.state ∷ [];
      walked = walked_more m w.states place s step.state left p w.walked here step.enters step.passes;
      room =
          passed_room m p (slice_get m.env.instrs (place + 1)) step.state left step.passes
          ∙ entered_room m frames place p.0 s step.state map rooms w.room step.enters;
    }

pub walk_offends : (m : Checked) (place : ℕ) (s : State) (p : ℕ × Instr) → IsWalked m place s → slice_get m.env.instrs place ≡ Some p
    → stepped m place p (slice_get m.env.instrs (place + 1)) s ≡ None → IsOffending m p.0
walk_offends m place s p w here e = offends_by m w.states place s p (entered m place p.0 s) w.walked here refl e

pub walk_none : (m : Checked) (s : State) → initial m ≡ Some s → length s.locals ≡ m.max_locals → IsWalked m 0 s
walk_none m s e room = record { states = []; walked = walked_none m s e; room = room }

pub walk_all : (m : Checked) (place : ℕ) (s : State) → length m.env.instrs ≤ place → place ≤ length m.env.instrs → IsWalked m place s
    → (states : List State) × AreStates m states
walk_all m place s low high w =
    let same : place ≡ length m.env.instrs = omega arith in
    (w.states, walked_all m w.states s (subst (λ (k : ℕ). Walked m w.states k s) same w.walked))
