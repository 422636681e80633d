-- The walk over a code that passes, once more.
use Rattle.std.proofs.Common.{◌≡◌, ℕ, ◌+◌, ◌≤◌, ◌∙◌, Bool, true, false, List, [], ◌∷◌, ◌++◌, length, drop, Option, Some, None, refl, sym, ap, subst, append_assoc, arith, eqb-true}
use Rattle.std.specs.Prelude.{slice_get, find, ◌==◌, unwrap_or, if◌then◌else◌}
use Rattle.class_code.specs.declared.instr.Instr.{Instr}
use Rattle.type_frames.specs.declared.frame.MapFrame.{MapFrame}
use Rattle.type_frames.specs.States.{State, held}
use Rattle.type_frames.specs.Rules.{rule}
use Rattle.type_frames.specs.TypeChecks.{Checked}
use Rattle.type_frames.specs.Walking.{entered}
use Rattle.type_frames.specs.TypeStates.{typed_from}
use Rattle.type_frames.proofs.StateLaws.{some_is}
use Rattle.type_frames.proofs.TypeStates.{drop_over, first_of}
use Rattle.type_verify.specs.Recomputing.{AllPass}

right_none : (xs : List MapFrame) → xs ++ [] ≡ xs
right_none [] = refl
right_none (x ∷ xs) = ap (λ (rest : List MapFrame). x ∷ rest) (right_none xs)

abbrev pub Rest : Checked → ℕ → State → List MapFrame → Type 0
Rest m place s rest = typed_from m place (drop place m.env.instrs) s ≡ Some rest

-- the frames so far, with those of the rest, are all
pub record Gathered (m : Checked) (start : State) (place : ℕ) (s : State) (frames : List MapFrame) : Type 0 where
  pub rest : List MapFrame
  pub from : Rest m place s rest
  pub all : typed_from m 0 m.env.instrs start ≡ Some (frames ++ rest)
  pub room : length s.locals ≡ m.max_locals

-- what is found is found in the rest
pub record Sought (m : Checked) (start : State) (at place : ℕ) (s : State) : Type 0 where
  pub rest : List MapFrame
  pub from : Rest m place s rest
  pub all : find (λ x. x.at == at) (unwrap_or (typed_from m 0 m.env.instrs start) []) ≡ find (λ x. x.at == at) rest
  pub room : length s.locals ≡ m.max_locals

pub gathered_none : (m : Checked) (s : State) → AllPass m s → length s.locals ≡ m.max_locals → Gathered m s 0 s []
gathered_none m s passes room = record { rest = passes.0; from = passes.1; all = passes.1; room = room }

pub sought_none : (m : Checked) (at : ℕ) (s : State) → AllPass m s → length s.locals ≡ m.max_locals → Sought m s at 0 s
sought_none m at s passes room = record { rest = passes.0; from = passes.1; all = ap (λ (o : Option (List MapFrame)). find (λ x. x.at == at) (unwrap_or o [])) passes.1; room = room }

module _ (m : Checked) (place : ℕ) (p : ℕ × Instr) (s : State) (here : slice_get m.env.instrs place ≡ Some p) where
  pub enters_not : (rest : List MapFrame) → Rest m place s rest → entered m place p.0 s ≡ None → ⊥
  enters_not rest from none = let enters = (first_of m place p s rest here from).enters in cc

  module _ (state : State) (enters : entered m place p.0 s ≡ Some state) where
    same_state : (rest : List MapFrame) (from : Rest m place s rest) → (first_of m place p s rest here from).state ≡ state
    same_state rest from = some_is (sym (first_of m place p s rest here from).enters ∙ enters)

    leaves_with : (rest : List MapFrame) (from : Rest m place s rest) → rule m.env p.0 p.1 state ≡ Some (first_of m place p s rest here from).left
    leaves_with rest from = ap (rule m.env p.0 p.1) (sym (same_state rest from)) ∙ (first_of m place p s rest here from).leaves

    rest_is : (rest : List MapFrame) (from : Rest m place s rest) → rest ≡ held p.0 state ∷ (first_of m place p s rest here from).tail
    rest_is rest from = let f = first_of m place p s rest here from in f.are ∙ ap (λ (x : State). held p.0 x ∷ f.tail) (same_state rest from)

    pub leaves_not : (rest : List MapFrame) → Rest m place s rest → rule m.env p.0 p.1 state ≡ None → ⊥
    leaves_not rest from none = let leaves = leaves_with rest from in cc

    -- the one that is sought
    pub sought_here : (start : State) (at : ℕ) → Sought m start at place s → p.0 ≡ at → find (λ x. x.at == at) (unwrap_or (typed_from m 0 m.env.instrs start) []) ≡ Some (held at state)
    sought_here start at g is =
        let test : (p.0 == at) ≡ true = rw is (grind arith) in
        g.all ∙ ap (find (λ x. x.at == at)) (rest_is g.rest g.from)
        ∙ ap (λ (b : Bool). if b then Some (held p.0 state) else find (λ x. x.at == at) (first_of m place p s g.rest here g.from).tail) test
        ∙ ap (λ (k : ℕ). Some (held k state)) is

    module _ (left : State) (leaves : rule m.env p.0 p.1 state ≡ Some left) (room : length left.locals ≡ m.max_locals) where
      rest_from : (rest : List MapFrame) (from : Rest m place s rest) → Rest m (place + 1) left (first_of m place p s rest here from).tail
      rest_from rest from =
          let f = first_of m place p s rest here from in
          let same : f.left ≡ left = some_is (sym (leaves_with rest from) ∙ leaves) in
          subst (λ (x : State). Rest m (place + 1) x f.tail) same f.rest

      pub gathered_more : (start : State) (frames : List MapFrame) → Gathered m start place s frames → Gathered m start (place + 1) left (frames ++ held p.0 state ∷ [])
      gathered_more start frames g =
          let tail = (first_of m place p s g.rest here g.from).tail in
          record {
            rest = tail;
            from = rest_from g.rest g.from;
            all = g.all ∙ ap (λ (fs : List MapFrame). Some (frames ++ fs)) (rest_is g.rest g.from) ∙ ap (λ (fs : List MapFrame). Some fs) (sym (append_assoc frames (held p.0 state ∷ []) tail));
            room = room;
          }

      pub sought_more : (start : State) (at : ℕ) → Sought m start at place s → (p.0 ≡ at → ⊥) → Sought m start at (place + 1) left
      sought_more start at g other =
          let tail = (first_of m place p s g.rest here g.from).tail in
          let test : (p.0 == at) ≡ false = differs (p.0 == at) refl in
          record {
            rest = tail;
            from = rest_from g.rest g.from;
            all =
                g.all ∙ ap (find (λ x. x.at == at)) (rest_is g.rest g.from)
                ∙ ap (λ (b : Bool). if b then Some (held p.0 state) else find (λ x. x.at == at) tail) test;
            room = room;
          }
        where
          differs : (b : Bool) → (p.0 == at) ≡ b → (p.0 == at) ≡ false
          differs true e = absurd (other (eqb-true p.0 at e))
          differs false e = e

module _ (m : Checked) (start : State) (place : ℕ) (s : State) (over : length m.env.instrs ≤ place) where
  none_left : (rest : List MapFrame) → Rest m place s rest → rest ≡ []
  none_left rest from = some_is (sym from ∙ ap (λ (ps : List (ℕ × Instr)). typed_from m place ps s) (drop_over m.env.instrs place over))

  pub gathered_all : (frames : List MapFrame) → Gathered m start place s frames → typed_from m 0 m.env.instrs start ≡ Some frames
  gathered_all frames g = g.all ∙ ap (λ (fs : List MapFrame). Some (frames ++ fs)) (none_left g.rest g.from) ∙ ap (λ (fs : List MapFrame). Some fs) (right_none frames)

  pub sought_all : (at : ℕ) → Sought m start at place s → find (λ x. x.at == at) (unwrap_or (typed_from m 0 m.env.instrs start) []) ≡ None
  sought_all at g = g.all ∙ ap (find (λ x. x.at == at)) (none_left g.rest g.from)
