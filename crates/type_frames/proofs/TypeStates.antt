-- The type states that fit are those that are found, one instruction after the other.
use Rattle.std.proofs.Common.{◌≡◌, ℕ, zero, suc, ◌+◌, ◌<◌, ◌≤◌, ◌∙◌, true, false, List, [], ◌∷◌, length, drop, Option, Some, None, refl, sym, ap, ap₂, subst, arith}
use Rattle.std.specs.Prelude.{slice_get, unwrap_or, if◌then◌else◌}
use Rattle.std.specs.Option.{option_map_or}
use Rattle.ti_ids.specs.Maybe.{◌>>=◌}
use Rattle.class_code.specs.declared.instr.Instr.{Instr}
use Rattle.type_frames.specs.declared.frame.MapFrame.{MapFrame}
use Rattle.type_frames.specs.States.{State, held}
use Rattle.type_frames.specs.Rules.{rule}
use Rattle.type_frames.specs.TypeChecks.{Checked, initial, mapped, is_state_assignable, left_at, IsFirst, IsLater, IsGiven, FitsAt, AreStates}
use Rattle.type_frames.specs.Walking.{entered, passed, IsReached}
use Rattle.type_frames.specs.TypeStates.{held_at, typed_step, typed_from, typed}
use Rattle.type_frames.proofs.StateLaws.{some_is}
use Rattle.type_frames.proofs.Reached.{reached_next, passes, is_passed}

-- ---- lists

pub drop_here : {A : Type 0} (xs : List A) (k : ℕ) (x : A) → slice_get xs k ≡ Some x → drop k xs ≡ x ∷ drop (k + 1) xs
drop_here [] k x e = absurd cc
drop_here (y ∷ xs) zero x e = ap (λ (z : _). z ∷ xs) (some_is e)
drop_here (y ∷ xs) (suc k) x e =
    let more : suc k + 1 ≡ suc (k + 1) = omega arith in
    drop_here xs k x e ∙ ap (λ (n : ℕ). x ∷ drop n (y ∷ xs)) (sym more)

pub drop_over : {A : Type 0} (xs : List A) (k : ℕ) → length xs ≤ k → drop k xs ≡ []
drop_over [] zero le = refl
drop_over [] (suc k) le = refl
drop_over (x ∷ xs) zero le = absurd (omega arith)
drop_over (x ∷ xs) (suc k) le = drop_over xs k (omega arith)

-- ---- states that fit are those that are found

module _ (m : Checked) (states : List State) where
  enters_so : (place at : ℕ) (s state : State) → IsReached m states place s → IsGiven m states place at state → entered m place at s ≡ Some state
  enters_so zero at s state reached given = first (mapped m at) given
    where
      first : (given : Option State) → IsFirst m state given
          → (elim given [ None ↦ Some s | Some g ↦ if is_state_assignable m.env.hierarchy s g then Some g else None ]) ≡ Some state
      first None i = sym reached ∙ i
      first (Some g) i =
          let can : is_state_assignable m.env.hierarchy s g ≡ true =
          subst (λ (x : Option State). option_map_or (λ i. is_state_assignable m.env.hierarchy i g) x false ≡ true) reached i.1 in
          rw can (ap Some (sym i.0))
  enters_so (suc before) at s state reached given = later (mapped m at) given
    where
      later : (given : Option State) → IsLater m states before state given → Some (unwrap_or given s) ≡ Some state
      later None l = sym reached ∙ l
      later (Some g) l = ap Some (sym l)

  step_so : (place : ℕ) (s : State) (f : FitsAt m states place) → IsReached m states place s
      → typed_step m place (f.at, f.instr) s ≡ Some (held f.at f.state, f.left)
  step_so place s f reached =
      let enters : entered m place f.at s ≡ Some f.state = enters_so place f.at s f.state reached f.given in
      let goes : passed m (f.at, f.instr) (slice_get m.env.instrs (place + 1)) f.state ≡ Some f.left =
      is_passed m (f.at, f.instr) (slice_get m.env.instrs (place + 1)) f.state f.left
      (record { handlers = f.handlers; accepted = f.accepted; followed = f.followed; targets = f.targets }) in
      ap (λ (o : Option State). o >>= λ state. passed m (f.at, f.instr) (slice_get m.env.instrs (place + 1)) state
      >>= λ left. let both : MapFrame × State = (held f.at state, left) in Some both) enters
      ∙ ap (λ (o : Option State). o >>= λ left. let both : MapFrame × State = (held f.at f.state, left) in Some both) goes

  left_there : (place : ℕ) (f : FitsAt m states place) → left_at m states place ≡ Some f.left
  left_there place f =
      ap (λ (x : Option (ℕ × Instr)). x >>= λ q. slice_get states place >>= rule m.env q.0 q.1) f.is_instr
      ∙ ap (λ (x : Option State). x >>= rule m.env f.at f.instr) f.is_state ∙ f.accepted

  from_here : AreStates m states → (n place : ℕ) (s : State) → place + n ≡ length m.env.instrs → IsReached m states place s
      → typed_from m place (drop place m.env.instrs) s ≡ Some (held_at (drop place m.env.instrs) (drop place states))
  from_here are zero place s all reached =
      let none : drop place m.env.instrs ≡ [] = drop_over m.env.instrs place (omega arith) in
      ap (λ (ps : List (ℕ × Instr)). typed_from m place ps s) none ∙ ap (λ (ps : List (ℕ × Instr)). Some (held_at ps (drop place states))) (sym none)
  from_here are (suc n) place s all reached =
      let count = are.count in
      let f = are.fit place (omega arith) in
      let ps = drop_here m.env.instrs place (f.at, f.instr) f.is_instr in
      let ss = drop_here states place f.state f.is_state in
      ap (λ (qs : List (ℕ × Instr)). typed_from m place qs s) ps
      ∙ ap (λ (o : Option (MapFrame × State)). o >>= λ x. typed_from m (place + 1) (drop (place + 1) m.env.instrs) x.1
      >>= λ frames. Some (x.0 ∷ frames)) (step_so place s f reached)
      ∙ ap (λ (o : Option (List MapFrame)). o >>= λ frames. Some (held f.at f.state ∷ frames))
      (from_here are n (place + 1) f.left (omega arith) (reached_next m states place f.left (left_there place f)))
      ∙ ap Some (sym (ap₂ held_at ps ss))

  first_begun : (s : State) (given : Option State) → IsFirst m s given → (i : State) × (initial m ≡ Some i)
  first_begun s None e = (s, e)
  first_begun s (Some g) e = by (initial m) refl e.1
    where
      by : (o : Option State) → initial m ≡ o → option_map_or (λ i. is_state_assignable m.env.hierarchy i g) o false ≡ true
          → (i : State) × (initial m ≡ Some i)
      by None is x = absurd cc
      by (Some i) is x = (i, is)

  pub begins : AreStates m states → 0 < length m.env.instrs → (i : State) × (initial m ≡ Some i)
  begins are some = let count = are.count in let f = are.fit 0 (omega arith) in first_begun f.state (mapped m f.at) f.given

  -- from the state that it begins with
  pub typed_begun : AreStates m states → (s : State) → initial m ≡ Some s → typed_from m 0 m.env.instrs s ≡ Some (held_at m.env.instrs states)
  typed_begun are s e = from_here are (length m.env.instrs) 0 s (omega arith) e

  -- so there is a state to begin with
  pub never_nothing : (n : Checked) → n ≡ m → AreStates m states → 0 < length m.env.instrs → initial n ≡ None → ⊥
  never_nothing n same are some e = let b = begins are some in let both : Some b.0 ≡ None = sym b.1 ∙ ap initial (sym same) ∙ e in cc

  typed_is : AreStates m states → 0 < length m.env.instrs → typed m ≡ Some (held_at m.env.instrs states)
  typed_is are some =
      let b = begins are some in
      ap (λ (o : Option State). o >>= λ s. typed_from m 0 m.env.instrs s) b.1 ∙ typed_begun are b.0 b.1

  nothing : (o : Option State) → unwrap_or (o >>= λ s. Some (let none : List MapFrame = [] in none)) [] ≡ []
  nothing None = refl
  nothing (Some s) = refl

  pub typed_frames : AreStates m states → (instrs : List (ℕ × Instr)) → m.env.instrs ≡ instrs → unwrap_or (typed m) [] ≡ held_at m.env.instrs states
  typed_frames are [] e =
      ap (λ (ps : List (ℕ × Instr)). unwrap_or (initial m >>= λ s. typed_from m 0 ps s) []) e ∙ nothing (initial m)
      ∙ ap (λ (ps : List (ℕ × Instr)). held_at ps states) (sym e)
  typed_frames are (p ∷ instrs) e =
      let count = ap (λ (ps : List (ℕ × Instr)). length ps) e in
      ap (λ (o : Option (List MapFrame)). unwrap_or o []) (typed_is are (omega arith))

-- ---- an instruction that is known to pass

pub record First (m : Checked) (place : ℕ) (p : ℕ × Instr) (s : State) (frames : List MapFrame) : Type 0 where
  pub state : State
  pub left : State
  pub tail : List MapFrame
  pub enters : entered m place p.0 s ≡ Some state
  pub goes : passed m p (slice_get m.env.instrs (place + 1)) state ≡ Some left
  pub leaves : rule m.env p.0 p.1 state ≡ Some left
  pub rest : typed_from m (place + 1) (drop (place + 1) m.env.instrs) left ≡ Some tail
  pub are : frames ≡ held p.0 state ∷ tail

module _ (m : Checked) (place : ℕ) (p : ℕ × Instr) (s : State) (frames : List MapFrame) where
  abbrev later : State → Option (List MapFrame)
  later left = typed_from m (place + 1) (drop (place + 1) m.env.instrs) left

  by_rest : (state left : State) (rest : Option (List MapFrame)) → later left ≡ rest → entered m place p.0 s ≡ Some state
      → passed m p (slice_get m.env.instrs (place + 1)) state ≡ Some left → (rest >>= λ fs. Some (held p.0 state ∷ fs)) ≡ Some frames
      → First m place p s frames
  by_rest state left None is enters goes e = absurd cc
  by_rest state left (Some tail) is enters goes e = record {
    state = state;
    left = left;
    tail = tail;
    enters = enters;
    goes = goes;
    leaves = (passes m p (slice_get m.env.instrs (place + 1)) state left goes).accepted;
    rest = is;
    are = sym (some_is e);
  }

  by_left : (state : State) (left : Option State) → passed m p (slice_get m.env.instrs (place + 1)) state ≡ left → entered m place p.0 s ≡ Some state
      → ((left >>= λ l. let both : MapFrame × State = (held p.0 state, l) in Some both) >>= λ x. later x.1 >>= λ fs. Some (x.0 ∷ fs)) ≡ Some frames
      → First m place p s frames
  by_left state None is enters e = absurd cc
  by_left state (Some left) is enters e = by_rest state left (later left) refl enters is e

  by_state : (state : Option State) → entered m place p.0 s ≡ state
      → ((state >>= λ x. passed m p (slice_get m.env.instrs (place + 1)) x >>= λ l. let both : MapFrame × State = (held p.0 x, l) in Some both)
      >>= λ x. later x.1 >>= λ fs. Some (x.0 ∷ fs)) ≡ Some frames → First m place p s frames
  by_state None is e = absurd cc
  by_state (Some state) is e = by_left state (passed m p (slice_get m.env.instrs (place + 1)) state) refl is e

  pub first_of : slice_get m.env.instrs place ≡ Some p → typed_from m place (drop place m.env.instrs) s ≡ Some frames → First m place p s frames
  first_of here e =
      by_state (entered m place p.0 s) refl
      (ap (λ (ps : List (ℕ × Instr)). typed_from m place ps s) (sym (drop_here m.env.instrs place p here)) ∙ e)
