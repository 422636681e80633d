-- One instruction after the other: what passes fits, and what doesn't pass offends.
use Rattle.std.proofs.Common.{◌≡◌, ℕ, zero, suc, ◌+◌, ◌<◌, ◌≤◌, ◌∙◌, Bool, true, false, List, [], ◌∷◌, ◌++◌, length, Option, Some, None, refl, sym, ap, subst, add-one, below_more, arith}
use Rattle.std.specs.Prelude.{slice_get, find, ◌==◌, ◌&&◌, All, unwrap_or, Result, Ok, if◌then◌else◌}
use Rattle.std.specs.Option.{option_map_or}
use Rattle.std.proofs.lemmas.Bool.{and_parts}
use Rattle.std.proofs.lemmas.List.{length-append}
use Rattle.ti_ids.specs.Maybe.{◌>>=◌}
use Rattle.class_code.specs.declared.instr.Instr.{Instr}
use Rattle.type_frames.specs.declared.frame.MapFrame.{MapFrame}
use Rattle.type_frames.specs.States.{State}
use Rattle.type_frames.specs.Rules.{rule, falls_through}
use Rattle.type_frames.specs.TypeChecks.{Checked, initial, mapped, map_frames, state_of, is_state_assignable, may_follow, left_at, IsFirst, IsLater, IsGiven, FitsAt, FitsUpTo, CanFit, AreStates, IsOffending}
use Rattle.type_frames.specs.Walking.{are_handled, are_accepted, goes_on, passed, entered, stepped, IsReached, Walked}
use Rattle.type_frames.proofs.StateLaws.{some_is, agree}
use Rattle.type_frames.proofs.Sizes.{rule_keeps_locals}

-- ---- one state more

slice_get-front : {A : Type 0} (xs ys : List A) (k : ℕ) → k < length xs → slice_get (xs ++ ys) k ≡ slice_get xs k
slice_get-front [] ys k lt = absurd (omega arith)
slice_get-front (x ∷ xs) ys zero lt = refl
slice_get-front (x ∷ xs) ys (suc k) lt = slice_get-front xs ys k (omega arith)

slice_get-end : {A : Type 0} (xs : List A) (x : A) → slice_get (xs ++ x ∷ []) (length xs) ≡ Some x
slice_get-end [] x = refl
slice_get-end (y ∷ xs) x = slice_get-end xs x

module _ (m : Checked) (states : List State) (s : State) where
  abbrev more : List State
  more = states ++ s ∷ []

  given_more : (k at : ℕ) (state : State) → k ≤ length states → IsGiven m states k at state → IsGiven m more k at state
  given_more zero at state lt given = given
  given_more (suc k) at state lt given = later_more (mapped m at) given
    where
      left_more : left_at m more k ≡ left_at m states k
      left_more =
          let same = slice_get-front states (s ∷ []) k (omega arith) in
          ap (λ (x : Option State). slice_get m.env.instrs k >>= λ p. x >>= rule m.env p.0 p.1) same

      later_more : (given : Option State) → IsLater m states k state given → IsLater m more k state given
      later_more None l = left_more ∙ l
      later_more (Some g) l = l

  fits_more : (k : ℕ) → k < length states → FitsAt m states k → FitsAt m more k
  fits_more k lt f = record {
    at = f.at;
    instr = f.instr;
    state = f.state;
    left = f.left;
    is_instr = f.is_instr;
    is_state = slice_get-front states (s ∷ []) k lt ∙ f.is_state;
    given = given_more k f.at f.state (omega arith) f.given;
    accepted = f.accepted;
    followed = f.followed;
    targets = f.targets;
    handlers = f.handlers;
  }

-- ---- an instruction that passes

if_some : {A : Type 0} (b : Bool) (x y : A) → (if b then Some x else None) ≡ Some y → (b ≡ true) × (x ≡ y)
if_some true x y e = (refl, some_is e)
if_some false x y e = absurd cc

if_then : {A : Type 0} (b : Bool) (o : Option A) (y : A) → (if b then o else None) ≡ Some y → (b ≡ true) × (o ≡ Some y)
if_then true o y e = (refl, e)
if_then false o y e = absurd cc

pub record Passes (m : Checked) (p : ℕ × Instr) (next : Option (ℕ × Instr)) (s left : State) : Type 0 where
  pub handlers : are_handled m p.0 s ≡ true
  pub accepted : rule m.env p.0 p.1 s ≡ Some left
  pub followed : may_follow m (falls_through p.1) left next ≡ true
  pub targets : are_accepted m p.0 p.1 left ≡ true

passes_by : (m : Checked) (p : ℕ × Instr) (next : Option (ℕ × Instr)) (s left : State) (ruled : Option State) → rule m.env p.0 p.1 s ≡ ruled
    → are_handled m p.0 s ≡ true → (ruled >>= goes_on m p next) ≡ Some left → Passes m p next s left
passes_by m p next s left None is handled e = absurd cc
passes_by m p next s left (Some l) is handled e =
    let both = if_some (may_follow m (falls_through p.1) l next && are_accepted m p.0 p.1 l) l left e in
    let parts = and_parts (may_follow m (falls_through p.1) l next) (are_accepted m p.0 p.1 l) both.0 in
    record {
      handlers = handled;
      accepted = is ∙ ap Some both.1;
      followed = subst (λ (x : State). may_follow m (falls_through p.1) x next ≡ true) both.1 parts.0;
      targets = subst (λ (x : State). are_accepted m p.0 p.1 x ≡ true) both.1 parts.1;
    }

pub passes : (m : Checked) (p : ℕ × Instr) (next : Option (ℕ × Instr)) (s left : State) → passed m p next s ≡ Some left → Passes m p next s left
passes m p next s left e =
    let both = if_then (are_handled m p.0 s) (rule m.env p.0 p.1 s >>= goes_on m p next) left e in
    passes_by m p next s left (rule m.env p.0 p.1 s) refl both.0 both.1

-- the other way round
pub is_passed : (m : Checked) (p : ℕ × Instr) (next : Option (ℕ × Instr)) (s left : State) → Passes m p next s left → passed m p next s ≡ Some left
is_passed m p next s left is =
    let last : goes_on m p next left ≡ Some left = rw (is.followed, is.targets) refl in
    rw (is.handlers, is.accepted) last

-- ---- the state that it begins with

given_by : (m : Checked) (states : List State) (place at : ℕ) (s state : State) → IsReached m states place s → entered m place at s ≡ Some state
    → IsGiven m states place at state
given_by m states zero at s state reached e = first (mapped m at) e
  where
    first : (given : Option State)
        → (elim given [ None ↦ Some s | Some g ↦ if is_state_assignable m.env.hierarchy s g then Some g else None ]) ≡ Some state
        → IsFirst m state given
    first None e = reached ∙ e
    first (Some g) e =
        let both = if_some (is_state_assignable m.env.hierarchy s g) g state e in
        (sym both.1, rw reached both.0)
given_by m states (suc before) at s state reached e = later (mapped m at) e
  where
    later : (given : Option State) → Some (unwrap_or given s) ≡ Some state → IsLater m states before state given
    later None e = reached ∙ e
    later (Some g) e = sym (some_is e)

-- ---- going on

pub reached_next : (m : Checked) (states : List State) (place : ℕ) (left : State) → left_at m states place ≡ Some left
    → IsReached m states (place + 1) left
reached_next m states place left e = subst (λ (k : ℕ). IsReached m states k left) (sym (add-one place)) e

pub walked_more : (m : Checked) (states : List State) (place : ℕ) (s state left : State) (p : ℕ × Instr) → Walked m states place s
    → slice_get m.env.instrs place ≡ Some p → entered m place p.0 s ≡ Some state
    → passed m p (slice_get m.env.instrs (place + 1)) state ≡ Some left → Walked m (states ++ state ∷ []) (place + 1) left
walked_more m states place s state left p w here enters e =
    let is = passes m p (slice_get m.env.instrs (place + 1)) state left e in
    let count = w.count in
    let there : slice_get (states ++ state ∷ []) place ≡ Some state =
    subst (λ (k : ℕ). slice_get (states ++ state ∷ []) k ≡ Some state) w.count (slice_get-end states state) in
    let this : FitsAt m (states ++ state ∷ []) place = record {
      at = p.0;
      instr = p.1;
      state = state;
      left = left;
      is_instr = here;
      is_state = there;
      given = given_more m states state place p.0 state (omega arith) (given_by m states place p.0 s state w.reached enters);
      accepted = is.accepted;
      followed = is.followed;
      targets = is.targets;
      handlers = is.handlers;
    } in
    let after : left_at m (states ++ state ∷ []) place ≡ Some left =
    ap (λ (x : Option (ℕ × Instr)). x >>= λ q. slice_get (states ++ state ∷ []) place >>= rule m.env q.0 q.1) here
    ∙ ap (λ (x : Option State). x >>= rule m.env p.0 p.1) there ∙ is.accepted in
    record {
      count = length-append states (state ∷ []) ∙ ap (λ n. n + 1) w.count;
      fit = below_more _ _ (λ k lt. fits_more m states state k (omega arith) (w.fit k lt)) this;
      reached = reached_next m (states ++ state ∷ []) place left after;
    }

-- ---- an instruction that doesn't pass

-- both lists have the state that it begins with
module _ (m : Checked) (states others : List State) (s : State) where
  same_below : (place : ℕ) → Walked m states place s → FitsUpTo m others place → (k : ℕ) → k < place → slice_get states k ≡ slice_get others k
  same_below zero w fits k lt = absurd (omega arith)
  same_below (suc before) w fits k lt = agree m states others before (λ j le. w.fit j (omega arith)) (λ j le. fits j (omega arith)) k (omega arith)

  begins_so : (place at : ℕ) (state : State) → Walked m states place s → FitsUpTo m others place → IsGiven m others place at state
      → entered m place at s ≡ Some state
  begins_so zero at state w fits given = first (mapped m at) given
    where
      first : (given : Option State) → IsFirst m state given
          → (elim given [ None ↦ Some s | Some g ↦ if is_state_assignable m.env.hierarchy s g then Some g else None ]) ≡ Some state
      first None i = sym w.reached ∙ i
      first (Some g) i =
          let can : is_state_assignable m.env.hierarchy s g ≡ true =
          subst (λ (x : Option State). option_map_or (λ i. is_state_assignable m.env.hierarchy i g) x false ≡ true) w.reached i.1 in
          rw can (ap Some (sym i.0))
  begins_so (suc before) at state w fits given = later (mapped m at) given
    where
      left_same : left_at m others before ≡ left_at m states before
      left_same =
          let same = same_below (suc before) w fits before (omega arith) in
          ap (λ (x : Option State). slice_get m.env.instrs before >>= λ p. x >>= rule m.env p.0 p.1) (sym same)

      later : (given : Option State) → IsLater m others before state given → Some (unwrap_or given s) ≡ Some state
      later None l = sym w.reached ∙ sym left_same ∙ l
      later (Some g) l = ap Some (sym l)

-- an instruction at a place that some list fits up to
pub record Begins (m : Checked) (place : ℕ) (s : State) (p : ℕ × Instr) : Type 0 where
  pub state : State
  pub left : State
  pub enters : entered m place p.0 s ≡ Some state
  pub goes : passed m p (slice_get m.env.instrs (place + 1)) state ≡ Some left

begun : (m : Checked) (states : List State) (place : ℕ) (s : State) (p : ℕ × Instr) → Walked m states place s → slice_get m.env.instrs place ≡ Some p
    → CanFit m place → Begins m place s p
begun m states place s p w here can =
    let f = can.1 place (omega arith) in
    let same : (f.at, f.instr) ≡ p = some_is (sym f.is_instr ∙ here) in
    let given = f.given in
    record {
      state = f.state;
      left = f.left;
      enters = subst (λ (q : ℕ × Instr). entered m place q.0 s ≡ Some f.state) same (begins_so m states can.0 s place f.at f.state w can.1 given);
      goes = subst (λ (q : ℕ × Instr). passed m q (slice_get m.env.instrs (place + 1)) f.state ≡ Some f.left) same
          (is_passed m (f.at, f.instr) (slice_get m.env.instrs (place + 1)) f.state f.left
          (record { handlers = f.handlers; accepted = f.accepted; followed = f.followed; targets = f.targets }));
    }

offends_where : (m : Checked) (states : List State) (place : ℕ) (s : State) (p : ℕ × Instr) → Walked m states place s
    → slice_get m.env.instrs place ≡ Some p → (Begins m place s p → ⊥) → IsOffending m p.0
offends_where m states place s p w here never = record {
  place = place;
  instr = p.1;
  is_instr = here;
  none = λ can. never (begun m states place s p w here can);
  least = λ k lt. (states, λ j le. w.fit j (omega arith));
}

-- it doesn't begin
pub offends_entering : (m : Checked) (states : List State) (place : ℕ) (s : State) (p : ℕ × Instr) → Walked m states place s
    → slice_get m.env.instrs place ≡ Some p → entered m place p.0 s ≡ None → IsOffending m p.0
offends_entering m states place s p w here none = offends_where m states place s p w here (λ b. absurd (let enters = b.enters in cc))

-- it begins, and doesn't pass
pub offends_passing : (m : Checked) (states : List State) (place : ℕ) (s state : State) (p : ℕ × Instr) → Walked m states place s
    → slice_get m.env.instrs place ≡ Some p → entered m place p.0 s ≡ Some state
    → passed m p (slice_get m.env.instrs (place + 1)) state ≡ None → IsOffending m p.0
offends_passing m states place s state p w here enters none = offends_where m states place s p w here
    (λ b.
    let same : b.state ≡ state = some_is (sym b.enters ∙ enters) in
    let goes : passed m p (slice_get m.env.instrs (place + 1)) state ≡ Some b.left =
    subst (λ (x : State). passed m p (slice_get m.env.instrs (place + 1)) x ≡ Some b.left) same b.goes in
    absurd cc)

-- the descriptor gives no state
pub offends_at_first : (m : Checked) (p : ℕ × Instr) → slice_get m.env.instrs 0 ≡ Some p → initial m ≡ None → IsOffending m p.0
offends_at_first m p here none = record {
  place = 0;
  instr = p.1;
  is_instr = here;
  none = λ can. nothing can.0 (can.1 0 (omega arith));
  least = λ k lt. absurd (omega arith);
}
  where
    nothing : (states : List State) → FitsAt m states 0 → ⊥
    nothing states f = first (mapped m f.at) f.given
      where
        first : (given : Option State) → IsFirst m f.state given → ⊥
        first None i = absurd cc
        first (Some g) i = let holds : option_map_or (λ i. is_state_assignable m.env.hierarchy i g) (initial m) false ≡ true = i.1 in absurd cc

-- ---- the whole

pub walked_none : (m : Checked) (s : State) → initial m ≡ Some s → Walked m [] 0 s
walked_none m s e = record { count = refl; fit = λ k lt. absurd (omega arith); reached = e }

pub walked_all : (m : Checked) (states : List State) (s : State) → Walked m states (length m.env.instrs) s → AreStates m states
walked_all m states s w = let count = w.count in record { count = w.count; fit = λ place lt. w.fit place (omega arith) }

-- ---- one step

pub record Stepped (m : Checked) (place : ℕ) (p : ℕ × Instr) (next : Option (ℕ × Instr)) (s left : State) : Type 0 where
  pub state : State
  pub enters : entered m place p.0 s ≡ Some state
  pub passes : passed m p next state ≡ Some left

step_by : (m : Checked) (place : ℕ) (p : ℕ × Instr) (next : Option (ℕ × Instr)) (s left : State) (state : Option State)
    → entered m place p.0 s ≡ state → (state >>= passed m p next) ≡ Some left → Stepped m place p next s left
step_by m place p next s left None enters e = absurd cc
step_by m place p next s left (Some state) enters e = record { state = state; enters = enters; passes = e }

pub step_of : (m : Checked) (place : ℕ) (p : ℕ × Instr) (next : Option (ℕ × Instr)) (s left : State) → stepped m place p next s ≡ Some left
    → Stepped m place p next s left
step_of m place p next s left e = step_by m place p next s left (entered m place p.0 s) refl e

pub offends_by : (m : Checked) (states : List State) (place : ℕ) (s : State) (p : ℕ × Instr) (state : Option State) → Walked m states place s
    → slice_get m.env.instrs place ≡ Some p → entered m place p.0 s ≡ state
    → (state >>= passed m p (slice_get m.env.instrs (place + 1))) ≡ None → IsOffending m p.0
offends_by m states place s p None w here enters e = offends_entering m states place s p w here enters
offends_by m states place s p (Some state) w here enters e = offends_passing m states place s state p w here enters e

-- ---- room for the local variables

pub passed_room : (m : Checked) (p : ℕ × Instr) (next : Option (ℕ × Instr)) (s left : State) → passed m p next s ≡ Some left
    → length left.locals ≡ length s.locals
passed_room m p next s left e = rule_keeps_locals m.env p.0 p.1 s left (passes m p next s left e).accepted

-- what a map gives has its room
found_room : (frames : List MapFrame) (at : ℕ) (g : State) (room : ℕ) → All (λ f. length f.locals ≡ room) frames
    → (find (λ f. f.at == at) frames >>= λ f. Some (state_of f)) ≡ Some g → length g.locals ≡ room
found_room [] at g room rooms e = absurd cc
found_room (f ∷ frames) at g room rooms e = by (f.at == at) (found_room frames at g room (λ k d lt. rooms (suc k) d (omega arith))) e
  where
    by : (same : Bool) → ((find (λ x. x.at == at) frames >>= λ x. Some (state_of x)) ≡ Some g → length g.locals ≡ room)
        → ((if same then Some f else find (λ x. x.at == at) frames) >>= λ x. Some (state_of x)) ≡ Some g → length g.locals ≡ room
    by true later e = ap (λ (x : State). length x.locals) (sym (some_is e)) ∙ rooms 0 f (omega arith)
    by false later e = later e

abbrev enter_by : Checked → ℕ → State → Option State → Option State
enter_by m zero s given = elim given [ None ↦ Some s | Some g ↦ if is_state_assignable m.env.hierarchy s g then Some g else None ]
enter_by m (suc before) s given = Some (unwrap_or given s)

enter_is : (m : Checked) (place at : ℕ) (s : State) → entered m place at s ≡ enter_by m place s (mapped m at)
enter_is m zero at s = refl
enter_is m (suc before) at s = refl

pub entered_room : (m : Checked) (frames : List MapFrame) (place at : ℕ) (s state : State) → m.map ≡ Ok frames
    → All (λ f. length f.locals ≡ m.max_locals) frames → length s.locals ≡ m.max_locals
    → entered m place at s ≡ Some state → length state.locals ≡ m.max_locals
entered_room m frames place at s state map rooms room e =
    by place (mapped m at) (ap (λ (r : Result (List MapFrame) ℕ). find (λ f. f.at == at) (map_frames r) >>= λ f. Some (state_of f)) map)
    (sym (enter_is m place at s) ∙ e)
  where
    of_map : (given : Option State) → given ≡ (find (λ f. f.at == at) frames >>= λ f. Some (state_of f)) → (g : State) → given ≡ Some g
        → length g.locals ≡ m.max_locals
    of_map given is g there = found_room frames at g m.max_locals rooms (sym is ∙ there)

    by : (place : ℕ) (given : Option State) → given ≡ (find (λ f. f.at == at) frames >>= λ f. Some (state_of f))
        → enter_by m place s given ≡ Some state → length state.locals ≡ m.max_locals
    by zero None is e = ap (λ (x : State). length x.locals) (sym (some_is e)) ∙ room
    by zero (Some g) is e = let both = if_some (is_state_assignable m.env.hierarchy s g) g state e in of_map (Some g) is state (ap Some both.1)
    by (suc before) None is e = ap (λ (x : State). length x.locals) (sym (some_is e)) ∙ room
    by (suc before) (Some g) is e = of_map (Some g) is state e
