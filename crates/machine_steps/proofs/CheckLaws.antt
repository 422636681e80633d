-- A class passes its type check or fails at one place: its methods are gone through, and the code of each, until something fails.
use Rattle.std.proofs.Common.{◌≡◌, ◌∙◌, ◌<◌, ◌≤◌, ◌+◌, ◌⊎◌, inl, inr, ℕ, zero, suc, Bool, true, false, not, List, [], ◌∷◌, ◌++◌, length, Option, Some, None, refl, sym, ap, subst, arith}
use Rattle.std.specs.Prelude.{slice_get, IsTrue, ◌||◌}
use Rattle.std.proofs.lemmas.Bool.{cases_lt}
use Rattle.class_code.specs.declared.instr.Instr.{Instr}
use Rattle.class_tree.specs.declared.body.Code.{Code}
use Rattle.class_tree.specs.declared.members.Member.{Member}
use Rattle.class_tree.specs.Trees.{Tree}
use Rattle.class_tree.specs.Tree.{code_of}
use Rattle.type_frames.specs.Hierarchies.{Known}
use Rattle.type_frames.specs.States.{State}
use Rattle.type_frames.specs.TypeChecks.{Checked, initial, checked, map_in, is_bad_map, offends_at_once, AreStates, IsOffending, IsOffendingIn, FailsIn, Fails, ChecksIn, Passes, ClassPasses, ClassFails}
use Rattle.type_frames.specs.Walking.{entered, stepped, Walked}
use Rattle.type_frames.proofs.Reached.{walked_none, walked_more, walked_all, step_of, offends_by, offends_at_first}
use Rattle.type_frames.proofs.Answering.{found_states}
use Rattle.type_frames.proofs.MethodLaws.{one_fault}
use Rattle.machine_steps.specs.CheckLaws.{FailsAtOnePlace, PassesOrFails}

within_none : {A : Type 0} (xs : List A) (k : ℕ) → k < length xs → slice_get xs k ≡ None → ⊥
within_none [] k lt e = omega (arith, lt)
within_none (x ∷ xs) zero lt e = cc
within_none (x ∷ xs) (suc k) lt e = within_none xs k (omega (arith, lt)) e

-- ---- the instructions of a method

module _ (m : Checked) where
  abbrev Decided : Type 0
  Decided = ((states : List State) × AreStates m states) ⊎ ((offset : ℕ) × IsOffending m offset)

  -- the instruction at a place passes, or offends
  decided_here : (place : ℕ) (states : List State) (s : State) (p : ℕ × Instr) (left : Option State) → Walked m states place s
      → slice_get m.env.instrs place ≡ Some p → stepped m place p (slice_get m.env.instrs (place + 1)) s ≡ left
      → ((states : List State) (s : State) → Walked m states (place + 1) s → Decided) → Decided
  decided_here place states s p None w here e more = inr (p.0, offends_by m states place s p (entered m place p.0 s) w here refl e)
  decided_here place states s p (Some left) w here e more =
      let step = step_of m place p (slice_get m.env.instrs (place + 1)) s left e in
      more (states ++ step.state ∷ []) left (walked_more m states place s step.state left p w here step.enters step.passes)

  decided_at : (place : ℕ) (states : List State) (s : State) (there : Option (ℕ × Instr)) → Walked m states place s → place < length m.env.instrs
      → slice_get m.env.instrs place ≡ there → ((states : List State) (s : State) → Walked m states (place + 1) s → Decided) → Decided
  decided_at place states s None w lt is more = absurd (within_none m.env.instrs place lt is)
  decided_at place states s (Some p) w lt is more =
      decided_here place states s p (stepped m place p (slice_get m.env.instrs (place + 1)) s) w is refl more

  decided_from : (n place : ℕ) (states : List State) (s : State) → place + n ≡ length m.env.instrs → Walked m states place s → Decided
  decided_from zero place states s all w =
      let same : place ≡ length m.env.instrs = omega (arith, all) in
      inl (states, walked_all m states s (subst (λ (k : ℕ). Walked m states k s) same w))
  decided_from (suc n) place states s all w =
      decided_at place states s (slice_get m.env.instrs place) w (omega (arith, all)) refl
      (λ states s w. decided_from n (place + 1) states s (omega (arith, all)) w)

  begun_decided : (p : ℕ × Instr) (start : Option State) → slice_get m.env.instrs 0 ≡ Some p → initial m ≡ start → Decided
  begun_decided p None here is = inr (p.0, offends_at_first m p here is)
  begun_decided p (Some s) here is = decided_from (length m.env.instrs) 0 [] s (omega arith) (walked_none m s is)

  code_decided : (instrs : List (ℕ × Instr)) → m.env.instrs ≡ instrs → Decided
  code_decided [] is = inl (found_states m [] is refl)
  code_decided (p ∷ instrs) is = begun_decided p (initial m) (ap (λ (ps : List (ℕ × Instr)). slice_get ps 0) is) refl

-- ---- a method

or_false : (a b : Bool) → a ≡ false → b ≡ false → (a || b) ≡ false
or_false true b e h = absurd cc
or_false false b e h = h

or_first : (a b : Bool) → a ≡ true → (a || b) ≡ true
or_first true b e = refl
or_first false b e = absurd cc

or_second : (a b : Bool) → b ≡ true → (a || b) ≡ true
or_second true b e = refl
or_second false b e = e

module _ (h : Known) (t : Tree) (place : ℕ) (m : Member) where
  abbrev MethodDecided : Option Code → Type 0
  MethodDecided has = ((states : List State) × ChecksIn h t place m has states) ⊎ ((offset : ℕ) × FailsIn h t place m has offset)

  abbrev bad : Code → Bool
  bad code = is_bad_map (map_in t m code)

  at_once : (code : Code) → (offends_at_once h t place m || bad code) ≡ true → FailsIn h t place m (Some code) 0
  at_once code e = subst (λ (b : Bool). IsOffendingIn b (checked h t m code) 0) (sym e) refl

  later : (code : Code) → (offends_at_once h t place m || bad code) ≡ false → Decided (checked h t m code) → MethodDecided (Some code)
  later code e (inl found) = inl (found.0, (ap not e, found.1))
  later code e (inr offends) = inr (offends.0, subst (λ (b : Bool). IsOffendingIn b (checked h t m code) offends.0) (sym e) offends.1)

  with_code : (code : Code) (offends : Bool) → (offends_at_once h t place m || bad code) ≡ offends → MethodDecided (Some code)
  with_code code true e = inr (0, at_once code e)
  with_code code false e = later code e (code_decided (checked h t m code) (checked h t m code).env.instrs refl)

  without_code : (offends : Bool) → offends_at_once h t place m ≡ offends → MethodDecided None
  without_code true e = inr (0, (refl, e))
  without_code false e = inl ([], (refl, ap not e))

  method_decided : (has : Option Code) → MethodDecided has
  method_decided None = without_code (offends_at_once h t place m) refl
  method_decided (Some code) = with_code code (offends_at_once h t place m || bad code) refl

-- ---- a class

module _ (h : Known) (t : Tree) where
  abbrev PlaceDecided : ℕ → Type 0
  PlaceDecided place = Passes h t place ⊎ ((offset : ℕ) × Fails h t place offset)

  with_method : (place : ℕ) (m : Member) → slice_get t.methods place ≡ Some m → MethodDecided h t place m (code_of m.attrs) → PlaceDecided place
  with_method place m there (inl checks) = inl (checks.0, (m, there, checks.1))
  with_method place m there (inr fails) = inr (fails.0, (m, there, fails.1))

  place_decided : (place : ℕ) (there : Option Member) → place < length t.methods → slice_get t.methods place ≡ there → PlaceDecided place
  place_decided place None lt is = absurd (within_none t.methods place lt is)
  place_decided place (Some m) lt is = with_method place m is (method_decided h t place m (code_of m.attrs))

  abbrev PassBelow : ℕ → Type 0
  PassBelow n = (place : ℕ) → place < n → Passes h t place

  one_more : (n : ℕ) → PassBelow n → Passes h t n → PassBelow (suc n)
  one_more n below here place lt = elim (cases_lt place n) as (λ (x : (place < n) ⊎ (n ≤ place)). Passes h t place) [
    | inl less ↦ below place less
    | inr more ↦ subst (λ (k : ℕ). Passes h t k) (let same : n ≡ place = omega (arith, lt, more) in same) here
  ]

  -- the first method that fails
  first_at : (n : ℕ) → PassBelow n → PlaceDecided n → PassBelow (suc n) ⊎ ((offset : ℕ) × ClassFails h t n offset)
  first_at n below (inl passes) = inl (one_more n below passes)
  first_at n below (inr fails) = inr (fails.0, record { fails = fails.1; earlier = below })

  at_one : (place offset : ℕ) → ClassFails h t place offset → FailsAtOnePlace h t
  at_one place offset fails =
      record { place = place; offset = offset; fails = fails; alone = λ other at also. one_fault h t place offset other at fails also }

  going : (n : ℕ) → PassBelow (suc n) ⊎ ((offset : ℕ) × ClassFails h t n offset) → PassBelow (suc n) ⊎ FailsAtOnePlace h t
  going n (inl below) = inl below
  going n (inr fails) = inr (at_one n fails.0 fails.1)

  on : (n : ℕ) → n < length t.methods → PassBelow n ⊎ FailsAtOnePlace h t → PassBelow (suc n) ⊎ FailsAtOnePlace h t
  on n lt (inl below) = going n (first_at n below (place_decided n (slice_get t.methods n) lt refl))
  on n lt (inr fails) = inr fails

  decided_below : (n : ℕ) → n ≤ length t.methods → PassBelow n ⊎ FailsAtOnePlace h t
  decided_below zero le = inl (λ place lt. absurd (omega (arith, lt)))
  decided_below (suc n) le = on n (omega (arith, le)) (decided_below n (omega (arith, le)))

pub passes_or_fails : PassesOrFails
passes_or_fails h t = decided_below h t (length t.methods) (omega arith)
