-- The answer to the type check is that of the specification's type checker.
use Rattle.std.proofs.Common.{◌≡◌, ◌∙◌, ◌<◌, ◌≤◌, ◌+◌, ◌⊎◌, inl, inr, ℕ, zero, suc, Bool, true, false, not, ◌&&◌, List, [], ◌∷◌, ◌++◌, length, drop, Option, Some, None, refl, sym, ap, subst, arith}
use Rattle.std.specs.Prelude.{slice_get, is_some, ◌||◌}
use Rattle.std.proofs.lemmas.Bool.{cases_lt}
use Rattle.ti_ids.specs.Maybe.{◌>>=◌}
use Rattle.class_code.specs.declared.instr.Instr.{Instr}
use Rattle.class_tree.specs.declared.body.Code.{Code}
use Rattle.class_tree.specs.declared.members.Member.{Member}
use Rattle.class_tree.specs.Trees.{Tree}
use Rattle.class_tree.specs.Tree.{code_of}
use Rattle.type_frames.specs.declared.frame.MapFrame.{MapFrame}
use Rattle.type_frames.specs.Hierarchies.{Known}
use Rattle.type_frames.specs.States.{State}
use Rattle.type_frames.specs.TypeChecks.{Checked, initial, checked, map_in, is_bad_map, offends_at_once, AreStates, ChecksIn, Passes, ClassPasses}
use Rattle.type_frames.specs.Walking.{Walked}
use Rattle.type_frames.specs.TypeStates.{typed_from}
use Rattle.type_frames.specs.Answering.{instructions_pass, code_passes, method_passes, place_passes, passes_below, class_passes}
use Rattle.type_frames.specs.Laws.{ChecksTypes}
use Rattle.type_frames.proofs.Reached.{walked_more, walked_none, walked_all}
use Rattle.type_frames.proofs.TypeStates.{first_of, begins, typed_begun}

slice_get_none : {A : Type 0} (xs : List A) (k : ℕ) → slice_get xs k ≡ None → length xs ≤ k
slice_get_none [] k e = omega arith
slice_get_none (x ∷ xs) zero e = absurd cc
slice_get_none (x ∷ xs) (suc k) e = let more = slice_get_none xs k e in omega (arith, more)

-- ---- states that are found are states that fit

module _ (m : Checked) where
  next_by : (n place : ℕ) (states : List State) (s : State) (frames : List MapFrame) (there : Option (ℕ × Instr))
      → slice_get m.env.instrs place ≡ there → place < length m.env.instrs → Walked m states place s
      → typed_from m place (drop place m.env.instrs) s ≡ Some frames
      → ((states : List State) (s : State) (frames : List MapFrame) → Walked m states (place + 1) s
      → typed_from m (place + 1) (drop (place + 1) m.env.instrs) s ≡ Some frames → (states : List State) × AreStates m states)
      → (states : List State) × AreStates m states
  next_by n place states s frames None is within w e more = absurd (omega (arith, within, slice_get_none m.env.instrs place is))
  next_by n place states s frames (Some p) is within w e more =
      let g = first_of m place p s frames is e in
      more (states ++ g.state ∷ []) g.left g.tail (walked_more m states place s g.state g.left p w is g.enters g.goes) g.rest

  found_from : (n place : ℕ) (states : List State) (s : State) (frames : List MapFrame) → place + n ≡ length m.env.instrs → Walked m states place s
      → typed_from m place (drop place m.env.instrs) s ≡ Some frames → (states : List State) × AreStates m states
  found_from zero place states s frames all w e =
      let same : place ≡ length m.env.instrs = omega (arith, all) in
      (states, walked_all m states s (subst (λ (k : ℕ). Walked m states k s) same w))
  found_from (suc n) place states s frames all w e =
      next_by n place states s frames (slice_get m.env.instrs place) refl (omega (arith, all)) w e
      (λ states s frames w e. found_from n (place + 1) states s frames (omega (arith, all)) w e)

  begun_by : (start : Option State) → initial m ≡ start → is_some (start >>= λ s. typed_from m 0 m.env.instrs s) ≡ true
      → (states : List State) × AreStates m states
  begun_by None is e = absurd cc
  begun_by (Some s) is e = with_frames (typed_from m 0 m.env.instrs s) refl e
    where
      with_frames : (frames : Option (List MapFrame)) → typed_from m 0 m.env.instrs s ≡ frames → is_some frames ≡ true
          → (states : List State) × AreStates m states
      with_frames None found e = absurd cc
      with_frames (Some frames) found e = found_from (length m.env.instrs) 0 [] s frames (omega arith) (walked_none m s is) found

  none_are : m.env.instrs ≡ [] → AreStates m []
  none_are e =
      let none : length m.env.instrs ≡ 0 = ap (λ (ps : List (ℕ × Instr)). length ps) e in
      record { count = sym none; fit = λ place lt. absurd (omega (arith, lt)) }

  pub found_states : (instrs : List (ℕ × Instr)) → m.env.instrs ≡ instrs → instructions_pass m instrs ≡ true
      → (states : List State) × AreStates m states
  found_states [] is e = ([], none_are is)
  found_states (p ∷ instrs) is e = begun_by (initial m) refl e

  some_of : (start : Option State) (frames : List MapFrame) → initial m ≡ start
      → ((s : State) → start ≡ Some s → typed_from m 0 m.env.instrs s ≡ Some frames) → (i : State) × (start ≡ Some i)
      → is_some (start >>= λ s. typed_from m 0 m.env.instrs s) ≡ true
  some_of None frames is all has = absurd (let no : None ≡ Some has.0 = has.1 in cc)
  some_of (Some s) frames is all has = ap (λ (o : Option (List MapFrame)). is_some o) (all s refl)

  pub states_found : (instrs : List (ℕ × Instr)) → m.env.instrs ≡ instrs → (states : List State) → AreStates m states
      → instructions_pass m instrs ≡ true
  states_found [] is states are = refl
  states_found (p ∷ instrs) is states are =
      let count = ap (λ (ps : List (ℕ × Instr)). length ps) is in
      let b = begins m states are (omega (arith, count)) in
      let all : typed_from m 0 m.env.instrs b.0 ≡ Some _ = typed_begun m states are b.0 b.1 in
      ap (λ (o : Option State). is_some (o >>= λ s. typed_from m 0 m.env.instrs s)) b.1 ∙ ap (λ (o : Option (List MapFrame)). is_some o) all

-- ---- methods

both : (a b : Bool) → (a && b) ≡ true → (a ≡ true) × (b ≡ true)
both true b e = (refl, e)
both false b e = absurd cc

and_both : (a b : Bool) → a ≡ true → b ≡ true → (a && b) ≡ true
and_both true b e h = h
and_both false b e h = absurd cc

neither : (a b : Bool) → not a ≡ true → not b ≡ true → not (a || b) ≡ true
neither true b e h = absurd cc
neither false b e h = h

first_not : (a b : Bool) → not (a || b) ≡ true → not a ≡ true
first_not true b e = absurd cc
first_not false b e = refl

second_not : (a b : Bool) → not (a || b) ≡ true → not b ≡ true
second_not true b e = absurd cc
second_not false b e = e

module _ (h : Known) (t : Tree) (place : ℕ) (m : Member) where
  checks_so : (has : Option Code) → not (offends_at_once h t place m) ≡ true → code_passes h t m has ≡ true
      → (states : List State) × ChecksIn h t place m has states
  checks_so None free e = ([], (refl, free))
  checks_so (Some code) free e =
      let parts = both (not (is_bad_map (map_in t m code))) _ e in
      let found = found_states (checked h t m code) (checked h t m code).env.instrs refl parts.1 in
      (found.0, (neither (offends_at_once h t place m) (is_bad_map (map_in t m code)) free parts.0, found.1))

  passes_so : (has : Option Code) (states : List State) → ChecksIn h t place m has states
      → (not (offends_at_once h t place m) ≡ true) × (code_passes h t m has ≡ true)
  passes_so None states c = (c.1, refl)
  passes_so (Some code) states c = (
    first_not (offends_at_once h t place m) (is_bad_map (map_in t m code)) c.0,
    and_both (not (is_bad_map (map_in t m code))) _ (second_not (offends_at_once h t place m) (is_bad_map (map_in t m code)) c.0)
        (states_found (checked h t m code) (checked h t m code).env.instrs refl states c.1),
  )

  pub method_checks : slice_get t.methods place ≡ Some m → method_passes h t place m ≡ true → Passes h t place
  method_checks there e =
      let parts = both (not (offends_at_once h t place m)) _ e in
      let c = checks_so (code_of m.attrs) parts.0 parts.1 in (c.0, (m, there, c.1))

  pub checks_method : (states : List State) → ChecksIn h t place m (code_of m.attrs) states → method_passes h t place m ≡ true
  checks_method states c = let parts = passes_so (code_of m.attrs) states c in and_both (not (offends_at_once h t place m)) _ parts.0 parts.1

-- ---- classes

module _ (h : Known) (t : Tree) where
  place_checks : (place : ℕ) (there : Option Member) → slice_get t.methods place ≡ there → place < length t.methods
      → place_passes h t place there ≡ true → Passes h t place
  place_checks place None is within e = absurd (omega (arith, within, slice_get_none t.methods place is))
  place_checks place (Some m) is within e = method_checks h t place m is e

  checks_place : (place : ℕ) (there : Option Member) → slice_get t.methods place ≡ there → Passes h t place → place_passes h t place there ≡ true
  checks_place place None is p = refl
  checks_place place (Some m) is p =
      let same : p.1.0 ≡ m = (let eq : Some p.1.0 ≡ Some m = sym p.1.1 ∙ is in cc) in
      checks_method h t place m p.0 (subst (λ (x : Member). ChecksIn h t place x (code_of x.attrs) p.0) same p.1.2)

  all_below : (n : ℕ) → n ≤ length t.methods → passes_below h t n ≡ true → (place : ℕ) → place < n → Passes h t place
  all_below zero le e place lt = absurd (omega (arith, lt))
  all_below (suc n) le e place lt =
      let parts = both (passes_below h t n) _ e in
      elim (cases_lt place n) as (λ (x : (place < n) ⊎ (n ≤ place)). Passes h t place) [
        | inl below ↦ all_below n (omega (arith, le)) parts.0 place below
        | inr not_below ↦ subst (λ (k : ℕ). Passes h t k) (let same : n ≡ place = omega (arith, lt, not_below) in same)
            (place_checks n (slice_get t.methods n) refl (omega (arith, le)) parts.1)
      ]

  below_all : (n : ℕ) → n ≤ length t.methods → ((place : ℕ) → place < n → Passes h t place) → passes_below h t n ≡ true
  below_all zero le all = refl
  below_all (suc n) le all =
      and_both (passes_below h t n) _ (below_all n (omega (arith, le)) (λ place lt. all place (omega (arith, lt))))
      (checks_place n (slice_get t.methods n) refl (all n (omega arith)))

  pub class_checks : class_passes h t ≡ true → ClassPasses h t
  class_checks e place lt = all_below (length t.methods) (omega arith) e place lt

  pub checks_class : ClassPasses h t → class_passes h t ≡ true
  checks_class all = below_all (length t.methods) (omega arith) all

pub checks_types : ChecksTypes
checks_types h t = (class_checks h t, checks_class h t)
