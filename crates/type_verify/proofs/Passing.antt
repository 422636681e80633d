-- The methods of a class that pass their type checks, gone through again: the states that are found are their type states.
use Rattle.std.proofs.Common.{◌≡◌, ℕ, zero, suc, ◌<◌, ◌∙◌, Bool, true, false, not, List, [], ◌∷◌, length, Option, Some, None, refl, sym, ap, subst, arith}
use Rattle.std.specs.Prelude.{slice_get, ◌||◌, IsTrue, option_map, unwrap_or}
use Rattle.std.proofs.lemmas.List.{length-map}
use Rattle.std.proofs.lemmas.Option.{slice_get_within, slice_get-map, slice_get-get_or}
use Rattle.ti_ids.specs.Maybe.{◌>>=◌}
use Rattle.class_tree.specs.declared.body.Code.{Code}
use Rattle.class_tree.specs.declared.members.Member.{Member}
use Rattle.class_tree.specs.Trees.{Tree}
use Rattle.class_tree.specs.Tree.{code_of}
use Rattle.class_tree.specs.WellFormed.{is_well_formed}
use Rattle.type_frames.specs.declared.frame.MapFrame.{MapFrame}
use Rattle.type_frames.specs.Hierarchies.{Known}
use Rattle.type_frames.specs.States.{State}
use Rattle.type_frames.specs.TypeChecks.{Checked, initial, AreStates, is_bad_map, map_in, checked, offends_at_once, ChecksIn, TypeChecks, Passes, ClassPasses}
use Rattle.type_frames.specs.TypeStates.{held_at, typed_from, typed}
use Rattle.type_frames.proofs.Formed.{method_code}
use Rattle.type_frames.proofs.StateLaws.{some_is}
use Rattle.type_frames.proofs.TypeStates.{typed_begun, typed_frames}
use Rattle.type_verify.specs.Typing.{code_at, instrs_of, IsTyped, IsEntryTyped, IsClassTyped}
use Rattle.type_verify.specs.Recomputing.{entry_of, frames_at, entries_of, CodePasses, AllPass, IsCodeAt}

-- ---- methods by their places

not_or : (a b : Bool) → IsTrue (not (a || b)) → b ≡ false
not_or true b e = absurd cc
not_or false true e = absurd cc
not_or false false e = refl

pub code_is : (t : Tree) (place : ℕ) (m : Member) (code : Code) → is_well_formed t ≡ true → slice_get t.methods place ≡ Some m
    → code_of m.attrs ≡ Some code → IsCodeAt t place m code
code_is t place m code formed there has = record { there = there; has = has; formed = method_code t place m code formed there has }

pub code_is_none : (t : Tree) (place : ℕ) (m : Member) → slice_get t.methods place ≡ Some m → code_of m.attrs ≡ None → code_at t place ≡ None
code_is_none t place m there none = ap (λ (o : Option Member). o >>= λ x. code_of x.attrs) there ∙ none

-- a code that is gone through again from the state with which it begins
module _ (m n : Checked) (s : State) (same : n ≡ m) (begun : initial m ≡ Some s) where
  pub begun_passes : (states : List State) → AreStates m states → AllPass n s
  begun_passes states are =
      let all : (k : Checked) → m ≡ k → typed_from k 0 k.env.instrs s ≡ Some (held_at m.env.instrs states) =
      λ k e. subst (λ (x : Checked). typed_from x 0 x.env.instrs s ≡ Some (held_at m.env.instrs states)) e (typed_begun m states are s begun) in
      (held_at m.env.instrs states, all n (sym same))

  pub typed_again : typed_from n 0 n.env.instrs s ≡ typed m
  typed_again =
      ap (λ (k : Checked). typed_from k 0 k.env.instrs s) same
      ∙ sym (ap (λ (o : Option State). o >>= λ x. typed_from m 0 m.env.instrs x) begun)

module _ (h : Known) (t : Tree) where
  -- a place of a method
  pub entry_within : (entries : List (Option (List MapFrame))) (place : ℕ) → entries_of h t ≡ entries → place < length entries
      → place < length t.methods
  entry_within entries place view lt =
      let count = ap (λ (es : List (Option (List MapFrame))). length es) view in
      let all = length-map t.methods (entry_of h t) in
      omega arith

  abbrev of_code : Member → Option Code → Option (List MapFrame)
  of_code m code = option_map (λ c. unwrap_or (typed (checked h t m c)) []) code

  module _ (place : ℕ) where
    frames_with : (m : Member) (code : Option Code) (states : List State) → ChecksIn h t place m code states
        → unwrap_or (of_code m code) [] ≡ held_at (instrs_of code) states
    frames_with m None states checks = refl
    frames_with m (Some code) states checks = typed_frames (checked h t m code) states checks.1 (checked h t m code).env.instrs refl

    are_found : (states : List State) → TypeChecks h t place states → frames_at h t place ≡ held_at (instrs_of (code_at t place)) states
    are_found states checks =
        ap (λ (o : Option Member). unwrap_or (o >>= entry_of h t) []) checks.1 ∙ frames_with checks.0 (code_of checks.0.attrs) states checks.2
        ∙ sym (ap (λ (o : Option Member). held_at (instrs_of (o >>= λ m. code_of m.attrs)) states) checks.1)

    pub passes_typed : Passes h t place → IsTyped h t place (frames_at h t place)
    passes_typed p = record { states = p.0; checks = p.1; are = are_found p.0 p.1 }

    -- there are no others
    pub typed_only : (frames : List MapFrame) → IsTyped h t place frames → frames ≡ frames_at h t place
    typed_only frames is = is.are ∙ sym (are_found is.states is.checks)

    none_with : (o : Option Member) → (o >>= λ m. code_of m.attrs) ≡ None → unwrap_or (o >>= entry_of h t) [] ≡ []
    none_with None e = refl
    none_with (Some m) e = ap (λ (code : Option Code). unwrap_or (of_code m code) []) e

    pub frames_none : code_at t place ≡ None → frames_at h t place ≡ []
    frames_none e = none_with (slice_get t.methods place) e

    entry_none_with : (o : Option Member) → slice_get t.methods place ≡ o → place < length t.methods → (o >>= λ m. code_of m.attrs) ≡ None
        → option_map (entry_of h t) o ≡ Some None
    entry_none_with None is lt e = absurd (let there = slice_get-get_or t.methods place in none_there t.methods place lt is)
      where
        none_there : (ms : List Member) (k : ℕ) → k < length ms → slice_get ms k ≡ None → ⊥
        none_there [] k lt e = omega arith
        none_there (x ∷ ms) zero lt e = cc
        none_there (x ∷ ms) (suc k) lt e = none_there ms k (omega arith) e
    entry_none_with (Some m) is lt e = ap (λ (code : Option Code). Some (of_code m code)) e

    pub entry_none : place < length t.methods → code_at t place ≡ None → slice_get (entries_of h t) place ≡ Some None
    entry_none lt e = slice_get-map (entry_of h t) t.methods place ∙ entry_none_with (slice_get t.methods place) refl lt e

    module _ (m : Member) (code : Code) (is : IsCodeAt t place m code) where
      pub frames_are : unwrap_or (typed (checked h t m code)) [] ≡ frames_at h t place
      frames_are = sym
          (ap (λ (o : Option Member). unwrap_or (o >>= entry_of h t) []) is.there ∙ ap (λ (c : Option Code). unwrap_or (of_code m c) []) is.has)

      pub entry_some : slice_get (entries_of h t) place ≡ Some (Some (frames_at h t place))
      entry_some =
          slice_get-map (entry_of h t) t.methods place ∙ ap (option_map (entry_of h t)) is.there ∙ ap (λ (c : Option Code). Some (of_code m c)) is.has
          ∙ ap (λ (fs : List MapFrame). Some (Some fs)) frames_are

      checks_with : (n : Member) (states : List State) → slice_get t.methods place ≡ Some n → ChecksIn h t place n (code_of n.attrs) states
          → ChecksIn h t place m (Some code) states
      checks_with n states there checks =
          let same : n ≡ m = some_is (sym there ∙ is.there) in
          subst (λ (c : Option Code). ChecksIn h t place m c states) is.has
          (subst (λ (x : Member). ChecksIn h t place x (code_of x.attrs) states) same checks)

      pub code_passes : (frames : List MapFrame) → IsTyped h t place frames → CodePasses h t m code
      code_passes frames typed =
          let checks = checks_with typed.checks.0 typed.states typed.checks.1 typed.checks.2 in
          (not_or (offends_at_once h t place m) (is_bad_map (map_in t m code)) checks.0, (typed.states, checks.1))

  -- ---- a class

  module _ (passes : ClassPasses h t) where
    entry_with : (place : ℕ) (m : Member) (code : Option Code) → slice_get t.methods place ≡ Some m → code_of m.attrs ≡ code
        → IsEntryTyped h t place (of_code m code)
    entry_with place m None there has =
        (passes place (slice_get_within t.methods place m there), ap (λ (o : Option Member). o >>= λ x. code_of x.attrs) there ∙ has)
    entry_with place m (Some code) there has =
        let is : frames_at h t place ≡ unwrap_or (typed (checked h t m code)) [] =
        ap (λ (o : Option Member). unwrap_or (o >>= entry_of h t) []) there ∙ ap (λ (c : Option Code). unwrap_or (of_code m c) []) has in
        let some : code_at t place ≡ Some code = ap (λ (o : Option Member). o >>= λ x. code_of x.attrs) there ∙ has in (
          subst (λ (fs : List MapFrame). IsTyped h t place fs) is (passes_typed place (passes place (slice_get_within t.methods place m there))),
          λ none. cc,
        )

    entry_by : (place : ℕ) (frames : Option (List MapFrame)) (o : Option Member) → slice_get t.methods place ≡ o
        → option_map (entry_of h t) o ≡ Some frames → IsEntryTyped h t place frames
    entry_by place frames None there e = absurd cc
    entry_by place frames (Some m) there e =
        subst (λ (fs : Option (List MapFrame)). IsEntryTyped h t place fs) (some_is e) (entry_with place m (code_of m.attrs) there refl)

    pub class_typed : IsClassTyped h t (entries_of h t)
    class_typed = record {
      count = length-map t.methods (entry_of h t);
      each = λ place frames e. entry_by place frames (slice_get t.methods place) refl (sym (slice_get-map (entry_of h t) t.methods place) ∙ e);
    }
