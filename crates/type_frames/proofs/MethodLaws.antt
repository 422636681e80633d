-- A method has one offending offset at most, and then it doesn't pass.
use Rattle.std.proofs.Common.{◌≡◌, ℕ, ◌<◌, ◌∙◌, Bool, true, false, not, List, length, Option, Some, None, sym, ap, subst, ⊎_elim, arith}
use Rattle.std.specs.Prelude.{slice_get, IsTrue, ◌||◌}
use Rattle.std.proofs.lemmas.Bool.{cases_lt}
use Rattle.std.proofs.lemmas.Option.{slice_get_within}
use Rattle.class_tree.specs.declared.body.Code.{Code}
use Rattle.class_tree.specs.declared.members.Member.{Member}
use Rattle.class_tree.specs.Trees.{Tree}
use Rattle.class_tree.specs.Tree.{code_of}
use Rattle.type_frames.specs.Hierarchies.{Known}
use Rattle.type_frames.specs.States.{State}
use Rattle.type_frames.specs.TypeChecks.{Checked, checked, map_in, is_bad_map, offends_at_once, AreStates, IsOffending, IsOffendingIn, FailsIn, Fails, ChecksIn, TypeChecks, ClassPasses, ClassFails}
use Rattle.type_frames.proofs.StateLaws.{offset_is}

-- ---- one offset

module _ (m : Checked) (a b : ℕ) (x : IsOffending m a) (y : IsOffending m b) where
  same_place : x.place ≡ y.place → a ≡ b
  same_place e = offset_is (a, x.instr) (b, y.instr) (sym x.is_instr ∙ ap (slice_get m.env.instrs) e ∙ y.is_instr)

  offending_is : a ≡ b
  offending_is =
      ⊎_elim (λ lt. absurd (x.none (y.least x.place lt)))
      (λ le. ⊎_elim (λ gt. absurd (y.none (x.least y.place gt))) (λ ge. same_place (omega arith)) (cases_lt y.place x.place))
      (cases_lt x.place y.place)

offending_in_is : (at_once : Bool) (m : Checked) (a b : ℕ) → IsOffendingIn at_once m a → IsOffendingIn at_once m b → a ≡ b
offending_in_is true m a b x y = x ∙ sym y
offending_in_is false m a b x y = offending_is m a b x y

module _ (h : Known) (t : Tree) (place : ℕ) where
  fails_in_is : (m : Member) (code : Option Code) (a b : ℕ) → FailsIn h t place m code a → FailsIn h t place m code b → a ≡ b
  fails_in_is m None a b x y = x.0 ∙ sym y.0
  fails_in_is m (Some code) a b x y = offending_in_is (offends_at_once h t place m || is_bad_map (map_in t m code)) (checked h t m code) a b x y

  member_is : (m n : Member) → slice_get t.methods place ≡ Some m → slice_get t.methods place ≡ Some n → n ≡ m
  member_is m n e f = cc

pub one_offset : (h : Known) (t : Tree) (place offset other : ℕ) → Fails h t place offset → Fails h t place other → offset ≡ other
one_offset h t place a b x y =
    fails_in_is h t place x.0 (code_of x.0.attrs) a b x.2
    (subst (λ (m : Member). FailsIn h t place m (code_of m.attrs) b) (member_is h t place x.0 y.0 x.1 y.1) y.2)

-- ---- not both

never : (b : Bool) → IsTrue b → IsTrue (not b) → ⊥
never true x y = cc
never false x y = cc

offending_fails : (m : Checked) (offset : ℕ) (states : List State) → IsOffending m offset → AreStates m states → ⊥
offending_fails m offset states x are =
    let within : x.place < length m.env.instrs = slice_get_within m.env.instrs x.place _ x.is_instr in
    let count = are.count in
    x.none (states, λ k le. are.fit k (omega arith))

checked_in : (at_once : Bool) (m : Checked) (offset : ℕ) (states : List State) → IsOffendingIn at_once m offset → IsTrue (not at_once) → AreStates m states → ⊥
checked_in true m offset states x passes are = absurd cc
checked_in false m offset states x passes are = offending_fails m offset states x are

module _ (h : Known) (t : Tree) (place : ℕ) where
  never_in : (m : Member) (code : Option Code) (offset : ℕ) (states : List State) → FailsIn h t place m code offset → ChecksIn h t place m code states → ⊥
  never_in m None offset states x y = never (offends_at_once h t place m) x.1 y.1
  never_in m (Some code) offset states x y = checked_in (offends_at_once h t place m || is_bad_map (map_in t m code)) (checked h t m code) offset states x y.0 y.1

pub not_both : (h : Known) (t : Tree) (place offset : ℕ) (states : List State) → Fails h t place offset → TypeChecks h t place states → ⊥
not_both h t place offset states x y =
    never_in h t place x.0 (code_of x.0.attrs) offset states x.2
    (subst (λ (m : Member). ChecksIn h t place m (code_of m.attrs) states) (member_is h t place x.0 y.0 x.1 y.1) y.2)

-- ---- a class

module _ (h : Known) (t : Tree) where
  first_is : (a b x y : ℕ) → ClassFails h t a x → ClassFails h t b y → a < b → ⊥
  first_is a b x y f g lt = let passes = g.earlier a lt in not_both h t a x passes.0 f.fails passes.1

  same_method : (a b x y : ℕ) → ClassFails h t a x → ClassFails h t b y → a ≡ b
  same_method a b x y f g = ⊎_elim (λ lt. absurd (first_is a b x y f g lt)) (λ le. ⊎_elim (λ gt. absurd (first_is b a y x g f gt)) (λ ge. omega arith) (cases_lt b a)) (cases_lt a b)

pub one_fault : (h : Known) (t : Tree) (place offset other at : ℕ) → ClassFails h t place offset → ClassFails h t other at → (place ≡ other) × (offset ≡ at)
one_fault h t place offset other at f g =
    let same : place ≡ other = same_method h t place other offset at f g in
    (same, one_offset h t other offset at (subst (λ k. Fails h t k offset) same f.fails) g.fails)

pub not_both_of_class : (h : Known) (t : Tree) (place offset : ℕ) → ClassFails h t place offset → ClassPasses h t → ⊥
not_both_of_class h t place offset f passes =
    let within : place < length t.methods = slice_get_within t.methods place f.fails.0 f.fails.1 in
    let passed = passes place within in
    not_both h t place offset passed.0 f.fails passed.1
