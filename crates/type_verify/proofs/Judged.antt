-- What the check of a method's code says of the method.
use Rattle.std.proofs.Common.{◌≡◌, ℕ, Bool, true, false, not, List, [], Option, Some, None, Result, Ok, Err, refl, sym, ap, subst}
use Rattle.std.specs.Prelude.{◌||◌, IsTrue}
use Rattle.class_tree.specs.declared.body.Code.{Code}
use Rattle.class_tree.specs.declared.members.Member.{Member}
use Rattle.class_tree.specs.Trees.{Tree}
use Rattle.class_tree.specs.Tree.{code_of}
use Rattle.type_frames.specs.Hierarchies.{Known}
use Rattle.type_frames.specs.States.{State}
use Rattle.type_frames.specs.TypeChecks.{offends_at_once, is_bad_map, map_in, checked, AreStates, IsOffendingIn, ChecksIn, FailsIn}
use Rattle.type_verify.specs.declared.walk.Halt.{Halt}
use Rattle.type_verify.specs.declared.walk.Halt.TheVariants as halt
use Rattle.type_verify.specs.Outcomes.{IsDecidedIn}
use Rattle.type_verify.specs.Verdicts.{IsJudged}

module _ (h : Known) (t : Tree) (place : ℕ) (m : Member) where
  abbrev bad : Code → Bool
  bad code = is_bad_map (map_in t m code)

  passes_with : (code : Code) (states : List State) → offends_at_once h t place m ≡ false → IsTrue (not (bad code)) → AreStates (checked h t m code) states → ChecksIn h t place m (Some code) states
  passes_with code states free good are = (subst (λ (b : Bool). IsTrue (not (b || bad code))) (sym free) good, are)

  fails_with : (code : Code) (at : ℕ) → offends_at_once h t place m ≡ false → IsOffendingIn (bad code) (checked h t m code) at → FailsIn h t place m (Some code) at
  fails_with code at free d = subst (λ (b : Bool). IsOffendingIn (b || bad code) (checked h t m code) at) (sym free) d

  pub body_judged : {A : Type 0} (code : Code) (r : Result A Halt) → code_of m.attrs ≡ Some code → offends_at_once h t place m ≡ false → IsDecidedIn (is_bad_map (map_in t m code)) (checked h t m code) r → IsJudged h t place m r
  body_judged code (Ok done) is free d = (d.1.0, subst (λ (x : Option Code). ChecksIn h t place m x d.1.0) (sym is) (passes_with code d.1.0 free d.0 d.1.1))
  body_judged code (Err (halt.Offends at)) is free d = subst (λ (x : Option Code). FailsIn h t place m x at) (sym is) (fails_with code at free d)
  body_judged code (Err halt.Memory) is free d = tt

  none_with : offends_at_once h t place m ≡ false → ChecksIn h t place m None []
  none_with free = (refl, ap not free)

  pub none_judged : code_of m.attrs ≡ None → offends_at_once h t place m ≡ false → (states : List State) × ChecksIn h t place m (code_of m.attrs) states
  none_judged is free = ([], subst (λ (x : Option Code). ChecksIn h t place m x []) (sym is) (none_with free))

  offends_with : (has : Option Code) → offends_at_once h t place m ≡ true → FailsIn h t place m has 0
  offends_with None e = (refl, e)
  offends_with (Some code) e = subst (λ (b : Bool). IsOffendingIn (b || bad code) (checked h t m code) 0) (sym e) refl

  pub offending_judged : offends_at_once h t place m ≡ true → FailsIn h t place m (code_of m.attrs) 0
  offending_judged e = offends_with (code_of m.attrs) e
