-- Lists of type states that fit agree: each state is given, or follows from the one before.
use Rattle.std.proofs.Common.{◌≡◌, ℕ, zero, suc, ◌≤◌, ◌∙◌, List, Option, Some, None, sym, ap, subst, arith}
use Rattle.std.specs.Prelude.{slice_get}
use Rattle.std.specs.Option.{option_map_or}
use Rattle.ti_ids.specs.Maybe.{◌>>=◌}
use Rattle.class_code.specs.declared.instr.Instr.{Instr}
use Rattle.type_frames.specs.States.{State}
use Rattle.type_frames.specs.Rules.{rule}
use Rattle.type_frames.specs.TypeChecks.{Checked, mapped, IsFirst, IsLater, left_at, FitsAt, FitsUpTo}

pub some_is : {A : Type 0} {x y : A} → Some x ≡ Some y → x ≡ y
some_is e = cc

-- two instructions of one place begin at one offset
pub offset_is : (p q : ℕ × Instr) → Some p ≡ Some q → p.0 ≡ q.0
offset_is p q e = ap (λ (o : Option (ℕ × Instr)). option_map_or (λ (x : ℕ × Instr). x.0) o 0) e

module _ (m : Checked) where
  first_is : (s r : State) (given : Option State) → IsFirst m s given → IsFirst m r given → s ≡ r
  first_is s r None a b = some_is (sym a ∙ b)
  first_is s r (Some given) a b = a.0 ∙ sym b.0

  left_is : (states others : List State) (before : ℕ) → slice_get states before ≡ slice_get others before → left_at m states before ≡ left_at m others before
  left_is states others before same = ap (λ (s : Option State). slice_get m.env.instrs before >>= λ p. s >>= rule m.env p.0 p.1) same

  later_is : (states others : List State) (before : ℕ) (s r : State) (given : Option State) → slice_get states before ≡ slice_get others before
      → IsLater m states before s given → IsLater m others before r given → s ≡ r
  later_is states others before s r None same a b = some_is (sym a ∙ left_is states others before same ∙ b)
  later_is states others before s r (Some given) same a b = a ∙ sym b

  -- both have the state that is one
  module _ (states others : List State) (k : ℕ) (f : FitsAt m states k) (g : FitsAt m others k) where
    there : g.at ≡ f.at
    there = offset_is (g.at, g.instr) (f.at, f.instr) (sym g.is_instr ∙ f.is_instr)

    same_state : f.state ≡ g.state → slice_get states k ≡ slice_get others k
    same_state e = f.is_state ∙ ap Some e ∙ sym g.is_state

  pub agree : (states others : List State) (place : ℕ) → FitsUpTo m states place → FitsUpTo m others place → (k : ℕ) → k ≤ place → slice_get states k ≡ slice_get others k
  agree states others place fits gits zero le =
      let f = fits zero le in
      let g = gits zero le in
      same_state states others zero f g
      (first_is f.state g.state (mapped m f.at) f.given (subst (λ (at : ℕ). IsFirst m g.state (mapped m at)) (there states others zero f g) g.given))
  agree states others place fits gits (suc k) le =
      let f = fits (suc k) le in
      let g = gits (suc k) le in
      same_state states others (suc k) f g
      (later_is states others k f.state g.state (mapped m f.at) (agree states others place fits gits k (omega arith)) f.given
      (subst (λ (at : ℕ). IsLater m others k g.state (mapped m at)) (there states others (suc k) f g) g.given))
