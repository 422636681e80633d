-- The array class over a class, by its name.
use Rattle.std.proofs.Common.{◌≡◌, ℕ, ◌∙◌, Bool, true, false, cond, [], ◌∷◌, ◌++◌, Some, refl, sym, ap, arith}
use Rattle.std.specs.Prelude.{bytes_eq, ◌||◌, codes}
use Rattle.std.proofs.lemmas.Slice.Eq.{bytes_eq-Decides}
use Rattle.std.proofs.lemmas.Bool.{eqb-true}
use Rattle.jv_names.specs.Names.{Name}
use Rattle.type_frames.specs.Types.{is_array, array_of, component_class}
use Rattle.type_frames.proofs.Bases.{front_ended}

component_at : (array : Bool) (class : Name) → is_array class ≡ array → component_class (cond array (91 ∷ class) (91 ∷ 76 ∷ class ++ 59 ∷ [])) ≡ Some class
component_at true [] e = absurd cc
component_at true (unit ∷ units) e = let is : unit ≡ 91 = eqb-true unit 91 e in rw is refl
component_at false class e = ap Some (front_ended class 59)

pub component_over : (class : Name) → component_class (array_of class) ≡ Some class
component_over class = component_at (is_array class) class refl

-- it is no array of numbers
second : Name → ℕ
second [] = 0
second (a ∷ []) = 0
second (a ∷ b ∷ rest) = b

second_at : (array : Bool) (class : Name) → is_array class ≡ array → second (cond array (91 ∷ class) (91 ∷ 76 ∷ class ++ 59 ∷ [])) ≡ cond array 91 76
unfolding second
second_at true [] e = absurd cc
second_at true (unit ∷ units) e = eqb-true unit 91 e
second_at false class e = refl

apart_at : (array : Bool) (unit : ℕ) → cond array 91 76 ≡ unit → (unit ≡ 91 → ⊥) → (unit ≡ 76 → ⊥) → ⊥
apart_at true unit e first other = first (sym e)
apart_at false unit e first other = other (sym e)

pub no_numbers : (class : Name) (unit : ℕ) → (unit ≡ 91 → ⊥) → (unit ≡ 76 → ⊥) → bytes_eq (array_of class) (91 ∷ unit ∷ []) ≡ false
unfolding second
no_numbers class unit first other = by (bytes_eq (array_of class) (91 ∷ unit ∷ [])) refl
  where
    by : (same : Bool) → bytes_eq (array_of class) (91 ∷ unit ∷ []) ≡ same → same ≡ false
    by true e = absurd (apart_at (is_array class) unit (sym (second_at (is_array class) class refl) ∙ ap second ((bytes_eq-Decides (array_of class) (91 ∷ unit ∷ [])).0 e)) first other)
    by false e = refl

pub never_small : (class : Name) → (bytes_eq (array_of class) (codes "[B") || bytes_eq (array_of class) (codes "[Z")) ≡ false
never_small class = rw (no_numbers class 66 (λ e. absurd (omega (arith, e))) (λ e. absurd (omega (arith, e))), no_numbers class 90 (λ e. absurd (omega (arith, e))) (λ e. absurd (omega (arith, e)))) refl
