-- What is computed of assignability is the least relation.
use Rattle.std.proofs.Common.{◌≡◌, ℕ, zero, suc, Bool, true, false, refl, sym, subst, ⊎_elim, inl, inr, eq-eqb, eqb-true}
use Rattle.std.specs.Prelude.{◌||◌, bytes_eq, ◌⊎◌}
use Rattle.std.specs.Bool.{Decides}
use Rattle.std.proofs.lemmas.Slice.Eq.{bytes_eq-Decides}
use Rattle.jv_names.specs.Names.{Name}
use Rattle.type_frames.specs.declared.vtype.VType.{VType}
use Rattle.type_frames.specs.declared.vtype.VType.TheVariants as vtype
use Rattle.type_frames.specs.Types.{Base, Number, Class, dimensions, base_of}
use Rattle.type_frames.specs.Hierarchies.{Known, Same}
use Rattle.type_frames.specs.Assignable.{is_for_all, MayBe, Subclass, ForAll, Numbers, ArrayForClass, Components, base_may_be, array_may_be, may_be, IsAssignable, Itself, ToTop, FromNull, ToClass, class_may_be, is_assignable}
use Rattle.type_frames.proofs.Chains.{chain_from, chain_below}

or_cases : (p q : Bool) → (p || q) ≡ true → (p ≡ true) ⊎ (q ≡ true)
or_cases true q e = inl refl
or_cases false q e = inr e

or_first : (p q : Bool) → p ≡ true → (p || q) ≡ true
or_first true q e = refl
or_first false q e = absurd cc

or_second : (p q : Bool) → q ≡ true → (p || q) ≡ true
or_second true q e = refl
or_second false q e = e

module _ (h : Known) where
  -- ---- classes

  base_to : (e f : Base) → base_may_be h e f ≡ true → MayBe h zero e zero f
  base_to (Class a) (Class b) is = ⊎_elim (λ e. ForAll {a = a} e) (λ e. Subclass (chain_below h a b e)) (or_cases (is_for_all h b) _ is)
  base_to (Class a) (Number v) is = absurd cc
  base_to (Number u) (Class b) is = absurd cc
  base_to (Number u) (Number v) is = subst (λ (x : ℕ). MayBe h zero (Number u) zero (Number x)) (eqb-true u v is) (Numbers {unit = u})

  array_to : (m : ℕ) (e f : Base) → array_may_be f ≡ true → MayBe h (suc m) e zero f
  array_to m e (Class b) is = ArrayForClass is
  array_to m e (Number v) is = absurd cc

  may_be_to : (m : ℕ) (e : Base) (n : ℕ) (f : Base) → may_be h m e n f ≡ true → MayBe h m e n f
  may_be_to zero e zero f is = base_to e f is
  may_be_to (suc m) e zero f is = array_to m e f is
  may_be_to zero e (suc n) f is = absurd cc
  may_be_to (suc m) e (suc n) f is = Components (may_be_to m e n f is)

  may_be_from : {m : ℕ} {e : Base} {n : ℕ} {f : Base} → MayBe h m e n f → may_be h m e n f ≡ true
  may_be_from (Subclass {a = a} {b = b} below) = or_second (is_for_all h b) _ (chain_from h a b below)
  may_be_from (ForAll {a = a} {b = b} is) = or_first (is_for_all h b) _ is
  may_be_from (Numbers {unit = unit}) = eq-eqb unit unit refl
  may_be_from (ArrayForClass is) = is
  may_be_from (Components may) = may_be_from may

  base_itself : (e : Base) → base_may_be h e e ≡ true
  base_itself (Class a) = or_second (is_for_all h a) _ (chain_from h a a Same)
  base_itself (Number u) = eq-eqb u u refl

  may_be_itself : (n : ℕ) (e : Base) → may_be h n e n e ≡ true
  may_be_itself zero e = base_itself e
  may_be_itself (suc n) e = may_be_itself n e

  -- an equal name needs no test of its own
  class_may_be_by : (a b : Name) (same : Bool) → bytes_eq a b ≡ same → (same || may_be h (dimensions a) (base_of a) (dimensions b) (base_of b)) ≡ may_be h (dimensions a) (base_of a) (dimensions b) (base_of b)
  class_may_be_by a b true e = sym (subst (λ (x : Name). may_be h (dimensions a) (base_of a) (dimensions x) (base_of x) ≡ true) ((bytes_eq-Decides a b).0 e) (may_be_itself (dimensions a) (base_of a)))
  class_may_be_by a b false e = refl

  -- ---- types

  class_to : (a b : Name) → class_may_be h a b ≡ true → IsAssignable h (vtype.Object a) (vtype.Object b)
  class_to a b is = ⊎_elim
      (λ e. subst (λ (x : Name). IsAssignable h (vtype.Object a) (vtype.Object x)) ((bytes_eq-Decides a b).0 e) (Itself {t = vtype.Object a}))
      (λ e. ToClass (may_be_to (dimensions a) (base_of a) (dimensions b) (base_of b) e)) (or_cases (bytes_eq a b) _ is)

  type_to : (t of : VType) → is_assignable h t of ≡ true → IsAssignable h t of
  unfolding is_assignable
  type_to t vtype.Top is = ToTop
  type_to vtype.Integer vtype.Integer is = Itself
  type_to vtype.Long vtype.Long is = Itself
  type_to vtype.Null vtype.Null is = Itself
  type_to vtype.UninitThis vtype.UninitThis is = Itself
  type_to (vtype.Uninit a) (vtype.Uninit b) is = subst (λ (x : ℕ). IsAssignable h (vtype.Uninit a) (vtype.Uninit x)) (eqb-true a b is) (Itself {t = vtype.Uninit a})
  type_to vtype.Null (vtype.Object b) is = FromNull
  type_to (vtype.Object a) (vtype.Object b) is = class_to a b is
  type_to t of is = absurd cc

  type_itself : (t : VType) → is_assignable h t t ≡ true
  unfolding is_assignable
  type_itself vtype.Top = refl
  type_itself vtype.Integer = refl
  type_itself vtype.Long = refl
  type_itself vtype.Null = refl
  type_itself vtype.UninitThis = refl
  type_itself (vtype.Object a) = or_first (bytes_eq a a) _ ((bytes_eq-Decides a a).1 refl)
  type_itself (vtype.Uninit a) = eq-eqb a a refl

  type_top : (t : VType) → is_assignable h t vtype.Top ≡ true
  unfolding is_assignable
  type_top vtype.Top = refl
  type_top vtype.Integer = refl
  type_top vtype.Long = refl
  type_top vtype.Null = refl
  type_top vtype.UninitThis = refl
  type_top (vtype.Object a) = refl
  type_top (vtype.Uninit a) = refl

  type_from : {t of : VType} → IsAssignable h t of → is_assignable h t of ≡ true
  unfolding is_assignable
  type_from (Itself {t = t}) = type_itself t
  type_from (ToTop {t = t}) = type_top t
  type_from (FromNull {name = name}) = refl
  type_from (ToClass {a = a} {b = b} may) = or_second (bytes_eq a b) _ (may_be_from may)

pub assignable_decides : (h : Known) (t of : VType) → Decides (is_assignable h t of) (IsAssignable h t of)
assignable_decides h t of = (type_to h t of, λ is. type_from h is)

pub class_may_be_is : (h : Known) (a b : Name) → class_may_be h a b ≡ may_be h (dimensions a) (base_of a) (dimensions b) (base_of b)
class_may_be_is h a b = class_may_be_by h a b (bytes_eq a b) refl
