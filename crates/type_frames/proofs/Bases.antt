-- How the code takes an array class's descriptor apart.
use Rattle.std.proofs.Common.{◌≡◌, ℕ, zero, suc, ◌∙◌, ◌+◌, ◌<◌, Bool, true, false, cond, [], ◌∷◌, ◌++◌, length, take, drop, get_or, eq-eqb, add-one, refl, sym, ap, arith}
use Rattle.std.specs.Prelude.{◌==◌}
use Rattle.std.proofs.Math.Seq.{drop-cons}
use Rattle.jv_names.specs.Names.{Name}
use Rattle.type_frames.specs.Types.{Base, Class, is_array, array_of, dimensions, front, base_of_text, base_behind, base_of}
use Rattle.type_frames.specs.Hierarchies.{Known}
use Rattle.type_frames.specs.Assignable.{base_may_be, array_may_be, may_be}

-- ---- dimensions

at_array : (array : Bool) (n : ℕ) → array ≡ true → cond array (suc n) zero ≡ suc n
at_array true n e = refl
at_array false n e = absurd cc

at_other : (array : Bool) (n : ℕ) → array ≡ false → cond array (suc n) zero ≡ 0
at_other true n e = absurd cc
at_other false n e = refl

counted : (name : Name) (i unit : ℕ) → i < length name → unit ≡ get_or name i unit → dimensions (drop i name) ≡ cond (unit == 91) (suc (dimensions (drop (i + 1) name))) zero
counted name i unit lt is = ap dimensions (drop-cons name i unit lt ∙ ap (λ (x : ℕ). x ∷ drop (suc i) name) (sym is) ∙ ap (λ (n : ℕ). unit ∷ drop n name) (sym (add-one i)))

-- one `[` more
pub dimensions_more : (name : Name) (i unit : ℕ) → i < length name → unit ≡ get_or name i unit → unit ≡ 91 → dimensions name ≡ i + dimensions (drop i name)
    → dimensions name ≡ (i + 1) + dimensions (drop (i + 1) name)
dimensions_more name i unit lt is e so_far =
    let here : dimensions (drop i name) ≡ suc (dimensions (drop (i + 1) name)) = counted name i unit lt is ∙ at_array (unit == 91) _ (eq-eqb unit 91 e) in
    omega arith

-- another unit
pub dimensions_end : (name : Name) (i unit : ℕ) → i < length name → unit ≡ get_or name i unit → (unit == 91) ≡ false → dimensions name ≡ i + dimensions (drop i name) → i ≡ dimensions name
dimensions_end name i unit lt is e so_far =
    let here : dimensions (drop i name) ≡ 0 = counted name i unit lt is ∙ at_other (unit == 91) _ e in
    omega arith

drop_all : (name : Name) → drop (length name) name ≡ []
drop_all [] = refl
drop_all (unit ∷ units) = drop_all units

-- no unit is left
pub dimensions_all : (name : Name) (i : ℕ) → i ≡ length name → dimensions name ≡ i + dimensions (drop i name) → length name ≡ dimensions name
dimensions_all name i all so_far =
    let none : dimensions (drop i name) ≡ 0 = ap (λ (n : ℕ). dimensions (drop n name)) all ∙ ap dimensions (drop_all name) in
    omega arith

-- ---- the last unit

pub front_take : (units : Name) (n : ℕ) → length units ≡ suc n → take n units ≡ front units
front_take [] n e = absurd (omega arith)
front_take (unit ∷ []) zero e = refl
front_take (unit ∷ []) (suc n) e = absurd (omega arith)
front_take (unit ∷ next ∷ units) zero e = absurd (omega arith)
front_take (unit ∷ next ∷ units) (suc n) e = ap (λ (x : Name). unit ∷ x) (front_take (next ∷ units) n (omega arith))

-- ---- what lies behind the dimensions

behind_at : (array : Bool) (unit : ℕ) (units : Name) → base_behind units ≡ base_of_text (drop (dimensions units) units)
    → cond array (base_behind units) (base_of_text (unit ∷ units)) ≡ base_of_text (drop (cond array (suc (dimensions units)) zero) (unit ∷ units))
behind_at true unit units e = e
behind_at false unit units e = refl

behind : (name : Name) → base_behind name ≡ base_of_text (drop (dimensions name) name)
behind [] = refl
behind (unit ∷ units) = behind_at (unit == 91) unit units (behind units)

array_at : (array : Bool) (n : ℕ) → 0 < cond array (suc n) zero → array ≡ true
array_at true n lt = refl
array_at false n lt = absurd (omega arith)

array_named : (name : Name) → 0 < dimensions name → is_array name ≡ true
array_named [] lt = absurd (omega arith)
array_named (unit ∷ units) lt = array_at (unit == 91) (dimensions units) lt

-- what an array has in the end
pub base_behind_dimensions : (name : Name) → 0 < dimensions name → base_of name ≡ base_of_text (drop (dimensions name) name)
base_behind_dimensions name lt = ap (λ (array : Bool). cond array (base_behind name) (Class name)) (array_named name lt) ∙ behind name

pub base_behind_at : (name rest : Name) (count : ℕ) → count ≡ dimensions name → rest ≡ drop count name → 0 < count → base_of_text rest ≡ base_of name
base_behind_at name rest count is rest_is lt =
    let some : 0 < dimensions name = omega arith in
    ap base_of_text (rest_is ∙ ap (λ (n : ℕ). drop n name) is) ∙ sym (base_behind_dimensions name some)

plain_at : (array : Bool) (n : ℕ) → cond array (suc n) zero ≡ 0 → array ≡ false
plain_at true n e = absurd (omega arith)
plain_at false n e = refl

plain_named : (name : Name) → dimensions name ≡ 0 → is_array name ≡ false
plain_named [] e = refl
plain_named (unit ∷ units) e = plain_at (unit == 91) (dimensions units) e

no_dimensions : (name : Name) → is_array name ≡ false → dimensions name ≡ 0
no_dimensions [] e = refl
no_dimensions (unit ∷ units) e = at_other (unit == 91) (dimensions units) e

-- a class that is no array is its own
pub base_plain : (name : Name) → dimensions name ≡ 0 → base_of name ≡ Class name
base_plain name e = ap (λ (array : Bool). cond array (base_behind name) (Class name)) (plain_named name e)

-- ---- classes by their dimensions

pub may_be_equal : (h : Known) (m n : ℕ) (e f : Base) → m ≡ n → may_be h m e n f ≡ base_may_be h e f
may_be_equal h zero zero e f same = refl
may_be_equal h zero (suc n) e f same = absurd (omega arith)
may_be_equal h (suc m) zero e f same = absurd (omega arith)
may_be_equal h (suc m) (suc n) e f same = may_be_equal h m n e f (omega arith)

pub may_be_more : (h : Known) (m n : ℕ) (e f : Base) → n < m → may_be h m e n f ≡ array_may_be f
may_be_more h zero n e f lt = absurd (omega arith)
may_be_more h (suc m) zero e f lt = refl
may_be_more h (suc m) (suc n) e f lt = may_be_more h m n e f (omega arith)

pub may_be_less : (h : Known) (m n : ℕ) (e f : Base) → m < n → may_be h m e n f ≡ false
may_be_less h m zero e f lt = absurd (omega arith)
may_be_less h zero (suc n) e f lt = refl
may_be_less h (suc m) (suc n) e f lt = may_be_less h m n e f (omega arith)

-- ---- the array class over a class

over_at : (array : Bool) (name : Name) → is_array name ≡ array → dimensions (cond array (91 ∷ name) (91 ∷ 76 ∷ name ++ 59 ∷ [])) ≡ dimensions name + 1
over_at true name e = omega arith
over_at false name e = let none : dimensions name ≡ 0 = no_dimensions name e in omega arith

pub dimensions_over : (name : Name) → dimensions (array_of name) ≡ dimensions name + 1
dimensions_over name = over_at (is_array name) name refl

pub front_ended : (name : Name) (unit : ℕ) → front (name ++ unit ∷ []) ≡ name
front_ended [] unit = refl
front_ended (x ∷ []) unit = refl
front_ended (x ∷ y ∷ name) unit = ap (λ (units : Name). x ∷ units) (front_ended (y ∷ name) unit)

base_at : (array : Bool) (name : Name) → is_array name ≡ array → base_of (cond array (91 ∷ name) (91 ∷ 76 ∷ name ++ 59 ∷ [])) ≡ base_of name
base_at true name e = sym (ap (λ (b : Bool). cond b (base_behind name) (Class name)) e)
base_at false name e = ap Class (front_ended name 59) ∙ sym (ap (λ (b : Bool). cond b (base_behind name) (Class name)) e)

pub base_over : (name : Name) → base_of (array_of name) ≡ base_of name
base_over name = base_at (is_array name) name refl
