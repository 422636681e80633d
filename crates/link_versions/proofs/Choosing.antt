-- The methods to choose from, class by class of the lookup order.
use Rattle.std.proofs.Common.{◌≡◌, ℕ, ◌+◌, ◌<◌, Bool, true, false, not, ◌&&◌, ◌||◌, List, [], ◌∷◌, ◌++◌, length, get_or, drop, filter, refl, sym, ap, ◌∙◌, Option, Some, None}
use Rattle.std.specs.Prelude.{option_to_list, is_some, if◌then◌else◌}
use Rattle.std.specs.List.{list_any, filter_map, cons_option}
use Rattle.std.specs.Option.{option_and_then, option_map_or}
use Rattle.std.proofs.lemmas.List.{drop_more}
use Rattle.ti_ids.specs.declared.number.ClassNo.{ClassNo}
use Rattle.ti_ids.specs.declared.number.MethodNo.{MethodNo}
use Rattle.jv_names.specs.Names.{Name}
use Rattle.class_tree.specs.declared.access.Flag.TheVariants as flags
use Rattle.link_versions.specs.declared.method.Sole.TheVariants as sole
use Rattle.link_versions.specs.Classes.{Class}
use Rattle.link_versions.specs.Orders.{lookup_order}
use Rattle.link_versions.specs.Members.{method_has}
use Rattle.link_versions.specs.Resolution.{candidate, candidates, is_overriding, is_overridden, concrete_ones, sole_of}
use Rattle.link_versions.specs.Concrete.{overrides_at, concrete_at}

-- ---- whether one overrides

any_first : {A : Type 0} (p : A → Bool) (o : Option A) (xs : List A) → list_any p (cons_option o xs) ≡ (option_map_or p o false || list_any p xs)
any_first p None xs = refl
any_first p (Some x) xs = refl

any_filter_map : {A B : Type 0} (p : B → Bool) (f : A → Option B) (xs : List A) → list_any p (filter_map f xs) ≡ list_any (λ x. option_map_or p (f x) false) xs
any_filter_map p f [] = refl
any_filter_map p f (x ∷ xs) = any_first p (f x) (filter_map f xs) ∙ ap (λ b. option_map_or p (f x) false || b) (any_filter_map p f xs)

pub overridden_in_order : (classes : List Class) (n : ClassNo) (name desc : Name) (m : MethodNo)
    → is_overridden classes (candidates classes n name desc) m ≡ list_any (overrides_at classes n name desc m) (lookup_order classes n)
unfolding is_overridden candidates overrides_at
overridden_in_order classes n name desc m = any_filter_map (is_overriding classes m) (candidate classes n name desc) (lookup_order classes n)

-- ---- which are concrete

two_tests : {A : Type 0} (b c : Bool) (m : A) (ys : List A) (p q : A → Bool) → q m ≡ b → p m ≡ c
    → filter p (filter q (m ∷ ys)) ≡ cons_option (if b && c then Some m else None) (filter p (filter q ys))
two_tests true true m ys p q e f = simp (e, f)
two_tests true false m ys p q e f = simp (e, f)
two_tests false c m ys p q e f = simp e

filtered_first : {A : Type 0} (p q : A → Bool) (o : Option A) (ys : List A)
    → filter p (filter q (cons_option o ys)) ≡ cons_option (option_and_then (λ m. if q m && p m then Some m else None) o) (filter p (filter q ys))
filtered_first p q None ys = refl
filtered_first p q (Some m) ys = two_tests (q m) (p m) m ys p q refl refl

filtered : {A B : Type 0} (p q : B → Bool) (f : A → Option B) (xs : List A)
    → filter p (filter q (filter_map f xs)) ≡ filter_map (λ x. option_and_then (λ m. if q m && p m then Some m else None) (f x)) xs
filtered p q f [] = refl
filtered p q f (x ∷ xs) =
    filtered_first p q (f x) (filter_map f xs) ∙ ap (cons_option (option_and_then (λ m. if q m && p m then Some m else None) (f x))) (filtered p q f xs)

pub concrete_in_order : (classes : List Class) (n : ClassNo) (name desc : Name) → concrete_ones classes n name desc ≡ filter_map (concrete_at classes n name desc) (lookup_order classes n)
unfolding concrete_ones candidates concrete_at
concrete_in_order classes n name desc =
    filtered (λ m. not (method_has classes flags.Abstract m)) (λ m. not (is_overridden classes (candidates classes n name desc) m)) (candidate classes n name desc) (lookup_order classes n)

-- ---- how many they are

-- one was found, and here is another
pub several : {A : Type 0} (f : A → Option MethodNo) (xs : List A) (i : ℕ) (d : A) (found : Option MethodNo) (m : MethodNo) → i < length xs → is_some found ≡ true
    → option_to_list found ++ filter_map f (drop i xs) ≡ filter_map f xs → f (get_or xs i d) ≡ Some m → sole_of (filter_map f xs) ≡ sole.Several
several f xs i d None m low some all at = absurd cc
several f xs i d (Some first) m low some all at =
    let rest : filter_map f (drop i xs) ≡ m ∷ filter_map f (drop (i + 1) xs) = ap (filter_map f) (drop_more xs i d low) ∙ ap (λ o. cons_option o (filter_map f (drop (i + 1) xs))) at in
    ap sole_of (sym all ∙ ap (λ ys. first ∷ ys) rest)
