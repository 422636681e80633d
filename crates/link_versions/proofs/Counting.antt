-- The versions of a class, how many they are, and which one a number names.
use Rattle.std.proofs.Common.{◌≡◌, ℕ, ◌+◌, ◌-◌, ◌<◌, ◌^◌, ◌==◌, Bool, true, false, List, [], ◌∷◌, length, refl, sym, ap, subst, ◌∙◌, Option, Some, None, arith}
use Rattle.std.specs.Prelude.{IsSome, slice_get, option_map}
use Rattle.std.specs.Option.{option_and_then, option_map_or}
use Rattle.std.proofs.lemmas.Bool.{cond-true, cond-false, eqb-true, eq-eqb, ne_eqb}
use Rattle.std.proofs.lemmas.Bool.Decides.{nat_tests}
use Rattle.std.proofs.lemmas.List.{length-append}
use Rattle.ti_ids.specs.declared.number.ClassNo.{ClassNo}
use Rattle.class_tree.specs.Trees.{Tree}
use Rattle.link_versions.specs.Classes.{Class, Kind, OfFile, OfArray, numbered, with_numbered, class_at, versions_of, first_version, version_at, version_count}
use Rattle.link_versions.specs.Changes.{IsOfFile, with_class, kind_with_version, with_version, file_class, IsOfKind, AreLawful}
use Rattle.link_versions.specs.Laws.{IsInstalled, IsNewest, KeepsVersions, KeepsNumbers, KeepsOrders, KeepsSuperclasses, KeepsStates, KeepsClasses, IsDefined}
use Rattle.link_versions.proofs.Numbered.{slice_get-push}
use Rattle.link_versions.proofs.Alike.{AreAlike, number_of-alike, lookup_order-alike, superclasses-alike, with_numbered-alike}

-- ---- the class of a number after a change

length-with_numbered : {A : Type 0} (f : A → A) (xs : List A) (n : ℕ) → length (with_numbered f xs n) ≡ length xs
length-with_numbered f [] n = refl
length-with_numbered f (x ∷ xs) n = grind (arith, nat_tests, length-with_numbered f xs n)

pub numbered-changed : {A : Type 0} (f : A → A) (xs : List A) (n : ℕ) → numbered (with_numbered f xs n) n ≡ option_map f (numbered xs n)
numbered-changed f [] n = refl
numbered-changed f (x ∷ xs) n = grind (arith, nat_tests, numbered-changed f xs n, length-with_numbered f xs n)

pub numbered-other : {A : Type 0} (f : A → A) (xs : List A) (n m : ℕ) → (m ≡ n → ⊥) → numbered (with_numbered f xs n) m ≡ numbered xs m
numbered-other f [] n m other = refl
numbered-other f (x ∷ xs) n m other = grind (arith, nat_tests, numbered-other f xs n m other, length-with_numbered f xs n)

-- ---- a version more

next_in : (t : Tree) (found : Option Class) → IsSome (option_and_then (λ c. slice_get (versions_of c.kind) 0) found)
    → option_and_then (λ c. slice_get (versions_of c.kind) (option_map_or (λ c. length (versions_of c.kind)) found 0)) (option_map (with_version t) found) ≡ Some t
next_in t None some = absurd cc
next_in t (Some c) some = by c.kind some
  where
    by : (kind : Kind) → IsSome (slice_get (versions_of kind) 0) → slice_get (versions_of (kind_with_version t kind)) (length (versions_of kind)) ≡ Some t
    by (OfArray dimensions e) some = absurd cc
    by (OfFile versions) some = slice_get-push versions t (length versions) ∙ cond-true (length versions == length versions) (Some t) (slice_get versions (length versions)) (eq-eqb (length versions) (length versions) refl)

pub installed_there : IsInstalled
unfolding version_at version_count first_version
installed_there classes n t some =
    ap (option_and_then (λ c. slice_get (versions_of c.kind) (version_count classes n))) (numbered-changed (with_version t) classes n.0) ∙ next_in t (class_at classes n) some

one_more : (t : Tree) (found : Option Class) → IsSome (option_and_then (λ c. slice_get (versions_of c.kind) 0) found)
    → option_map_or (λ c. length (versions_of c.kind)) (option_map (with_version t) found) 0 ≡ option_map_or (λ c. length (versions_of c.kind)) found 0 + 1
one_more t None some = absurd cc
one_more t (Some c) some = by c.kind some
  where
    by : (kind : Kind) → IsSome (slice_get (versions_of kind) 0) → length (versions_of (kind_with_version t kind)) ≡ length (versions_of kind) + 1
    by (OfArray dimensions e) some = absurd cc
    by (OfFile versions) some = length-append versions (t ∷ [])

pub installed_newest : IsNewest
unfolding version_count first_version
installed_newest classes n t some =
    let counted : version_count (with_class (with_version t) n classes) n ≡ version_count classes n + 1 =
    ap (λ found. option_map_or (λ c. length (versions_of c.kind)) found 0) (numbered-changed (with_version t) classes n.0) ∙ one_more t (class_at classes n) some in
    let place : version_count (with_class (with_version t) n classes) n - 1 ≡ version_count classes n = omega (arith, counted) in
    λ i. record { class = n; place = place i }

-- ---- all others

others_in : (t : Tree) (found : Option Class) (place : ℕ) → (place ≡ option_map_or (λ c. length (versions_of c.kind)) found 0 → ⊥)
    → option_and_then (λ c. slice_get (versions_of c.kind) place) (option_map (with_version t) found) ≡ option_and_then (λ c. slice_get (versions_of c.kind) place) found
others_in t None place other = refl
others_in t (Some c) place other = by c.kind other
  where
    by : (kind : Kind) → (place ≡ length (versions_of kind) → ⊥) → slice_get (versions_of (kind_with_version t kind)) place ≡ slice_get (versions_of kind) place
    by (OfArray dimensions e) other = refl
    by (OfFile versions) other = slice_get-push versions t place ∙ cond-false (place == length versions) (Some t) (slice_get versions place) (ne_eqb place (length versions) other)

pub versions_stay : KeepsVersions
unfolding version_at version_count
versions_stay classes n t v other = by (v.class.0 == n.0) refl
  where
    at : List Class → Option Tree
    at cs = option_and_then (λ c. slice_get (versions_of c.kind) v.place) (numbered cs v.class.0)

    by : (b : Bool) → (v.class.0 == n.0) ≡ b → version_at (with_class (with_version t) n classes) v ≡ version_at classes v
    by true e =
        let same : v.class.0 ≡ n.0 = eqb-true _ _ e in
        let apart : v.place ≡ version_count classes n → ⊥ = λ p. other (λ i. record { class = record { 0 = same i }; place = p i }) in
        let read : ℕ → List Class → Option Tree = λ k cs. option_and_then (λ c. slice_get (versions_of c.kind) v.place) (numbered cs k) in
        ap (λ k. read k (with_numbered (with_version t) classes n.0)) same
        ∙ ap (option_and_then (λ c. slice_get (versions_of c.kind) v.place)) (numbered-changed (with_version t) classes n.0)
        ∙ others_in t (class_at classes n) v.place apart ∙ ap (λ k. read k classes) (sym same)
    by false e =
        let apart : v.class.0 ≡ n.0 → ⊥ = λ p. cc (e, eq-eqb v.class.0 n.0 p) in
        ap (option_and_then (λ c. slice_get (versions_of c.kind) v.place)) (numbered-other (with_version t) classes n.0 v.class.0 apart)

alike : (classes : List Class) (n : ClassNo) (t : Tree) → AreAlike classes (with_class (with_version t) n classes)
alike classes n t = with_numbered-alike (with_version t) classes n.0 (λ c. record { name = refl; parent = refl; interfaces = refl })

pub numbers_stay : KeepsNumbers
numbers_stay classes n t name = sym (number_of-alike classes (with_class (with_version t) n classes) name (alike classes n t))

pub orders_stay : KeepsOrders
orders_stay classes n t m = sym (lookup_order-alike classes (with_class (with_version t) n classes) m (alike classes n t))

pub superclasses_stay : KeepsSuperclasses
superclasses_stay classes n t m = sym (superclasses-alike classes (with_class (with_version t) n classes) m (alike classes n t))

state_in : (t : Tree) (found : Option Class) → option_map (λ c. c.state) (option_map (with_version t) found) ≡ option_map (λ c. c.state) found
state_in t None = refl
state_in t (Some c) = refl

pub states_stay : KeepsStates
states_stay classes n t m = by (m.0 == n.0) refl
  where
    by : (b : Bool) → (m.0 == n.0) ≡ b → option_map (λ c. c.state) (class_at (with_class (with_version t) n classes) m) ≡ option_map (λ c. c.state) (class_at classes m)
    by true e =
        let same : m.0 ≡ n.0 = eqb-true _ _ e in
        ap (λ k. option_map (λ c. c.state) (numbered (with_numbered (with_version t) classes n.0) k)) same
        ∙ ap (option_map (λ c. c.state)) (numbered-changed (with_version t) classes n.0) ∙ state_in t (class_at classes n) ∙ ap (λ k. option_map (λ c. c.state) (numbered classes k)) (sym same)
    by false e =
        let apart : m.0 ≡ n.0 → ⊥ = λ p. cc (e, eq-eqb m.0 n.0 p) in
        ap (option_map (λ c. c.state)) (numbered-other (with_version t) classes n.0 m.0 apart)

-- ---- a class more

pub classes_stay : KeepsClasses
classes_stay c classes m there =
    let apart : m.0 ≡ length (c ∷ classes) → ⊥ = λ e. absurd (omega (arith, e, there.1)) in
    cond-false (m.0 == length (c ∷ classes)) (Some c) (numbered classes m.0) (ne_eqb m.0 (length (c ∷ classes)) apart)

pub defined_there : IsDefined
unfolding version_at
defined_there find t classes =
    let c = file_class find t in
    let last : length classes + 1 ≡ length (c ∷ classes) = omega arith in
    ap (option_and_then (λ k. slice_get (versions_of k.kind) 0)) (cond-true (length classes + 1 == length (c ∷ classes)) (Some c) (numbered classes (length classes + 1)) (eq-eqb _ _ last))

-- ---- how many a class of a file has

pub record IsCounted (classes : List Class) (n : ClassNo) : Type 0 where
  pub some : 0 < version_count classes n
  pub few : version_count classes n < 2 ^ 32

count_in : (older : List Class) (c : Class) (kind : Kind) → IsOfKind older c kind → IsSome (slice_get (versions_of kind) 0) → (0 < length (versions_of kind)) × (length (versions_of kind) < 2 ^ 32)
count_in older c (OfFile []) k some = absurd k
count_in older c (OfFile (first ∷ later)) k some = (omega arith, k.few)
count_in older c (OfArray dimensions e) k some = absurd cc

pub counted : (classes : List Class) (n : ClassNo) → AreLawful classes → IsOfFile classes n → IsCounted classes n
unfolding version_count first_version
counted [] n lawful some = absurd cc
counted (c ∷ older) n lawful some = by (n.0 == length (c ∷ older)) refl (counted older n lawful.1)
  where
    by : (b : Bool) → (n.0 == length (c ∷ older)) ≡ b → (IsOfFile older n → IsCounted older n) → IsCounted (c ∷ older) n
    by true e rest =
        let found : class_at (c ∷ older) n ≡ Some c = cond-true _ _ _ e in
        let count : version_count (c ∷ older) n ≡ length (versions_of c.kind) = ap (λ f. option_map_or (λ k. length (versions_of k.kind)) f 0) found in
        let one : IsSome (slice_get (versions_of c.kind) 0) = subst (λ f. IsSome (option_and_then (λ (k : Class). slice_get (versions_of k.kind) 0) f)) found some in
        let both = count_in older c c.kind lawful.0.kind one in
        record { some = omega (arith, count, both.0); few = omega (arith, count, both.1) }
    by false e rest =
        let found : class_at (c ∷ older) n ≡ class_at older n = cond-false _ _ _ e in
        let count : version_count (c ∷ older) n ≡ version_count older n = ap (λ f. option_map_or (λ (k : Class). length (versions_of k.kind)) f 0) found in
        let both = rest (subst (λ f. IsSome (option_and_then (λ (k : Class). slice_get (versions_of k.kind) 0) f)) found some) in
        record { some = omega (arith, count, both.some); few = omega (arith, count, both.few) }
