-- Classes that are added one after another are those of the list, each once, where it comes first.
use Rattle.std.proofs.Common.{◌≡◌, ℕ, Bool, true, false, not, ◌&&◌, ◌||◌, cond, nat_eq, List, [], ◌∷◌, ◌++◌, filter, refl, sym, ap, ◌∙◌, append_assoc, Option, arith}
use Rattle.std.specs.List.{list_any, flat_map}
use Rattle.std.specs.HashSet.{HashSet, IsEmpty, Updates, contains}
use Rattle.std.specs.declared.hash.FoldHasher.{FoldHasher}
use Rattle.std.specs.declared.hash.BuildHasherDefault.{BuildHasherDefault}
use Rattle.std.proofs.lemmas.Bool.{eqb-true, cond-true, cond-false}
use Rattle.std.proofs.lemmas.Bool.Decides.{nat_tests}
use Rattle.std.proofs.lemmas.List.{append-nil}
use Rattle.std.proofs.lemmas.List.Folds.{list_any-append}
use Rattle.std.proofs.lemmas.List.Sums.{fold-append}
use Rattle.ti_ids.specs.declared.number.ClassNo.{ClassNo}
use Rattle.link_versions.specs.Classes.{is_same_class}
use Rattle.link_versions.specs.Orders.{distinct, from_parent, ordered}
use Rattle.link_versions.specs.Collecting.{added, all_added, IsCollected}

same_is : (a b : ClassNo) → is_same_class a b ≡ true → a ≡ b
same_is a b e = let pack : ℕ → ClassNo = λ k. record { 0 = k } in ap pack (eqb-true a.0 b.0 e)

same_comm : (a b : ClassNo) → is_same_class a b ≡ is_same_class b a
same_comm a b = grind (arith, nat_tests)

has : List ClassNo → ClassNo → Bool
has ns n = list_any (is_same_class n) ns

-- ---- each once

two_tests : {A : Type 0} (b c : Bool) (p q r : A → Bool) (z : A) (ys : List A) → q z ≡ b → p z ≡ c → r z ≡ (b && c)
    → filter p (filter q ys) ≡ filter r ys → filter p (filter q (z ∷ ys)) ≡ filter r (z ∷ ys)
two_tests true true p q r z ys e f g rest = simp (e, f, g, rest)
two_tests true false p q r z ys e f g rest = simp (e, f, g, rest)
two_tests false c p q r z ys e f g rest = simp (e, g, rest)

filter_twice : {A : Type 0} (p q r : A → Bool) → ((z : A) → r z ≡ (q z && p z)) → (zs : List A) → filter p (filter q zs) ≡ filter r zs
filter_twice p q r each [] = refl
filter_twice p q r each (z ∷ zs) = two_tests (q z) (p z) p q r z zs refl refl (each z) (filter_twice p q r each zs)

-- a class that is there is passed over
old_one : (ns : List ClassNo) (n m : ClassNo) (b : Bool) → is_same_class n m ≡ b → list_any (is_same_class n) ns ≡ true
    → not (list_any (is_same_class m) ns) ≡ (not b && not (list_any (is_same_class m) ns))
old_one ns n m true e there = ap (λ k. not (list_any (is_same_class k) ns)) (sym (same_is n m e)) ∙ ap not there
old_one ns n m false e there = refl

-- one that is not there is there from then on
new_one : (ns : List ClassNo) (n m : ClassNo) → not (list_any (is_same_class m) (ns ++ n ∷ [])) ≡ (not (is_same_class n m) && not (list_any (is_same_class m) ns))
new_one ns n m = ap not (list_any-append (is_same_class m) ns (n ∷ []) ∙ ap (λ b. list_any (is_same_class m) ns || (b || false)) (same_comm m n)) ∙ by (list_any (is_same_class m) ns) (is_same_class n m)
  where
    by : (x y : Bool) → not (x || (y || false)) ≡ (not y && not x)
    by true true = refl
    by true false = refl
    by false true = refl
    by false false = refl

add_all : (ns more : List ClassNo) → all_added ns more ≡ ns ++ filter (λ m. not (list_any (is_same_class m) ns)) (distinct more)
add_all ns [] = sym (append-nil ns)
add_all ns (n ∷ more) = by (list_any (is_same_class n) ns) refl (λ ks. add_all ks more)
  where
    absent : List ClassNo → ClassNo → Bool
    absent ks m = not (list_any (is_same_class m) ks)

    by : (b : Bool) → list_any (is_same_class n) ns ≡ b → ((ks : List ClassNo) → all_added ks more ≡ ks ++ filter (λ m. not (list_any (is_same_class m) ks)) (distinct more))
        → all_added ns (n ∷ more) ≡ ns ++ filter (λ m. not (list_any (is_same_class m) ns)) (distinct (n ∷ more))
    by true there rest =
        let kept : added ns n ≡ ns = cond-true (list_any (is_same_class n) ns) ns (ns ++ n ∷ []) there in
        let once = filter_twice (λ m. not (list_any (is_same_class m) ns)) (λ m. not (is_same_class n m)) (λ m. not (list_any (is_same_class m) ns)) (λ m. old_one ns n m (is_same_class n m) refl there) (distinct more) in
        ap (λ ks. all_added ks more) kept ∙ rest ns ∙ simp (there, once)
    by false there rest =
        let more_one : added ns n ≡ ns ++ n ∷ [] = cond-false (list_any (is_same_class n) ns) ns (ns ++ n ∷ []) there in
        let once = filter_twice (λ m. not (list_any (is_same_class m) ns)) (λ m. not (is_same_class n m)) (λ m. not (list_any (is_same_class m) (ns ++ n ∷ []))) (new_one ns n) (distinct more) in
        ap (λ ks. all_added ks more) more_one ∙ rest (ns ++ n ∷ []) ∙ simp (there, once, append_assoc)

filter_all : {A : Type 0} (xs : List A) → filter (λ _. true) xs ≡ xs
filter_all [] = refl
filter_all (x ∷ xs) = ap (λ ys. x ∷ ys) (filter_all xs)

pub all_added-distinct : (more : List ClassNo) → all_added [] more ≡ distinct more
all_added-distinct more = add_all [] more ∙ filter_all (distinct more)

pub all_added-append : (ns more others : List ClassNo) → all_added ns (more ++ others) ≡ all_added (all_added ns more) others
all_added-append ns more others = fold-append added ns more others

-- a class, what its interfaces add, and what its superclass adds
pub order_is : (order : ClassNo → List ClassNo) (n : ClassNo) (interfaces : List ClassNo) (parent : Option ClassNo) (first second third last : List ClassNo)
    → first ≡ [] → second ≡ added first n → third ≡ all_added second (flat_map order interfaces) → last ≡ all_added third (from_parent order parent) → last ≡ ordered order n interfaces parent
order_is order n interfaces parent first second third last e f g h =
    h ∙ ap (λ ks. all_added ks (from_parent order parent)) (g ∙ ap (λ ks. all_added ks (flat_map order interfaces)) (f ∙ ap (λ ks. added ks n) e))
    ∙ sym (all_added-append (n ∷ []) (flat_map order interfaces) (from_parent order parent)) ∙ all_added-distinct (n ∷ (flat_map order interfaces ++ from_parent order parent))

-- ---- the set of numbers

pub collected_none : (ns : List ClassNo) (seen : HashSet ℕ (BuildHasherDefault FoldHasher)) → ns ≡ [] → IsEmpty seen → IsCollected ns seen
unfolding IsCollected
collected_none ns seen e empty n = ap (list_any (nat_eq n.0)) empty ∙ sym (ap (list_any (is_same_class n)) e)

pub is_new : (ns : List ClassNo) (seen : HashSet ℕ (BuildHasherDefault FoldHasher)) (n : ClassNo) → IsCollected ns seen → not (contains nat_eq seen n.0) ≡ true → added ns n ≡ ns ++ n ∷ []
unfolding IsCollected
is_new ns seen n all new = cond-false (list_any (is_same_class n) ns) ns (ns ++ n ∷ []) (grind (arith, nat_tests, all n))

pub is_old : (ns : List ClassNo) (seen : HashSet ℕ (BuildHasherDefault FoldHasher)) (n : ClassNo) → IsCollected ns seen → not (contains nat_eq seen n.0) ≡ false → added ns n ≡ ns
unfolding IsCollected
is_old ns seen n all old = cond-true (list_any (is_same_class n) ns) ns (ns ++ n ∷ []) (grind (arith, nat_tests, all n))

one_more : (x y : Bool) → cond y true x ≡ (x || (y || false))
one_more true true = refl
one_more true false = refl
one_more false true = refl
one_more false false = refl

pub collected_new : (ns : List ClassNo) (seen after : HashSet ℕ (BuildHasherDefault FoldHasher)) (n : ClassNo) → IsCollected ns seen → Updates nat_eq seen after n.0 true → IsCollected (ns ++ n ∷ []) after
unfolding IsCollected
collected_new ns seen after n all updates m =
    updates.0 m.0 ∙ ap (cond (nat_eq n.0 m.0) true) (all m) ∙ one_more (list_any (is_same_class m) ns) (is_same_class n m) ∙ ap (λ b. list_any (is_same_class m) ns || (b || false)) (same_comm n m)
    ∙ sym (list_any-append (is_same_class m) ns (n ∷ []))

pub collected_old : (ns : List ClassNo) (seen after : HashSet ℕ (BuildHasherDefault FoldHasher)) → IsCollected ns seen → after.keys ≡ seen.keys → IsCollected ns after
unfolding IsCollected
collected_old ns seen after all same m = ap (list_any (nat_eq m.0)) same ∙ all m
