-- Transformers by groups: none stands before one of a lower group.
use Rattle.std.proofs.Common.{◌≡◌, ◌≤◌, ℕ, Bool, true, false, cond, List, [], ◌∷◌, ◌++◌, refl, arith}
use Rattle.std.specs.Prelude.{◌==◌}
use Rattle.std.specs.List.{AllByRecursion}
use Rattle.std.proofs.lemmas.Bool.{eqb-true}
use Rattle.transform_chain.specs.declared.active.Active.{Active}
use Rattle.transform_chain.specs.Groups.{of_group, AreInGroups}
use Rattle.transform_chain.specs.Laws.{GroupsRise}

module _ {T : Type 0} where
  -- of one group; of this group or an earlier one; of this group or a later one
  abbrev pub Are : ℕ → List (Active T) → Type 0
  Are n ts = AllByRecursion (λ t. t.group ≡ n) ts

  abbrev pub AreUpTo : ℕ → List (Active T) → Type 0
  AreUpTo n ts = AllByRecursion (λ t. t.group ≤ n) ts

  abbrev pub AreFrom : ℕ → List (Active T) → Type 0
  AreFrom n ts = AllByRecursion (λ t. n ≤ t.group) ts

  kept : (n : ℕ) (is : Bool) (t : Active T) (ts : List (Active T)) → (t.group == n) ≡ is → Are n ts → Are n (cond is (t ∷ ts) ts)
  kept n true t ts e all = (eqb-true t.group n e, all)
  kept n false t ts e all = all

  pub are : (n : ℕ) (ts : List (Active T)) → Are n (of_group n ts)
  are n [] = tt
  are n (t ∷ ts) = kept n (t.group == n) t (of_group n ts) refl (are n ts)

  up_to : (m n : ℕ) (ts : List (Active T)) → n ≤ m → Are n ts → AreUpTo m ts
  up_to m n [] few all = tt
  up_to m n (t ∷ ts) few all = (omega (arith, few, all.0), up_to m n ts few all.1)

  from : (m n : ℕ) (ts : List (Active T)) → m ≤ n → Are n ts → AreFrom m ts
  from m n [] many all = tt
  from m n (t ∷ ts) many all = (omega (arith, many, all.0), from m n ts many all.1)

  pub later : (m n : ℕ) (ts : List (Active T)) → m ≤ n → AreFrom n ts → AreFrom m ts
  later m n [] many all = tt
  later m n (t ∷ ts) many all = (omega (arith, many, all.0), later m n ts many all.1)

  pub all_of_both : (P : Active T → Type 0) (xs ys : List (Active T)) → AllByRecursion P xs → AllByRecursion P ys → AllByRecursion P (xs ++ ys)
  all_of_both P [] ys all both = both
  all_of_both P (x ∷ xs) ys all both = (all.0, all_of_both P xs ys all.1 both)

  -- transformers of one group
  alone : (n : ℕ) (ts : List (Active T)) → Are n ts → AreInGroups ts
  alone n [] all = tt
  alone n (t ∷ ts) all = (from t.group n ts (omega (arith, all.0)) all.1, alone n ts all.1)

  -- behind those up to a group come those from it on
  both : (n : ℕ) (xs ys : List (Active T)) → AreInGroups xs → AreUpTo n xs → AreInGroups ys → AreFrom n ys → AreInGroups (xs ++ ys)
  both n [] ys rising few rising_too many = rising_too
  both n (x ∷ xs) ys rising few rising_too many = (
    all_of_both (λ u. x.group ≤ u.group) xs ys rising.0 (later x.group n ys few.0 many),
    both n xs ys rising.1 few.1 rising_too many,
  )

  -- one group more
  more : (m n : ℕ) (xs ts : List (Active T)) → m ≤ n → AreInGroups xs → AreUpTo m xs → AreInGroups (xs ++ of_group n ts)
  more m n xs ts le rising few = both m xs (of_group n ts) rising few (alone n (of_group n ts) (are n ts)) (from m n (of_group n ts) le (are n ts))

  more_up_to : (m n : ℕ) (xs ts : List (Active T)) → m ≤ n → AreUpTo m xs → AreUpTo n (xs ++ of_group n ts)
  more_up_to m n xs ts le few =
      all_of_both (λ t. t.group ≤ n) xs (of_group n ts) (still m n xs le few) (up_to n n (of_group n ts) (omega arith) (are n ts))
    where
      still : (m n : ℕ) (xs : List (Active T)) → m ≤ n → AreUpTo m xs → AreUpTo n xs
      still m n [] le few = tt
      still m n (x ∷ xs) le few = (omega (arith, le, few.0), still m n xs le few.1)

pub groups_rise : GroupsRise
groups_rise ts =
    let one = of_group 1 ts in
    let two = one ++ of_group 2 ts in
    let three = two ++ of_group 3 ts in
    let up_to_one = up_to 1 1 one (omega arith) (are 1 ts) in
    let up_to_two = more_up_to 1 2 one ts (omega arith) up_to_one in
    let rising_two = more 1 2 one ts (omega arith) (alone 1 one (are 1 ts)) up_to_one in
    more 3 4 three ts (omega arith) (more 2 3 two ts (omega arith) rising_two up_to_two) (more_up_to 2 3 two ts (omega arith) up_to_two)
