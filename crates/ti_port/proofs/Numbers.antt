-- A list of numbers, as a slice's `contains` answers of it.
use Rattle.std.proofs.Common.{◌≡◌, ℕ, true, List, nat_eq, subst, slice_index_or, eqb-true}
use Rattle.std.specs.List.{Contains, list_any}
use Rattle.std.proofs.lemmas.List.Folds.{Any-from_list_any}

-- a number that a test finds is in the list
pub contains_from_test : (xs : List ℕ) (x : ℕ) → list_any (λ y. nat_eq y x) xs ≡ true → Contains xs x
contains_from_test xs x h =
    let found = Any-from_list_any (λ y. nat_eq y x) xs h in
    (found.0, found.2, subst (λ (y : ℕ). slice_index_or xs found.0 y ≡ y) (eqb-true found.1 x found.4) found.3)
