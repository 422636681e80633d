-- What holds of each item of a list.
use Rattle.std.proofs.Common.{◌≡◌, Bool, true, List, [], ◌∷◌, refl}
use Rattle.std.specs.List.{list_all}
use Rattle.std.proofs.lemmas.Bool.{and_parts, and_from}
use Rattle.class_tree.specs.Ranges.{is_short, are_counted}
use Rattle.classfile_write.specs.Fits.{always_fits}

any_pass : {X : Type 0} (xs : List X) → list_all always_fits xs ≡ true
any_pass [] = refl
any_pass (x ∷ xs) = any_pass xs

pub any_counted : {X : Type 0} (xs : List X) → is_short xs ≡ true → are_counted always_fits xs ≡ true
any_counted xs short = and_from _ _ short (any_pass xs)

pub all_weaker : {X : Type 0} (p q : X → Bool) → ((x : X) → p x ≡ true → q x ≡ true) → (xs : List X) → list_all p xs ≡ true → list_all q xs ≡ true
all_weaker p q each [] all = refl
all_weaker p q each (x ∷ xs) all =
    let parts = and_parts (p x) _ all in
    and_from _ _ (each x parts.0) (all_weaker p q each xs parts.1)

pub counted_weaker : {X : Type 0} (p q : X → Bool) → ((x : X) → p x ≡ true → q x ≡ true) → (xs : List X) → are_counted p xs ≡ true → are_counted q xs ≡ true
counted_weaker p q each xs counted =
    let parts = and_parts (is_short xs) _ counted in
    and_from _ _ parts.0 (all_weaker p q each xs parts.1)
