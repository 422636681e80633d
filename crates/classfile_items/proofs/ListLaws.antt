-- The laws of a list, from those of its items.
use Rattle.std.proofs.Common.{◌≡◌, ℕ, zero, suc, Bool, true, List, [], ◌∷◌, ◌++◌, length, Ok, refl, ap, ◌∙◌, append_assoc}
use Rattle.std.specs.List.{flat_map, list_all}
use Rattle.std.specs.Prelude.{◌==◌, ◌&&◌}
use Rattle.std.proofs.lemmas.Bool.{and_parts, and_from, eqb-true, eq-eqb}
use Rattle.class_tree.specs.Ranges.{is_u2, are_counted}
use Rattle.class_tree.specs.Spelling as bytes_of
use Rattle.classfile_items.specs.Reading.{Found, many, counted}
use Rattle.classfile_items.proofs.Laws.{IsSound, IsComplete, step, last, done}
use Rattle.classfile_items.proofs.NumberLaws.{u2_sound, u2_complete}

-- so many items, each of which passes the test
abbrev pub are_many : {A : Type 0} → (A → Bool) → ℕ → List A → Bool
are_many test n xs = (length xs == n) && list_all test xs

number_of : {A : Type 0} (test : A → Bool) (n : ℕ) (xs : List A) → are_many test n xs ≡ true → length xs ≡ n
number_of test n xs are = eqb-true (length xs) n (and_parts _ (list_all test xs) are).0

pub many_sound : {A : Type 0} {item : List ℕ → Found A} {spelling : A → List ℕ} {test : A → Bool} → IsSound item spelling test → (n : ℕ) → IsSound (many item n) (flat_map spelling) (are_many test n)
unfolding many
many_sound sound zero = done [] refl refl
many_sound {item = item} {spelling = spelling} {test = test} sound (suc n) =
    step sound (λ x is_x. step (many_sound sound n) (λ xs are.
    done (x ∷ xs) refl (and_from _ _ (eq-eqb (suc (length xs)) (suc n) (ap suc (number_of test n xs are))) (and_from _ _ is_x (and_parts (length xs == n) _ are).1))))

pub many_complete : {A : Type 0} (item : List ℕ → Found A) (spelling : A → List ℕ) (test : A → Bool) → IsComplete item spelling test → (xs : List A) (rest : List ℕ) → list_all test xs ≡ true → many item (length xs) (flat_map spelling xs ++ rest) ≡ Ok (xs, rest)
unfolding many
many_complete item spelling test complete [] rest passes = refl
many_complete item spelling test complete (x ∷ xs) rest passes =
    let p = and_parts _ _ passes in
    rw (append_assoc (spelling x) (flat_map spelling xs) rest, complete x (flat_map spelling xs ++ rest) p.0, many_complete item spelling test complete xs rest p.1) refl

pub counted_sound : {A : Type 0} {item : List ℕ → Found A} {spelling : A → List ℕ} {test : A → Bool} → IsSound item spelling test → (end : ℕ) → IsSound (counted end item) (bytes_of.counted spelling) (are_counted test)
unfolding counted bytes_of.counted
counted_sound {item = item} {spelling = spelling} {test = test} sound end =
    step (u2_sound end) (λ n is_n. last (many_sound sound n)
    (λ xs are. ap (λ (k : ℕ). bytes_of.u2 k ++ flat_map spelling xs) (number_of test n xs are))
    (λ xs are. and_from _ _ (ap is_u2 (number_of test n xs are) ∙ is_n) (and_parts (length xs == n) _ are).1))

pub counted_complete : {A : Type 0} (item : List ℕ → Found A) (spelling : A → List ℕ) (test : A → Bool) → IsComplete item spelling test → (end : ℕ) → IsComplete (counted end item) (bytes_of.counted spelling) (are_counted test)
unfolding counted bytes_of.counted
counted_complete item spelling test complete end xs rest passes =
    let p = and_parts _ _ passes in
    let items = flat_map spelling xs in
    rw (append_assoc (bytes_of.u2 (length xs)) items rest, u2_complete end (length xs) (items ++ rest) p.0) (many_complete item spelling test complete xs rest p.1)
