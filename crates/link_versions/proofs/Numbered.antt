-- The element of a number, in a list and in the list the other way round.
use Rattle.std.proofs.Common.{◌≡◌, ℕ, zero, suc, ◌-◌, ◌<◌, List, [], ◌∷◌, ◌++◌, length, map, reverse, refl, sym, ap, ◌∙◌, cond, Some, None, arith}
use Rattle.std.specs.Prelude.{slice_get, option_map, ◌==◌}
use Rattle.std.proofs.lemmas.Bool.Decides.{nat_tests}
use Rattle.std.proofs.lemmas.List.{reverse-append, reverse-reverse, length-reverse, length-map}
use Rattle.link_versions.specs.Classes.{numbered}

pub slice_get-push : {A : Type 0} (xs : List A) (y : A) (i : ℕ) → slice_get (xs ++ y ∷ []) i ≡ cond (i == length xs) (Some y) (slice_get xs i)
slice_get-push [] y zero = refl
slice_get-push [] y (suc i) = grind (arith, nat_tests)
slice_get-push (x ∷ xs) y zero = grind (arith, nat_tests)
slice_get-push (x ∷ xs) y (suc i) = grind (arith, nat_tests, slice_get-push xs y i)

reverse-cons : {A : Type 0} (x : A) (xs : List A) → reverse (x ∷ xs) ≡ reverse xs ++ x ∷ []
reverse-cons x xs = reverse-append (x ∷ []) xs

numbered-from_end : {A : Type 0} (xs : List A) (i : ℕ) → numbered xs (suc i) ≡ slice_get (reverse xs) i
numbered-from_end [] i = refl
numbered-from_end (x ∷ xs) i =
    rw (reverse-cons x xs, slice_get-push (reverse xs) x i) (grind (arith, nat_tests, numbered-from_end xs i, length-reverse xs))

-- nothing has the number 0
pub numbered-zero : {A : Type 0} (xs : List A) → numbered xs 0 ≡ None
numbered-zero [] = refl
numbered-zero (x ∷ xs) = grind (arith, nat_tests, numbered-zero xs)

-- the first element has the number 1 from the end of the list the other way round
pub numbered-reverse : {A : Type 0} (xs : List A) (n : ℕ) → 0 < n → numbered (reverse xs) n ≡ slice_get xs (n - 1)
numbered-reverse xs zero some = absurd (omega arith)
numbered-reverse xs (suc i) some =
    let same : suc i - 1 ≡ i = omega arith in
    numbered-from_end (reverse xs) i ∙ ap (λ ys. slice_get ys i) (reverse-reverse xs) ∙ ap (slice_get xs) (sym same)

pub numbered-map : {A B : Type 0} (f : A → B) (xs : List A) (n : ℕ) → numbered (map f xs) n ≡ option_map f (numbered xs n)
numbered-map f [] n = refl
numbered-map f (x ∷ xs) n = grind (arith, nat_tests, numbered-map f xs n, length-map xs f)
