-- The first unit of a text that passes a test.
use Rattle.std.proofs.Common.{◌≡◌, ◌<◌, ◌+◌, ℕ, Bool, true, false, not, ◌&&◌, ltb, List, [], ◌∷◌, ◌++◌, length, get_or, take, drop, replicate, Some, refl, ap, arith, zero, suc, length-append}
use Rattle.std.specs.List.{list_all, position, position_or_len}
use Rattle.std.proofs.lemmas.Bool.{lt-ltb}

pub and-left : (a b : Bool) → (a && b) ≡ true → a ≡ true
and-left true b h = refl
and-left false b h = h

pub and-right : (a b : Bool) → (a && b) ≡ true → b ≡ true
and-right true b h = h
and-right false b h = absurd cc

first_at : (p : ℕ → Bool) (xs : List ℕ) (y : ℕ) (ys : List ℕ) → list_all (λ x. not (p x)) xs ≡ true → p y ≡ true → position_or_len p (xs ++ y ∷ ys) ≡ length xs
first_at p [] y ys none here = rw here refl
first_at p (x ∷ xs) y ys none here =
    let fails = and-left (not (p x)) (list_all (λ z. not (p z)) xs) none in
    let others = and-right (not (p x)) (list_all (λ z. not (p z)) xs) none in
    let rest = first_at p xs y ys others here in
    rw (fails, rest) (omega arith)

-- it stands where the units that fail end
pub position_at : (p : ℕ → Bool) (xs : List ℕ) (y : ℕ) (ys : List ℕ) → list_all (λ x. not (p x)) xs ≡ true → p y ≡ true → position p (xs ++ y ∷ ys) ≡ Some (length xs)
position_at p xs y ys none here =
    let within : ltb (length xs) (length (xs ++ y ∷ ys)) ≡ true = lt-ltb _ _ (omega (arith, length-append xs (y ∷ ys))) in
    rw (first_at p xs y ys none here, within) refl

-- a text is what stands before a place, the unit there, and what stands behind it
pub split_there : (text : List ℕ) (i : ℕ) → i < length text → text ≡ take i text ++ get_or text i 0 ∷ drop (i + 1) text
split_there [] i h = absurd (omega arith)
split_there (x ∷ xs) zero h = refl
split_there (x ∷ xs) (suc i) h = let e : suc i + 1 ≡ suc (i + 1) = omega arith in rw e (ap {B = List ℕ} (λ z. x ∷ z) (split_there xs i (omega arith)))

-- so many units that are all the same
pub take-replicate_of : (text : List ℕ) (n unit : ℕ) → n < length text → ((k : ℕ) → k < n → get_or text k 0 ≡ unit) → take n text ≡ replicate n unit
take-replicate_of text zero unit h all = refl
take-replicate_of [] (suc n) unit h all = absurd (omega arith)
take-replicate_of (x ∷ xs) (suc n) unit h all =
    let rest = take-replicate_of xs n unit (omega arith) (λ k l. all (suc k) (omega arith)) in
    let here : x ≡ unit = all 0 (omega arith) in
    rw (rest, here) refl
