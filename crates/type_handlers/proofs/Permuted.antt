-- What passes a test in a list and in its permutation.
use Rattle.std.proofs.Common.{◌≡◌, ℕ, zero, suc, ◌<◌, Bool, true, false, not, ◌&&◌, ◌||◌, cond, List, [], ◌∷◌, length, get_or, set, swap, filter, refl, sym, ap, ◌∙◌, arith, IsPermutation}
use Rattle.std.specs.List.{list_all, list_any}
use Rattle.std.proofs.lemmas.List.Sorted.{IsPermutation-refl, IsPermutation-cons, IsPermutation-middle, IsPermutation-trans, IsPermutation-keeps, list_any-IsPermutation}

-- A relation holds along each permutation if it is reflexive and transitive, and goes under a head and over an exchange of two heads.
module _ {X : Type 0} (R : List X → List X → Type 0) (same : (xs : List X) → R xs xs)
    (skip : (x : X) (xs ys : List X) → R xs ys → R (x ∷ xs) (x ∷ ys))
    (turn : (x y : X) (xs : List X) → R (x ∷ y ∷ xs) (y ∷ x ∷ xs))
    (chain : (xs ys zs : List X) → R xs ys → R ys zs → R xs zs) where
  to_head : (l : List X) (j : ℕ) (x d : X) → j < length l → R (x ∷ l) (get_or l j d ∷ set l j x)
  to_head [] j x d h = absurd (omega arith)
  to_head (y ∷ l) zero x d h = turn x y l
  to_head (y ∷ l) (suc j) x d h =
      chain _ _ _ (turn x y l) (chain _ _ _ (skip y _ _ (to_head l j x d (omega arith))) (turn y (get_or l j d) (set l j x)))

  exchanged : (l : List X) (i j : ℕ) (d : X) → i < length l → j < length l → R l (set (set l i (get_or l j d)) j (get_or l i d))
  exchanged [] i j d h k = absurd (omega arith)
  exchanged (x ∷ l) zero zero d h k = same (x ∷ l)
  exchanged (x ∷ l) zero (suc j) d h k = to_head l j x d (omega arith)
  exchanged (x ∷ l) (suc i) zero d h k = to_head l i x d (omega arith)
  exchanged (x ∷ l) (suc i) (suc j) d h k = skip x _ _ (exchanged l i j d (omega arith) (omega arith))

  swapped : (l : List X) (i j : ℕ) → i < length l → j < length l → R l (swap l i j)
  swapped [] i j h k = same []
  swapped (x ∷ l) i j h k = exchanged (x ∷ l) i j x h k

  along_permutation : (xs ys : List X) → IsPermutation xs ys → R xs ys
  along_permutation xs = IsPermutation-keeps xs (R xs) (same xs) (λ l i j h k so_far. chain xs l _ so_far (swapped l i j h k))

skipped : {X : Type 0} (b : Bool) (x : X) (k l : List X) → IsPermutation k l → IsPermutation (cond b (x ∷ k) k) (cond b (x ∷ l) l)
skipped true x k l h = IsPermutation-cons x k l h
skipped false x k l h = h

turned : {X : Type 0} (b c : Bool) (x y : X) (l : List X) → IsPermutation (cond b (x ∷ cond c (y ∷ l) l) (cond c (y ∷ l) l)) (cond c (y ∷ cond b (x ∷ l) l) (cond b (x ∷ l) l))
turned true true x y l = IsPermutation-middle (x ∷ []) y l
turned true false x y l = IsPermutation-refl (x ∷ l)
turned false true x y l = IsPermutation-refl (y ∷ l)
turned false false x y l = IsPermutation-refl l

pub IsPermutation-filter : {X : Type 0} (p : X → Bool) (xs ys : List X) → IsPermutation xs ys → IsPermutation (filter p xs) (filter p ys)
IsPermutation-filter p = along_permutation (λ xs ys. IsPermutation (filter p xs) (filter p ys))
    (λ xs. IsPermutation-refl (filter p xs))
    (λ x xs ys h. skipped (p x) x (filter p xs) (filter p ys) h)
    (λ x y xs. turned (p x) (p y) x y (filter p xs))
    (λ xs ys zs. IsPermutation-trans (filter p xs) (filter p ys) (filter p zs))

both_by : (b a n : Bool) → a ≡ not n → (b && a) ≡ not (not b || n)
both_by true a n h = h
both_by false a n h = refl

-- all pass where none fails
list_all-list_any : {X : Type 0} (p : X → Bool) (xs : List X) → list_all p xs ≡ not (list_any (λ x. not (p x)) xs)
list_all-list_any p [] = refl
list_all-list_any p (x ∷ xs) = both_by (p x) _ _ (list_all-list_any p xs)

pub list_all-IsPermutation : {X : Type 0} (p : X → Bool) (xs ys : List X) → IsPermutation xs ys → list_all p xs ≡ list_all p ys
list_all-IsPermutation p xs ys h =
    list_all-list_any p xs ∙ ap not (list_any-IsPermutation (λ x. not (p x)) xs ys h) ∙ sym (list_all-list_any p ys)
