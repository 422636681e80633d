-- Lists of which one element is replaced or one is added at the end.
use Rattle.std.proofs.Common.{◌≡◌, ℕ, ◌+◌, Bool, true, false, cond, List, [], ◌∷◌, ◌++◌, length, set, Option, Some, None, refl, sym, ap, ◌∙◌, arith, zero, suc, ◌⊎◌, inl, inr, ⊎_elim}
use Rattle.std.specs.Prelude.{slice_get, All}
use Rattle.std.specs.List.{position_from}
use Rattle.std.specs.Option.{option_or}
use Rattle.std.proofs.lemmas.List.{set-get_or}
use Rattle.std.proofs.lemmas.Option.{slice_get_within, get_or_from_slice_get}

-- what holds of each element holds of one that is found
pub All-slice_get : {X : Type 0} (P : X → Type 0) (xs : List X) (place : ℕ) (x : X) → All P xs → slice_get xs place ≡ Some x → P x
All-slice_get P xs place x all at =
    let holds = all place x (slice_get_within xs place x at) in
    rw (get_or_from_slice_get xs place x x at) at holds

-- the first place that passes, counted from `first` on, where an element is replaced by one that passes alike
pub position_from-set : {X : Type 0} (p : X → Bool) (first : ℕ) (xs : List X) (place : ℕ) (was now : X) → slice_get xs place ≡ Some was → p now ≡ p was → position_from p first (set xs place now) ≡ position_from p first xs
position_from-set p first [] place was now at same = refl
position_from-set p first (x ∷ xs) zero was now at same =
    let e : x ≡ was = cc in
    ap (λ (b : Bool). cond b (Some first) (position_from p (first + 1) xs)) (same ∙ ap p (sym e))
position_from-set p first (x ∷ xs) (suc place) was now at same =
    ap (λ (rest : Option ℕ). cond (p x) (Some first) rest) (position_from-set p (first + 1) xs place was now at same)

found_or : (b : Bool) (first : ℕ) (rest more whole : Option ℕ) → whole ≡ option_or rest more → cond b (Some first) whole ≡ option_or (cond b (Some first) rest) more
found_or true first rest more whole e = refl
found_or false first rest more whole e = e

-- one more at the end
pub position_from_push : {X : Type 0} (p : X → Bool) (first : ℕ) (xs : List X) (y : X) → position_from p first (xs ++ y ∷ []) ≡ option_or (position_from p first xs) (cond (p y) (Some (first + length xs)) None)
position_from_push p first [] y =
    let e : first ≡ first + 0 = omega arith in
    ap (λ (n : ℕ). cond (p y) (Some n) None) e
position_from_push p first (x ∷ xs) y =
    let e : first + 1 + length xs ≡ first + suc (length xs) = omega arith in
    found_or (p x) first (position_from p (first + 1) xs) _ _
    (position_from_push p (first + 1) xs y ∙ ap (λ (n : ℕ). option_or (position_from p (first + 1) xs) (cond (p y) (Some n) None)) e)

-- what is found after one more at the end, or after a replacement, was found before or is the new one
pub slice_get_push : {X : Type 0} (xs : List X) (y : X) (k : ℕ) (x : X) → slice_get (xs ++ y ∷ []) k ≡ Some x → (slice_get xs k ≡ Some x) ⊎ ((k ≡ length xs) × (x ≡ y))
slice_get_push [] y zero x at = let e : x ≡ y = cc in inr (refl, e)
slice_get_push [] y (suc k) x at = absurd cc
slice_get_push (z ∷ xs) y zero x at = inl at
slice_get_push (z ∷ xs) y (suc k) x at = ⊎_elim (λ before. inl before) (λ last. inr (ap (λ (n : ℕ). suc n) last.0, last.1)) (slice_get_push xs y k x at)

pub slice_get_set : {X : Type 0} (xs : List X) (place : ℕ) (y : X) (k : ℕ) (x : X) → slice_get (set xs place y) k ≡ Some x → (slice_get xs k ≡ Some x) ⊎ ((k ≡ place) × (x ≡ y))
slice_get_set [] place y k x at = inl at
slice_get_set (z ∷ xs) zero y zero x at = let e : x ≡ y = cc in inr (refl, e)
slice_get_set (z ∷ xs) zero y (suc k) x at = inl at
slice_get_set (z ∷ xs) (suc place) y zero x at = inl at
slice_get_set (z ∷ xs) (suc place) y (suc k) x at = ⊎_elim (λ before. inl before) (λ here. inr (ap (λ (n : ℕ). suc n) here.0, here.1)) (slice_get_set xs place y k x at)

-- an element that is put where it stands changes nothing
pub set-found : {X : Type 0} (xs : List X) (place : ℕ) (x : X) → slice_get xs place ≡ Some x → set xs place x ≡ xs
set-found {X = X} xs place x at = ap (λ (y : X). set xs place y) (sym (get_or_from_slice_get xs place x x at)) ∙ set-get_or xs place x
