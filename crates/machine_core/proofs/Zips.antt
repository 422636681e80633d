-- Two lists whose elements are related in pairs.
use Rattle.std.proofs.Common.{◌≡◌, ◌∙◌, ◌<◌, ℕ, zero, suc, List, [], ◌∷◌, length, Some, None, refl, sym, ap, subst}
use Rattle.std.specs.Prelude.{slice_get, slice_set, slice_index_or}
use Rattle.std.specs.List.{AllZip}
use Rattle.std.proofs.lemmas.Option.{slice_get_read}
use Rattle.machine_core.specs.Lists.{ChangedAt}

pub zip_at : {A B : Type 0} (R : A → B → Type 0) (xs : List A) (ys : List B) (n : ℕ) (y : B) → AllZip R xs ys → slice_get ys n ≡ Some y → (x : A) × (slice_get xs n ≡ Some x) × R x y
zip_at R [] [] n y h e = absurd cc
zip_at R [] (z ∷ ys) n y h e = absurd h
zip_at R (x ∷ xs) [] n y h e = absurd h
zip_at R (x ∷ xs) (z ∷ ys) zero y h e = let same : z ≡ y = cc in (x, refl, subst (R x) same h.0)
zip_at R (x ∷ xs) (z ∷ ys) (suc n) y h e = zip_at R xs ys n y h.1 e

pub zip_none : {A B : Type 0} (R : A → B → Type 0) (xs : List A) (ys : List B) (n : ℕ) → AllZip R xs ys → slice_get xs n ≡ None → slice_get ys n ≡ None
zip_none R [] [] n h e = refl
zip_none R [] (z ∷ ys) n h e = absurd h
zip_none R (x ∷ xs) [] n h e = refl
zip_none R (x ∷ xs) (z ∷ ys) zero h e = absurd cc
zip_none R (x ∷ xs) (z ∷ ys) (suc n) h e = zip_none R xs ys n h.1 e

pub zip_some : {A B : Type 0} (R : A → B → Type 0) (xs : List A) (ys : List B) (n : ℕ) (x : A) → AllZip R xs ys → slice_get xs n ≡ Some x → (y : B) × (slice_get ys n ≡ Some y) × R x y
zip_some R [] [] n x h e = absurd cc
zip_some R [] (z ∷ ys) n x h e = absurd h
zip_some R (w ∷ xs) [] n x h e = absurd h
zip_some {B = B} R (w ∷ xs) (z ∷ ys) zero x h e = let same : w ≡ x = cc in (z, refl, subst (λ v. R v z) same h.0)
zip_some R (w ∷ xs) (z ∷ ys) (suc n) x h e = zip_some R xs ys n x h.1 e

pub zip_map : {A B : Type 0} (R S : A → B → Type 0) (xs : List A) (ys : List B) → ((x : A) (y : B) → R x y → S x y) → AllZip R xs ys → AllZip S xs ys
zip_map R S [] [] f h = tt
zip_map R S [] (y ∷ ys) f h = absurd h
zip_map R S (x ∷ xs) [] f h = absurd h
zip_map R S (x ∷ xs) (y ∷ ys) f h = (f x y h.0, zip_map R S xs ys f h.1)

pub zip_set : {A B : Type 0} (R : A → B → Type 0) (xs : List A) (ys : List B) (n : ℕ) (x : A) (y : B) → AllZip R xs ys → R x y → AllZip R (slice_set xs n x) (slice_set ys n y)
zip_set R [] [] n x y h r = tt
zip_set R [] (z ∷ ys) n x y h r = absurd h
zip_set R (w ∷ xs) [] n x y h r = absurd h
zip_set R (w ∷ xs) (z ∷ ys) zero x y h r = (r, h.1)
zip_set R (w ∷ xs) (z ∷ ys) (suc n) x y h r = (h.0, zip_set R xs ys n x y h.1 r)

-- one pair is changed, and all others keep what the new relation asks for
pub zip_changed : {A B : Type 0} (by : A → A → Type 0) (R S : A → B → Type 0) (xs xs' : List A) (ys : List B) (n : ℕ) (y y' : B)
    → ChangedAt n by xs xs' → AllZip R xs ys → slice_get ys n ≡ Some y → ((x x' : A) → by x x' → R x y → S x' y') → ((x : A) (z : B) → R x z → S x z) → AllZip S xs' (slice_set ys n y')
zip_changed {A = A} {B = B} by R S xs xs' ys n y y' c h e change keep =
    let t = zip_at R xs ys n y h e in
    let same : t.0 ≡ c.before = let k : Some t.0 ≡ Some c.before = sym t.1 ∙ c.there in cc in
    let now : S c.now y' = change c.before c.now c.changed (subst (λ (v : A). R v y) same t.2) in
    subst (λ (w : List A). AllZip S w (slice_set ys n y')) (sym c.others) (zip_set S xs ys n c.now y' (zip_map R S xs ys keep h) now)

-- the same, where what the changed element is now is known
pub zip_put : {A B : Type 0} (by : A → A → Type 0) (R S : A → B → Type 0) (xs xs' : List A) (ys : List B) (n : ℕ) (y' : B)
    → (c : ChangedAt n by xs xs') → AllZip R xs ys → S c.now y' → ((x : A) (z : B) → R x z → S x z) → AllZip S xs' (slice_set ys n y')
zip_put {A = A} by R S xs xs' ys n y' c h now keep =
    subst (λ (w : List A). AllZip S w (slice_set ys n y')) (sym c.others) (zip_set S xs ys n c.now y' (zip_map R S xs ys keep h) now)

pub set_same : {A : Type 0} (xs : List A) (n : ℕ) (x : A) → slice_get xs n ≡ Some x → slice_set xs n x ≡ xs
set_same [] n x e = absurd cc
set_same {A = A} (y ∷ xs) zero x e = let same : y ≡ x = cc in ap (λ (z : A). z ∷ xs) (sym same)
set_same {A = A} (y ∷ xs) (suc n) x e = ap (λ (w : List A). y ∷ w) (set_same xs n x e)

-- an element that was written at an index
pub changed_by : {A : Type 0} (n : ℕ) (by : A → A → Type 0) (xs : List A) (k : ℕ) (x y : A) → k ≡ length xs → n < k → x ≡ slice_index_or xs n x → by x y → ChangedAt n by xs (slice_set xs n y)
changed_by n by xs k x y len lt is change = record { before = x; now = y; there = slice_get_read xs k n x len lt is; changed = change; others = refl }
