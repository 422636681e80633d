-- What a filter leaves.
use Rattle.std.proofs.Common.{◌≡◌, Bool, true, false, not, ◌&&◌, ◌||◌, cond, List, [], ◌∷◌, filter, All, refl, ap, ◌∙◌}
use Rattle.std.specs.List.{list_all}
use Rattle.std.proofs.lemmas.List.Elements.{All-head, All-tail}

module _ {X : Type 0} (p q : X → Bool) where
  pub filter_same_on : (xs : List X) → All (λ x. p x ≡ q x) xs → filter p xs ≡ filter q xs
  filter_same_on [] h = refl
  filter_same_on (x ∷ xs) h = rw (All-head (λ x. p x ≡ q x) x xs h, filter_same_on xs (All-tail (λ x. p x ≡ q x) x xs h)) refl

  twice_by : (b c : Bool) (x : X) (l : List X) → (c ≡ true → b ≡ true) → c ≡ q x → filter q (cond b (x ∷ l) l) ≡ cond c (x ∷ filter q l) (filter q l)
  twice_by true c x l h e = rw e refl
  twice_by false true x l h e = absurd (cc (h refl))
  twice_by false false x l h e = refl

  -- where what passes the second test passes the first
  pub filter_twice : ((x : X) → q x ≡ true → p x ≡ true) → (xs : List X) → filter q (filter p xs) ≡ filter q xs
  filter_twice h [] = refl
  filter_twice h (x ∷ xs) = twice_by (p x) (q x) x (filter p xs) (h x) refl ∙ rw (filter_twice h xs) refl

  kept_by : (b : Bool) (x : X) (l : List X) (r : Bool) → list_all q l ≡ r → list_all q (cond b (x ∷ l) l) ≡ ((not b || q x) && r)
  kept_by true x l r h = ap (λ z. q x && z) h
  kept_by false x l r h = h

  -- all that are kept pass a test exactly if each passes it or is not kept
  pub list_all-filter : (xs : List X) → list_all q (filter p xs) ≡ list_all (λ x. not (p x) || q x) xs
  list_all-filter [] = refl
  list_all-filter (x ∷ xs) = kept_by (p x) x (filter p xs) _ (list_all-filter xs)

pub filter_none : {X : Type 0} (p : X → Bool) (xs : List X) → All (λ x. p x ≡ false) xs → filter p xs ≡ []
filter_none p [] h = refl
filter_none p (x ∷ xs) h = rw (All-head (λ x. p x ≡ false) x xs h, filter_none p xs (All-tail (λ x. p x ≡ false) x xs h)) refl
