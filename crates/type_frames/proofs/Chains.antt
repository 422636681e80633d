-- The computed chain of superclasses has what the least relation has: one that is longer than the list of known classes comes
-- back to a class, and goes on without what lies between.
use Rattle.std.proofs.Common.{◌≡◌, ℕ, zero, suc, ◌<◌, ◌≤◌, ◌∙◌, Bool, true, false, cond, List, [], ◌∷◌, map, length, Option, Some, None, refl, sym, subst, ⊎_elim, inl, inr, arith}
use Rattle.std.specs.Prelude.{bytes_eq, ◌||◌, find, ◌⊎◌}
use Rattle.std.specs.Option.{option_and_then}
use Rattle.std.specs.List.{list_any}
use Rattle.std.proofs.lemmas.Slice.Eq.{bytes_eq-Decides}
use Rattle.std.proofs.lemmas.List.{length-map}
use Rattle.jv_names.specs.Names.{Name}
use Rattle.type_frames.specs.declared.hierarchy.HierarchyClass.{HierarchyClass}
use Rattle.type_frames.specs.Hierarchies.{Known, superclass, IsSubclass, Same, Above, chain_within, is_subclass}

-- ---- tests

or_true : (p q : Bool) → q ≡ true → (p || q) ≡ true
or_true true q e = refl
or_true false q e = e

or_first : (p q : Bool) → p ≡ true → (p || q) ≡ true
or_first true q e = refl
or_first false q e = absurd cc

or_right : (p q r : Bool) → (q ≡ true → r ≡ true) → (p || q) ≡ true → (p || r) ≡ true
or_right true q r f e = refl
or_right false q r f e = f e

or_other : (p q : Bool) → (p ≡ true → ⊥) → (p || q) ≡ true → q ≡ true
or_other true q f e = absurd (f refl)
or_other false q f e = e

or_cases : (p q : Bool) → (p || q) ≡ true → (p ≡ true) ⊎ (q ≡ true)
or_cases true q e = inl refl
or_cases false q e = inr e

bool_cases : (p : Bool) → (p ≡ true) ⊎ (p ≡ false)
bool_cases true = inl refl
bool_cases false = inr refl

same_name : (a b : Name) → bytes_eq a b ≡ true → a ≡ b
same_name a b e = (bytes_eq-Decides a b).0 e

pub name_itself : (a : Name) → bytes_eq a a ≡ true
name_itself a = (bytes_eq-Decides a a).1 refl

-- ---- a list of names without one

without : Name → List Name → List Name
without a [] = []
without a (x ∷ xs) = cond (bytes_eq a x) (without a xs) (x ∷ without a xs)

no_longer_at : (here : Bool) (x : Name) (xs ys : List Name) → length ys ≤ length xs → length (cond here ys (x ∷ ys)) ≤ suc (length xs)
no_longer_at true x xs ys le = omega arith
no_longer_at false x xs ys le = omega arith

no_longer : (a : Name) (xs : List Name) → length (without a xs) ≤ length xs
unfolding without
no_longer a [] = omega arith
no_longer a (x ∷ xs) = no_longer_at (bytes_eq a x) x xs (without a xs) (no_longer a xs)

shorter_at : (here there : Bool) (x : Name) (xs ys : List Name) → length ys ≤ length xs → (there ≡ true → length ys < length xs) → (here || there) ≡ true
    → length (cond here ys (x ∷ ys)) < suc (length xs)
shorter_at true there x xs ys le lt e = omega arith
shorter_at false there x xs ys le lt e = let less = lt e in omega arith

shorter : (a : Name) (xs : List Name) → list_any (bytes_eq a) xs ≡ true → length (without a xs) < length xs
unfolding without
shorter a [] e = absurd cc
shorter a (x ∷ xs) e = shorter_at (bytes_eq a x) (list_any (bytes_eq a) xs) x xs (without a xs) (no_longer a xs) (shorter a xs) e

kept_at : (here : Bool) (b x : Name) (xs ys : List Name) → (here ≡ true → bytes_eq b x ≡ true → ⊥) → (list_any (bytes_eq b) xs ≡ true → list_any (bytes_eq b) ys ≡ true)
    → list_any (bytes_eq b) (x ∷ xs) ≡ true → list_any (bytes_eq b) (cond here ys (x ∷ ys)) ≡ true
kept_at true b x xs ys apart kept e = kept (or_other (bytes_eq b x) _ (apart refl) e)
kept_at false b x xs ys apart kept e = or_right (bytes_eq b x) _ _ kept e

kept : (a b : Name) (xs : List Name) → (b ≡ a → ⊥) → list_any (bytes_eq b) xs ≡ true → list_any (bytes_eq b) (without a xs) ≡ true
unfolding without
kept a b [] apart e = e
kept a b (x ∷ xs) apart e = kept_at (bytes_eq a x) b x xs (without a xs) (λ f g. apart (same_name b x g ∙ sym (same_name a x f))) (kept a b xs apart) e

-- ---- ways upwards

module _ (h : Known) where
  -- up from a class to another one, over classes of a list
  data Way (among : List Name) : Name → Name → Type 0 where
    Here : (name : Name) → Way among name name
    Up : (name parent of : Name) → list_any (bytes_eq name) among ≡ true → superclass h name ≡ Some parent → Way among parent of → Way among name of

  -- it goes over a class never again, or goes on from there without coming back
  abbrev Cut : List Name → Name → Name → Name → Type 0
  Cut among a name of = Way (without a among) name of ⊎ ((parent : Name) × (superclass h a ≡ Some parent) × Way (without a among) parent of)

  cut_up : (among : List Name) (a name parent of : Name) → list_any (bytes_eq name) among ≡ true → superclass h name ≡ Some parent → Cut among a parent of → (name ≡ a) ⊎ (name ≡ a → ⊥) → Cut among a name of
  cut_up among a name parent of is_among e (inr on) decided = inr on
  cut_up among a name parent of is_among e (inl way) (inl same) = inr (parent, subst (λ (x : Name). superclass h x ≡ Some parent) same e, way)
  cut_up among a name parent of is_among e (inl way) (inr other) = inl (Up name parent of (kept a name among other is_among) e way)

  decided : (a b : Name) → (a ≡ b) ⊎ (a ≡ b → ⊥)
  decided a b = ⊎_elim (λ e. inl (same_name a b e)) (λ e. inr (λ same. absurd (let f = (bytes_eq-Decides a b).1 same in cc))) (bool_cases (bytes_eq a b))

  cut : (among : List Name) (a : Name) {name of : Name} → Way among name of → Cut among a name of
  cut among a (Here name) = inl (Here name)
  cut among a (Up name parent of is_among e way) = cut_up among a name parent of is_among e (cut among a way) (decided name a)

  -- ---- the chain

  abbrev is_on : ℕ → Name → Name → Bool
  is_on n name of = list_any (bytes_eq of) (chain_within h n name)

  on_itself : (n : ℕ) (name : Name) → is_on n name name ≡ true
  on_itself zero name = or_first (bytes_eq name name) _ (name_itself name)
  on_itself (suc n) name = or_first (bytes_eq name name) _ (name_itself name)

  on_above : (n : ℕ) (name parent of : Name) → superclass h name ≡ Some parent → is_on n parent of ≡ true → is_on (suc n) name of ≡ true
  on_above n name parent of e on = or_true (bytes_eq of name) _ (rw e on)

  none_among : (among : List Name) (a : Name) → length among ≤ 0 → list_any (bytes_eq a) among ≡ true → ⊥
  none_among [] a le e = cc
  none_among (x ∷ xs) a le e = omega arith

  after_cut : (n : ℕ) (among : List Name) (name parent of : Name) → superclass h name ≡ Some parent → ((x : Name) → Way among x of → is_on n x of ≡ true)
      → Way among parent of ⊎ ((p : Name) × (superclass h name ≡ Some p) × Way among p of) → is_on (suc n) name of ≡ true
  after_cut n among name parent of e rest (inl way) = on_above n name parent of e (rest parent way)
  after_cut n among name parent of e rest (inr on) = on_above n name on.0 of on.1 (rest on.0 on.2)

  -- a way over so many classes ends on a chain as long
  on_chain : (n : ℕ) (among : List Name) {name of : Name} → length among ≤ n → Way among name of → is_on n name of ≡ true
  on_chain zero among le (Here name) = on_itself zero name
  on_chain zero among le (Up name parent of is_among e way) = absurd (none_among among name le is_among)
  on_chain (suc n) among le (Here name) = on_itself (suc n) name
  on_chain (suc n) among le (Up name parent of is_among e way) =
      let less = shorter name among is_among in
      after_cut n (without name among) name parent of e (λ x w. on_chain n (without name among) (omega arith) w) (cut among name way)

-- ---- the relation

names_of : Known → List Name
names_of h = map (λ c. c.name) h

known_at : (here : Bool) (c : HierarchyClass) (cs : Known) (name parent : Name) → bytes_eq c.name name ≡ here
    → (option_and_then (λ (x : HierarchyClass). x.superclass) (find (λ x. bytes_eq x.name name) cs) ≡ Some parent → list_any (bytes_eq name) (map (λ x. x.name) cs) ≡ true)
    → option_and_then (λ (x : HierarchyClass). x.superclass) (cond here (Some c) (find (λ x. bytes_eq x.name name) cs)) ≡ Some parent
    → list_any (bytes_eq name) (c.name ∷ map (λ x. x.name) cs) ≡ true
known_at true c cs name parent is rest e = or_first (bytes_eq name c.name) _ ((bytes_eq-Decides name c.name).1 (sym (same_name c.name name is)))
known_at false c cs name parent is rest e = or_true (bytes_eq name c.name) _ (rest e)

-- a class with a superclass is known
known : (h : Known) (name parent : Name) → superclass h name ≡ Some parent → list_any (bytes_eq name) (names_of h) ≡ true
unfolding names_of
known [] name parent e = absurd cc
known (c ∷ cs) name parent e = known_at (bytes_eq c.name name) c cs name parent refl (known cs name parent) e

way_of : (h : Known) {name of : Name} → IsSubclass h name of → Way h (names_of h) name of
way_of h (Same {name = name}) = Here name
way_of h (Above {name = name} {parent = parent} {of = of} e above) = Up name parent of (known h name parent e) e (way_of h above)

pub chain_from : (h : Known) (name of : Name) → IsSubclass h name of → is_subclass h name of ≡ true
unfolding names_of
chain_from h name of below = on_chain h (length h) (names_of h) (let e = length-map h (λ (c : HierarchyClass). c.name) in omega arith) (way_of h below)

module _ (h : Known) where
  below_above : (n : ℕ) (name of : Name) (parent : Option Name) → superclass h name ≡ parent → ((p : Name) → is_on h n p of ≡ true → IsSubclass h p of)
      → list_any (bytes_eq of) (elim parent [ None ↦ [] | Some p ↦ chain_within h n p ]) ≡ true → IsSubclass h name of
  below_above n name of None e rest on = absurd cc
  below_above n name of (Some p) e rest on = Above e (rest p on)

  below_same : (name of : Name) → bytes_eq of name ≡ true → IsSubclass h name of
  below_same name of e = subst (λ (x : Name). IsSubclass h name x) (sym (same_name of name e)) (Same {name = name})

  below : (n : ℕ) (name of : Name) → is_on h n name of ≡ true → IsSubclass h name of
  below zero name of on = ⊎_elim (below_same name of) (λ f. absurd cc) (or_cases (bytes_eq of name) false on)
  below (suc n) name of on = ⊎_elim (below_same name of) (below_above n name of (superclass h name) refl (λ p. below n p of)) (or_cases (bytes_eq of name) _ on)

pub chain_below : (h : Known) (name of : Name) → is_subclass h name of ≡ true → IsSubclass h name of
chain_below h name of on = below h (length h) name of on
