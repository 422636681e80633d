-- A table's index: where a monitor stands, and what a change of one object's monitor makes of it.
use Rattle.std.proofs.Common.{◌≡◌, ◌≢◌, ◌⊎◌, ℕ, true, refl, sym, ap, subst, ◌∙◌, inl, inr}
use Rattle.std.specs.Prelude.{Option, Some, None, option_map, unwrap_or, IsSome, IsSomeAnd, IfSome}
use Rattle.std.proofs.lemmas.Bool.{cases_eq}
use Rattle.std.specs.FinMap as finite
use Rattle.slab.specs.Slab.{Slab, get}
use Rattle.ti_ids.specs.declared.number.ThreadNo.{ThreadNo}
use Rattle.ti_ids.specs.declared.number.ObjNo.{ObjNo}
use Rattle.monitor_table.specs.Monitors.{Monitor, free, has_wait, IsCounted}
use Rattle.monitor_table.specs.Table.{state_of, IsLawful}
use Rattle.monitor_table.specs.Index.{Places, place_in, shown, IsKept, IsIndexed}
use Rattle.monitor_table.proofs.Counted.{IsCounted-free}
use Rattle.monitor_table.proofs.Shown.{monitor_in, get-shown}

-- a thread is its number
pub same_thread : (thread other : ThreadNo) → thread.0 ≡ other.0 → thread ≡ other
same_thread thread other same = let number : ℕ → ThreadNo = λ n. record { 0 = n } in ap number same

-- what stands at the place of an object that has one
pub record StandsAt (monitor_at : ℕ → Option Monitor) (key : ℕ) : Type 0 where
  pub monitor : Monitor
  pub found : monitor_at key ≡ Some monitor
  pub kept : IsKept monitor

stands : (monitor_at : ℕ → Option Monitor) (key : ℕ) (slot : Option Monitor) → monitor_at key ≡ slot → IsSomeAnd slot IsKept → StandsAt monitor_at key
stands monitor_at key None found kept = absurd kept
stands monitor_at key (Some m) found kept = record { monitor = m; found = found; kept = kept }

pub StandsAt-named : (place_of : ℕ → Option ℕ) (monitor_at : ℕ → Option Monitor) (number key : ℕ) → IsIndexed place_of monitor_at → place_of number ≡ Some key → StandsAt monitor_at key
StandsAt-named place_of monitor_at number key indexed at = stands monitor_at key _ refl (indexed.named number key at)

-- an object that has a place has the monitor there
pub get-shown-placed : (places : Places) (monitors : Slab Monitor) (number key : ℕ) (m : Monitor) → place_in places number ≡ Some key → get monitors key ≡ Some m → finite.get (shown places monitors) number ≡ Some m
get-shown-placed places monitors number key m at found =
    get-shown places monitors number ∙ ap (option_map (monitor_in monitors)) at ∙ ap (λ slot. Some (unwrap_or slot free)) found

-- and one that has none has none
pub get-shown-absent : (places : Places) (monitors : Slab Monitor) (number : ℕ) → place_in places number ≡ None → finite.get (shown places monitors) number ≡ None
get-shown-absent places monitors number at = get-shown places monitors number ∙ ap (option_map (monitor_in monitors)) at

-- so the object's monitor is that one
pub state_of-placed : (places : Places) (monitors : Slab Monitor) (object : ObjNo) (key : ℕ) (m : Monitor) → place_in places object.0 ≡ Some key → get monitors key ≡ Some m → state_of (shown places monitors) object ≡ m
state_of-placed places monitors object key m at found = ap (λ slot. unwrap_or slot free) (get-shown-placed places monitors object.0 key m at found)

-- and it is free where the object has no place
pub state_of-absent : (places : Places) (monitors : Slab Monitor) (object : ObjNo) → place_in places object.0 ≡ None → state_of (shown places monitors) object ≡ free
state_of-absent places monitors object at = ap (λ slot. unwrap_or slot free) (get-shown-absent places monitors object.0 at)

-- an object that has no entry has no place
pub absent-shown : (places : Places) (monitors : Slab Monitor) (number : ℕ) → finite.get (shown places monitors) number ≡ None → place_in places number ≡ None
absent-shown places monitors number none = by_place _ (sym (get-shown places monitors number) ∙ none)
  where
    by_place : (place : Option ℕ) → option_map (monitor_in monitors) place ≡ None → place ≡ None
    by_place None none = refl
    by_place (Some k) none = absurd (cc)

-- an object that has notified a thread has a place
pub placed-notified : (thread : ThreadNo) (places : Places) (monitors : Slab Monitor) (object : ObjNo) → has_wait thread (state_of (shown places monitors) object).notified ≡ true → IsSome (place_in places object.0)
placed-notified thread places monitors object found = by_place _ refl
  where
    by_place : (place : Option ℕ) → place_in places object.0 ≡ place → IsSome place
    by_place None at = let none = state_of-absent places monitors object at in absurd (cc (rw none at found))
    by_place (Some k) at = refl

-- one object's monitor changes: the object's place, if it has one, is this key, which is nobody else's; then the object has the
-- key and this monitor, or neither
pub record ChangesOne (place_of new_place_of : ℕ → Option ℕ) (monitor_at new_monitor_at : ℕ → Option Monitor) (number key : ℕ) (slot : Option Monitor) : Type 0 where
  pub own : (k : ℕ) → place_of number ≡ Some k → k ≡ key
  pub alone : (other : ℕ) → place_of other ≡ Some key → other ≡ number
  pub place : new_place_of number ≡ option_map (λ _. key) slot
  pub places : (other : ℕ) → other ≢ number → new_place_of other ≡ place_of other
  pub monitor : new_monitor_at key ≡ slot
  pub monitors : (other : ℕ) → other ≢ key → new_monitor_at other ≡ monitor_at other

-- p and q give the places before and after, s and t the monitors
module _ (p q : ℕ → Option ℕ) (s t : ℕ → Option Monitor) (number key : ℕ) (slot : Option Monitor) (indexed : IsIndexed p s) (one : ChangesOne p q s t number key slot) where
  -- another object that has a place has another one
  elsewhere : (other k : ℕ) → other ≢ number → p other ≡ Some k → k ≢ key
  elsewhere other k differ at same = differ (one.alone other (at ∙ ap Some same))

  -- the object itself has the key and the monitor, or neither
  placed_here : (k : ℕ) (w : Option Monitor) → slot ≡ w → q number ≡ Some k → (k ≡ key) × IsSome w
  placed_here k None is at = absurd (cc (one.place))
  placed_here k (Some m) is at = (cc (one.place), refl)

  kept_here : (w : Option Monitor) → IsSome w → IfSome w IsKept → IsSomeAnd w IsKept
  kept_here None some kept = absurd (cc)
  kept_here (Some m) some kept = kept

  named_at : IfSome slot IsKept → (n k : ℕ) → q n ≡ Some k → (n ≡ number) ⊎ (n ≢ number) → IsSomeAnd (t k) IsKept
  named_at kept n k at (inl same) =
      let found = placed_here k slot refl (ap q (sym same) ∙ at) in
      rw (found.0, one.monitor) (kept_here slot found.1 kept)
  named_at kept n k at (inr differ) =
      let was : p n ≡ Some k = sym (one.places n differ) ∙ at in
      rw (one.monitors k (elsewhere n k differ was)) (indexed.named n k was)

  apart_at : (n o k : ℕ) → q n ≡ Some k → q o ≡ Some k → (n ≡ number) ⊎ (n ≢ number) → (o ≡ number) ⊎ (o ≢ number) → n ≡ o
  apart_at n o k at other (inl first) (inl second) = first ∙ sym second
  apart_at n o k at other (inl first) (inr second) =
      let found = placed_here k slot refl (ap q (sym first) ∙ at) in
      absurd (elsewhere o k second (sym (one.places o second) ∙ other) found.0)
  apart_at n o k at other (inr first) (inl second) =
      let found = placed_here k slot refl (ap q (sym second) ∙ other) in
      absurd (elsewhere n k first (sym (one.places n first) ∙ at) found.0)
  apart_at n o k at other (inr first) (inr second) =
      indexed.apart n o k (sym (one.places n first) ∙ at) (sym (one.places o second) ∙ other)

  place_here : (w : Option Monitor) → IsSome w → option_map (λ _. key) w ≡ Some key
  place_here None some = absurd (cc)
  place_here (Some m) some = refl

  other_at : (k : ℕ) → IsSome (t k) → (k ≡ key) ⊎ (k ≢ key) → (n : ℕ) × (q n ≡ Some k)
  other_at k some (inl same) =
      (number, one.place ∙ place_here slot (rw (same, one.monitor) at some) ∙ ap Some (sym same))
  other_at k some (inr differ) =
      let was = indexed.no_other k (rw (one.monitors k differ) at some) in
      (was.0, one.places was.0 (λ same. differ (one.own k (ap p (sym same) ∙ was.1))) ∙ was.1)

  -- the new places and monitors are an index again
  pub IsIndexed-changed : IfSome slot IsKept → IsIndexed q t
  IsIndexed-changed kept = record {
    named = λ n k at. named_at kept n k at (cases_eq n number);
    apart = λ n o k at other. apart_at n o k at other (cases_eq n number) (cases_eq o number);
    no_other = λ k some. other_at k some (cases_eq k key);
  }

  -- another object has the monitor that it had
  same_elsewhere : (n : ℕ) (k : Option ℕ) → n ≢ number → p n ≡ k → option_map (λ j. unwrap_or (t j) free) k ≡ option_map (λ j. unwrap_or (s j) free) k
  same_elsewhere n None differ at = refl
  same_elsewhere n (Some k) differ at = ap (λ w. Some (unwrap_or w free)) (one.monitors k (elsewhere n k differ at))

  same_here : (w : Option Monitor) → slot ≡ w → option_map (λ j. unwrap_or (t j) free) (option_map (λ _. key) w) ≡ w
  same_here None is = refl
  same_here (Some m) is = ap (λ w. Some (unwrap_or w free)) (one.monitor ∙ is)

  pub monitor_elsewhere : (n : ℕ) → n ≢ number → option_map (λ j. unwrap_or (t j) free) (q n) ≡ option_map (λ j. unwrap_or (s j) free) (p n)
  monitor_elsewhere n differ = rw (one.places n differ) (same_elsewhere n _ differ refl)

  pub monitor_here : option_map (λ j. unwrap_or (t j) free) (q number) ≡ slot
  monitor_here = rw (one.place) (same_here slot refl)

-- ---- what every table keeps

module _ (places : Places) (monitors : Slab Monitor) (indexed : IsIndexed (place_in places) (get monitors)) where
  seen_kept : (number : ℕ) (place : Option ℕ) → place_in places number ≡ place → (m : Monitor) → finite.get (shown places monitors) number ≡ Some m → IsKept m
  seen_kept number None at m seen = absurd (cc (get-shown-absent places monitors number at))
  seen_kept number (Some key) at m seen =
      let here = StandsAt-named _ _ number key indexed at in
      let same : here.monitor ≡ m = cc (get-shown-placed places monitors number key here.monitor at here.found) in
      subst IsKept same here.kept

  seen_counted : (slot : Option Monitor) → ((m : Monitor) → slot ≡ Some m → IsKept m) → IsCounted (unwrap_or slot free)
  seen_counted None kept = IsCounted-free
  seen_counted (Some m) kept = (kept m refl).counted

  pub IsLawful-shown : IsLawful (shown places monitors)
  IsLawful-shown = record {
    in_use = λ number m seen. (seen_kept number _ refl m seen).in_use;
    counted = λ object. seen_counted _ (seen_kept object.0 _ refl);
  }
