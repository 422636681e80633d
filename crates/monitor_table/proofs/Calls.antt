-- What each call makes of the table.
use Rattle.std.proofs.Common.{◌≡◌, ◌≢◌, ◌⊎◌, ℕ, ◌≤◌, Bool, true, false, cond, refl, sym, ap, subst, ◌∙◌, inl, inr}
use Rattle.std.specs.Prelude.{Option, Some, None, option_map, IsSomeAnd, IfSome}
use Rattle.std.proofs.lemmas.Bool.{cases_eq}
use Rattle.std.specs.FinMap as finite
use Rattle.slab.specs.Slab.{Slab, get, with_value, Updates}
use Rattle.slab.proofs.SlabLemmas.{Updates-with_value}
use Rattle.ti_ids.specs.declared.number.ThreadNo.{ThreadNo}
use Rattle.ti_ids.specs.declared.number.ObjNo.{ObjNo}
use Rattle.monitor_table.specs.declared.table.Monitors.TheInside.{Inside}
use Rattle.monitor_table.specs.Monitors.{Monitor, free, is_free, entered, left, taken_back, IsCounted}
use Rattle.monitor_table.specs.Table.{MonitorMap, state_of, with_state, with_change, IsOwner, IsNotified}
use Rattle.monitor_table.specs.Index.{Places, place_in, shown, IsKept, IsIndexed, PutsPlace}
use Rattle.monitor_table.proofs.Counted.{IsCounted-free, IsCounted-left, entries-owned, IsKept-entered, IsKept-taken_back}
use Rattle.monitor_table.proofs.Shown.{entry_of, get-shown, same_monitors, get-with_state-here, get-with_state-other}
use Rattle.monitor_table.proofs.Indexed.{ChangesOne, IsIndexed-changed, monitor_here, monitor_elsewhere, StandsAt-named, get-shown-placed, absent-shown}

-- places and monitors are a table, and contracts see it as this map
pub record IsTable (places : Places) (monitors : Slab Monitor) (seen : MonitorMap) : Type 0 where
  pub indexed : IsIndexed (place_in places) (get monitors)
  pub shows : shown places monitors ≡ seen

-- a monitor that is counted may stand in the table where it isn't free
kept_entry : (m : Monitor) (b : Bool) → is_free m ≡ b → IsCounted m → IfSome (cond b None (Some m)) IsKept
kept_entry m true unused counted = tt
kept_entry m false used counted = record { in_use = used; counted = counted }

IsTable-changed : (places new_places : Places) (monitors new_monitors : Slab Monitor) (object : ObjNo) (key : ℕ) (m : Monitor) → IsIndexed (place_in places) (get monitors) → ChangesOne (place_in places) (place_in new_places) (get monitors) (get new_monitors) object.0 key (entry_of m) → IsCounted m → IsTable new_places new_monitors (with_state (shown places monitors) object m)
IsTable-changed places new_places monitors new_monitors object key m indexed one counted = record {
  indexed = IsIndexed-changed _ _ _ _ _ _ _ indexed one (kept_entry m _ refl counted);
  shows = same_monitors _ _ (λ n. by_case n (cases_eq n object.0));
}
  where
    by_case : (n : ℕ) → (n ≡ object.0) ⊎ (n ≢ object.0) → finite.get (shown new_places new_monitors) n ≡ finite.get (with_state (shown places monitors) object m) n
    by_case n (inl same) = rw same (get-shown new_places new_monitors object.0 ∙ monitor_here _ _ _ _ _ _ _ indexed one ∙ sym (get-with_state-here (shown places monitors) object m))
    by_case n (inr differ) =
        get-shown new_places new_monitors n ∙ monitor_elsewhere _ _ _ _ _ _ _ indexed one n differ ∙ sym (get-shown places monitors n) ∙ sym (get-with_state-other (shown places monitors) object m n differ)

entry_of-used : (m : Monitor) → is_free m ≡ false → Some m ≡ entry_of m
entry_of-used m used = rw used refl

kept_at : (slot : Option Monitor) (m : Monitor) → slot ≡ Some m → IsSomeAnd slot IsKept → IsKept m
kept_at None m found kept = absurd kept
kept_at (Some w) m found kept = let same : w ≡ m = cc in subst IsKept same kept

-- ---- calls on a monitor that is in use

-- in a table, an object's monitor is this one, at this place
pub record Stands (places : Places) (monitors : Slab Monitor) (object : ObjNo) (key : ℕ) (m : Monitor) : Type 0 where
  pub indexed : IsIndexed (place_in places) (get monitors)
  pub at : place_in places object.0 ≡ Some key
  pub found : get monitors key ≡ Some m

pub stands : (table : Inside) (object : ObjNo) (key : ℕ) (m : Monitor) → IsIndexed (place_in table.places.items) (get table.monitors) → place_in table.places.items object.0 ≡ Some key → get table.monitors key ≡ Some m → Stands table.places.items table.monitors object key m
stands table object key m indexed at found = record { indexed = indexed; at = at; found = found }

module _ {places : Places} {monitors : Slab Monitor} {object : ObjNo} {key : ℕ} {m : Monitor} (here : Stands places monitors object key m) where
  -- it is the object's state, and may stand there
  pub state_of-here : state_of (shown places monitors) object ≡ m
  state_of-here = rw (get-shown-placed places monitors object.0 key m here.at here.found) refl

  pub IsKept-here : IsKept m
  IsKept-here = kept_at (get monitors key) m here.found (here.indexed.named object.0 key here.at)

  own : (k : ℕ) → place_in places object.0 ≡ Some k → k ≡ key
  own k also = let at = here.at in cc

  alone : (other : ℕ) → place_in places other ≡ Some key → other ≡ object.0
  alone other also = here.indexed.apart other object.0 key also here.at

  -- another monitor that may stand there was written
  IsTable-written : (new : Monitor) → IsKept new → IsTable places (with_value monitors key new) (with_state (shown places monitors) object new)
  IsTable-written new kept =
      let updates = Updates-with_value monitors key new (rw here.found refl) in
      let entry = entry_of-used new kept.in_use in
      IsTable-changed places places monitors (with_value monitors key new) object key new here.indexed
      (record {
        own = own;
        alone = alone;
        place = here.at ∙ ap (option_map (λ _. key)) entry;
        places = λ other differ. refl;
        monitor = updates.changed ∙ entry;
        monitors = updates.others;
      })
      kept.counted

  -- what a change makes of the monitor was written, and may stand there
  IsTable-written_change : (change : Monitor → Monitor) (new : Monitor) → new ≡ change m → IsKept new → IsTable places (with_value monitors key new) (with_change change (shown places monitors) object)
  IsTable-written_change change new changed kept =
      let after = λ (state : Monitor). IsTable places (with_value monitors key new) (with_state (shown places monitors) object state) in
      subst after (changed ∙ ap change (sym state_of-here)) (IsTable-written new kept)

  -- it was changed by its owner
  pub IsTable-by_owner : (thread : ThreadNo) (change : Monitor → Monitor) → ((state : Monitor) → state.owner ≡ Some thread → IsCounted state → IsKept (change state)) → (new : Monitor) → IsOwner (shown places monitors) object thread → new ≡ change m → IsTable places (with_value monitors key new) (with_change change (shown places monitors) object)
  IsTable-by_owner thread change keeps new owner changed =
      IsTable-written_change change new changed (rw changed (keeps m (rw state_of-here at owner) IsKept-here.counted))

  -- it was entered
  pub IsTable-entered : (thread : ThreadNo) (new : Monitor) → new ≡ entered thread m → IsTable places (with_value monitors key new) (with_change (entered thread) (shown places monitors) object)
  IsTable-entered thread new changed =
      IsTable-written_change (entered thread) new changed (rw changed (IsKept-entered thread m IsKept-here.counted))

  -- a thread that was notified took it back
  pub IsTable-taken_back : (thread : ThreadNo) (new : Monitor) → IsNotified (shown places monitors) object thread → new ≡ taken_back thread m → IsTable places (with_value monitors key new) (with_change (taken_back thread) (shown places monitors) object)
  IsTable-taken_back thread new notified changed =
      IsTable-written_change (taken_back thread) new changed (rw changed (IsKept-taken_back thread m (rw state_of-here at notified) IsKept-here.counted))

  -- its owner has an entry
  pub entries-here : (thread : ThreadNo) → IsOwner (shown places monitors) object thread → 1 ≤ m.entries
  entries-here thread owner = entries-owned m thread (rw state_of-here at owner) IsKept-here.counted

  -- its owner exited, which left it in use
  pub IsTable-left : (new : Monitor) → new ≡ left m → is_free new ≡ false → IsTable places (with_value monitors key new) (with_change left (shown places monitors) object)
  IsTable-left new changed used =
      IsTable-written_change left new changed (record { in_use = used; counted = rw changed (IsCounted-left m IsKept-here.counted) })

  -- its owner exited, which left it free, and it was taken out
  pub IsTable-removed : (rest : Places) (others : Slab Monitor) (new : Monitor) → new ≡ left m → is_free new ≡ true → PutsPlace places rest object.0 None → Updates (with_value monitors key new) others key None → IsTable rest others (with_change left (shown places monitors) object)
  IsTable-removed rest others new changed unused places_updated monitors_updated =
      let written = Updates-with_value monitors key new (rw here.found refl) in
      let entry : None ≡ entry_of new = rw unused refl in
      let after = λ (state : Monitor). IsTable rest others (with_state (shown places monitors) object state) in
      subst after (changed ∙ ap left (sym state_of-here))
      (IsTable-changed places rest monitors others object key new here.indexed
      (record {
        own = own;
        alone = alone;
        place = places_updated.here ∙ ap (option_map (λ _. key)) entry;
        places = λ other differ. places_updated.others other differ;
        monitor = monitors_updated.changed ∙ entry;
        monitors = λ other differ. monitors_updated.others other differ ∙ written.others other differ;
      })
      (rw changed (IsCounted-left m IsKept-here.counted)))

-- ---- the first entry into a monitor that is free

-- an object that had no place has this one
IsTable-added : (thread : ThreadNo) (places more : Places) (monitors others : Slab Monitor) (object : ObjNo) (key : ℕ) → IsIndexed (place_in places) (get monitors) → place_in places object.0 ≡ None → get monitors key ≡ None → PutsPlace places more object.0 (Some key) → Updates monitors others key (Some (entered thread free)) → IsTable more others (with_state (shown places monitors) object (entered thread free))
IsTable-added thread places more monitors others object key indexed absent vacant places_updated monitors_updated =
    IsTable-changed places more monitors others object key (entered thread free) indexed
    (record {
      own = λ k also. absurd (cc);
      alone = λ other also. let named = StandsAt-named _ _ other key indexed also in absurd (cc (named.found));
      place = places_updated.here;
      places = λ other differ. places_updated.others other differ;
      monitor = monitors_updated.changed;
      monitors = monitors_updated.others;
    })
    (IsKept-entered thread free IsCounted-free).counted

-- room was made first, and the place is the slab's next one
pub record IsAdded (thread : ThreadNo) (places more : Places) (monitors room others : Slab Monitor) (object : ObjNo) (key stored : ℕ) (value : Monitor) : Type 0 where
  pub room_made : room ≡ record monitors { capacity = room.capacity }
  pub key_is_next : key ≡ room.vacant_key
  pub key_was_vacant : get room key ≡ None
  pub place : PutsPlace places more object.0 (Some key)
  pub stored_is_next : stored ≡ room.vacant_key
  pub value_made : value ≡ entered thread free
  pub monitor : Updates room others stored (Some value)

pub IsTable-first : {thread : ThreadNo} {places more : Places} {monitors room others : Slab Monitor} {object : ObjNo} {key stored : ℕ} {value : Monitor} → IsAdded thread places more monitors room others object key stored value → IsIndexed (place_in places) (get monitors) → finite.get (shown places monitors) object.0 ≡ None → IsTable more others (with_state (shown places monitors) object (entered thread free))
IsTable-first {thread} {places} {more} {monitors} {room} {others} {object} {key} {stored} {value} added indexed unseen =
    let same : (k : ℕ) → get room k ≡ get monitors k = λ k. ap (λ slab. get slab k) added.room_made in
    let own : stored ≡ key = added.stored_is_next ∙ sym added.key_is_next in
    let updated : Updates room others key (Some (entered thread free)) = rw (← own, ← added.value_made) added.monitor in
    IsTable-added thread places more monitors others object key indexed (absent-shown places monitors object.0 unseen) (sym (same key) ∙ added.key_was_vacant) added.place
    (record { changed = updated.changed; others = λ other differ. updated.others other differ ∙ same other })
