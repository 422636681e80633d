-- What the definitions of monitors say together, for whoever stands above this crate.
use Rattle.std.proofs.Common.{◌≡◌, ◌≢◌, ◌⊎◌, ℕ, ◌≤◌, ◌==◌, Bool, true, false, cond, ◌&&◌, List, [], ◌∷◌, length, refl, sym, ap, subst, ◌∙◌, inl, inr, arith}
use Rattle.std.specs.Prelude.{Option, Some, None, unwrap_or, is_none, MatchOption}
use Rattle.std.proofs.lemmas.Bool.{cases_eq}
use Rattle.std.proofs.lemmas.Bool.Decides.{nat_tests}
use Rattle.std.specs.Ordering.{nat_cmp}
use Rattle.std.specs.FinMap as finite
use Rattle.ti_ids.specs.declared.number.ThreadNo.{ThreadNo}
use Rattle.ti_ids.specs.declared.number.ObjNo.{ObjNo}
use Rattle.monitor_table.specs.declared.monitor.Waiting.{Waiting}
use Rattle.monitor_table.specs.Monitors.{Monitor, free, is_free, IsCounted}
use Rattle.monitor_table.specs.Table.{MonitorMap, state_of, with_state, IsLawful}
use Rattle.monitor_table.proofs.Counted.{IsCounted-free}
use Rattle.monitor_table.proofs.Shown.{same_monitors, get-with_state-here, get-with_state-other}

-- ---- one monitor

-- a monitor that nobody owns and for which nobody waits is the free one
pub free-is_free : (m : Monitor) → is_free m ≡ true → IsCounted m → m ≡ free
free-is_free m unused counted = by_parts m.owner m.entries m.notified m.waiting unused counted.entries
  where
    by_parts : (owner : Option ThreadNo) (entries : ℕ) (notified waiting : List Waiting) → (is_none owner && (length notified == 0 && length waiting == 0)) ≡ true → MatchOption owner (entries ≡ 0) (λ _. 1 ≤ entries) → ◌≡◌ {A = Monitor} (record { owner = owner; entries = entries; notified = notified; waiting = waiting }) free
    by_parts (Some thread) entries notified waiting unused counted = absurd (cc)
    by_parts None entries (w ∷ notified) waiting unused counted = absurd (grind (arith, nat_tests))
    by_parts None entries [] (w ∷ waiting) unused counted = absurd (grind (arith, nat_tests))
    by_parts None entries [] [] unused counted = ap (λ n. record { owner = None; entries = n; notified = []; waiting = [] }) counted

entry-unwrap : (m : Monitor) (b : Bool) → is_free m ≡ b → IsCounted m → unwrap_or (cond b None (Some m)) free ≡ m
entry-unwrap m true unused counted = sym (free-is_free m unused counted)
entry-unwrap m false used counted = refl

-- ---- all monitors

-- the monitor that was put is there
pub state_of-with_state-same : (monitors : MonitorMap) (object : ObjNo) (m : Monitor) → IsCounted m → state_of (with_state monitors object m) object ≡ m
state_of-with_state-same monitors object m counted =
    ap (λ slot. unwrap_or slot free) (get-with_state-here monitors object m) ∙ entry-unwrap m _ refl counted

-- and every other object has the monitor that it had
pub state_of-with_state-other : (monitors : MonitorMap) (object other : ObjNo) (m : Monitor) → other.0 ≢ object.0 → state_of (with_state monitors object m) other ≡ state_of monitors other
state_of-with_state-other monitors object other m differ = ap (λ slot. unwrap_or slot free) (get-with_state-other monitors object m other.0 differ)

-- no object has a monitor in use
pub IsLawful-empty : IsLawful finite.empty
IsLawful-empty = record {
  in_use = λ number m found. absurd (cc (finite.get-empty {X = Monitor} nat_cmp number));
  counted = λ object. rw (finite.get-empty {X = Monitor} nat_cmp object.0) IsCounted-free;
}

-- a counted monitor may be put
pub IsLawful-with_state : (monitors : MonitorMap) (object : ObjNo) (m : Monitor) → IsLawful monitors → IsCounted m → IsLawful (with_state monitors object m)
IsLawful-with_state monitors object m lawful counted = record {
  in_use = λ number w found. in_use_at number w found (cases_eq number object.0);
  counted = λ other. counted_at other (cases_eq other.0 object.0);
}
  where
    used_entry : (b : Bool) → is_free m ≡ b → (w : Monitor) → cond b None (Some m) ≡ Some w → is_free w ≡ false
    used_entry true unused w found = absurd (cc)
    used_entry false used w found = let same : m ≡ w = cc in subst (λ x. is_free x ≡ false) same used

    in_use_at : (number : ℕ) (w : Monitor) → finite.get (with_state monitors object m) number ≡ Some w → (number ≡ object.0) ⊎ (number ≢ object.0) → is_free w ≡ false
    in_use_at number w found (inl same) = used_entry _ refl w (sym (get-with_state-here monitors object m) ∙ ap (finite.get (with_state monitors object m)) (sym same) ∙ found)
    in_use_at number w found (inr differ) = lawful.in_use number w (sym (get-with_state-other monitors object m number differ) ∙ found)

    counted_at : (other : ObjNo) → (other.0 ≡ object.0) ⊎ (other.0 ≢ object.0) → IsCounted (state_of (with_state monitors object m) other)
    counted_at other (inl same) =
        let monitor_of = λ (number : ℕ). unwrap_or (finite.get (with_state monitors object m) number) free in
        subst (λ number. IsCounted (monitor_of number)) (sym same) (subst IsCounted (sym (state_of-with_state-same monitors object m counted)) counted)
    counted_at other (inr differ) = subst IsCounted (sym (state_of-with_state-other monitors object other m differ)) (lawful.counted other)

-- where each object has the same monitor, the maps are one
pub same_states : (old new : MonitorMap) → IsLawful old → IsLawful new → ((object : ObjNo) → state_of old object ≡ state_of new object) → old ≡ new
same_states old new was is same = same_monitors old new (λ number. by_entries number _ _ refl refl (same (record { 0 = number })))
  where
    used_is_not_free : (m : Monitor) → is_free m ≡ false → m ≡ free → ⊥
    used_is_not_free m used unused = cc (ap is_free unused)

    by_entries : (number : ℕ) (a b : Option Monitor) → finite.get old number ≡ a → finite.get new number ≡ b → unwrap_or (finite.get old number) free ≡ unwrap_or (finite.get new number) free → finite.get old number ≡ finite.get new number
    by_entries number None None old_at new_at same = old_at ∙ sym new_at
    by_entries number None (Some n) old_at new_at same = absurd (used_is_not_free n (is.in_use number n new_at) (sym (rw (old_at, new_at) at same)))
    by_entries number (Some m) None old_at new_at same = absurd (used_is_not_free m (was.in_use number m old_at) (rw (old_at, new_at) at same))
    by_entries number (Some m) (Some n) old_at new_at same = old_at ∙ ap Some (rw (old_at, new_at) at same) ∙ sym new_at

-- to put the monitor that is there changes nothing
pub with_state-state_of : (monitors : MonitorMap) (object : ObjNo) → IsLawful monitors → with_state monitors object (state_of monitors object) ≡ monitors
with_state-state_of monitors object lawful =
    same_states (with_state monitors object m) monitors (IsLawful-with_state monitors object m lawful counted) lawful (λ other. same_at other (cases_eq other.0 object.0))
  where
    m : Monitor
    m = state_of monitors object

    counted : IsCounted m
    counted = lawful.counted object

    same_at : (other : ObjNo) → (other.0 ≡ object.0) ⊎ (other.0 ≢ object.0) → state_of (with_state monitors object m) other ≡ state_of monitors other
    same_at other (inl same) =
        let before = λ (number : ℕ). unwrap_or (finite.get monitors number) free in
        let after = λ (number : ℕ). unwrap_or (finite.get (with_state monitors object m) number) free in
        ap after same ∙ state_of-with_state-same monitors object m counted ∙ ap before (sym same)
    same_at other (inr differ) = state_of-with_state-other monitors object other m differ
