-- Each change of a monitor keeps all monitors counted, with no object that has two.
use Rattle.std.proofs.Common.{◌≡◌, ℕ, ◌==◌, Bool, true, false, cond, List, [], ◌∷◌, Option, Some, map, refl}
use Rattle.std.specs.Prelude.{find}
use Rattle.std.specs.List.{AllByRecursion, IsDistinct}
use Rattle.std.specs.Option.{option_map_or}
use Rattle.ti_ids.specs.declared.number.ObjNo.{ObjNo}
use Rattle.ti_ids.specs.declared.number.ThreadNo.{ThreadNo}
use Rattle.monitor_table.specs.Monitors.{IsCounted, Monitor, entered, free, with_all_notified, with_one_notified}
use Rattle.monitor_table.proofs.Counted.{IsCounted-free, IsKept-entered, IsKept-with_all_notified, IsKept-with_one_notified}
use Rattle.machine_state.specs.Core.{ObjectMonitor, is_monitor_of, monitors_with}
use Rattle.machine_steps.specs.WithinLimits.{AreCounted}

-- ---- a wait is notified, whether the monitor is owned or not

some_thread : ThreadNo
some_thread = record { 0 = 1 }

pub one_notified_counted : (m : Monitor) → IsCounted m → IsCounted (with_one_notified m)
one_notified_counted m h =
    let owned = (IsKept-with_one_notified some_thread (entered some_thread m) refl (IsKept-entered some_thread m h).counted).counted in
    record { entries = h.entries; notified = owned.notified; waiting = owned.waiting }

pub all_notified_counted : (m : Monitor) → IsCounted m → IsCounted (with_all_notified m)
all_notified_counted m h =
    let owned = (IsKept-with_all_notified some_thread (entered some_thread m) refl (IsKept-entered some_thread m h).counted).counted in
    record { entries = h.entries; notified = owned.notified; waiting = owned.waiting }

-- ---- the monitor of one object is changed

module _ (change : Monitor → Monitor) (object : ObjNo) where
  -- the object's monitor, where this was found
  abbrev found_or_free : Option ObjectMonitor → Monitor
  found_or_free found = option_map_or (λ m. m.monitor) found free

  -- the change keeps what was found counted
  abbrev Keeps : Option ObjectMonitor → Type 0
  Keeps found = IsCounted (found_or_free found) → IsCounted (change (found_or_free found))

  abbrev AllCounted : List ObjectMonitor → Type 0
  AllCounted monitors = AllByRecursion (λ m. IsCounted m.monitor) monitors

  counted_by : (m : ObjectMonitor) (monitors : List ObjectMonitor) (found : Option ObjectMonitor) (same : Bool) → Keeps (cond same (Some m) found)
      → AllCounted (m ∷ monitors) → (Keeps found → AllCounted (monitors_with change object monitors))
      → AllCounted (cond same (record m { monitor = change m.monitor } ∷ monitors) (m ∷ monitors_with change object monitors))
  counted_by m monitors found true keep h rest = (keep h.0, h.1)
  counted_by m monitors found false keep h rest = (h.0, rest keep)

  counted_with : (monitors : List ObjectMonitor) → Keeps (find (is_monitor_of object) monitors) → AllCounted monitors
      → AllCounted (monitors_with change object monitors)
  counted_with [] keep h = (keep IsCounted-free, tt)
  counted_with (m ∷ monitors) keep h =
      counted_by m monitors (find (is_monitor_of object) monitors) (is_monitor_of object m) keep h (λ k. counted_with monitors k h.1)

  -- the numbers of the objects that have monitors
  abbrev numbers : List ObjectMonitor → List ℕ
  numbers monitors = map (λ m. m.object.0) monitors

  abbrev AreOthers : ℕ → List ℕ → Type 0
  AreOthers n others = AllByRecursion (λ k. (n == k) ≡ false) others

  others_by : (n : ℕ) (m : ObjectMonitor) (monitors : List ObjectMonitor) (same : Bool) → AreOthers n (numbers (m ∷ monitors))
      → AreOthers n (numbers (monitors_with change object monitors))
      → AreOthers n (numbers (cond same (record m { monitor = change m.monitor } ∷ monitors) (m ∷ monitors_with change object monitors)))
  others_by n m monitors true h rest = h
  others_by n m monitors false h rest = (h.0, rest)

  others_with : (n : ℕ) (monitors : List ObjectMonitor) → (n == object.0) ≡ false → AreOthers n (numbers monitors)
      → AreOthers n (numbers (monitors_with change object monitors))
  others_with n [] other h = (other, tt)
  others_with n (m ∷ monitors) other h = others_by n m monitors (is_monitor_of object m) h (others_with n monitors other h.1)

  abbrev Differ : List ObjectMonitor → Type 0
  Differ monitors = IsDistinct (λ a b. a == b) (numbers monitors)

  differ_by : (m : ObjectMonitor) (monitors : List ObjectMonitor) (same : Bool) → is_monitor_of object m ≡ same → Differ (m ∷ monitors)
      → Differ (monitors_with change object monitors)
      → Differ (cond same (record m { monitor = change m.monitor } ∷ monitors) (m ∷ monitors_with change object monitors))
  unfolding IsDistinct
  differ_by m monitors true is h rest = h
  differ_by m monitors false is h rest = (others_with m.object.0 monitors is h.0, rest)

  differ_with : (monitors : List ObjectMonitor) → Differ monitors → Differ (monitors_with change object monitors)
  unfolding IsDistinct
  differ_with [] h = (tt, tt)
  differ_with (m ∷ monitors) h = differ_by m monitors (is_monitor_of object m) refl h (differ_with monitors h.1)

  pub monitors_counted : (monitors : List ObjectMonitor) → Keeps (find (is_monitor_of object) monitors) → AreCounted monitors
      → AreCounted (monitors_with change object monitors)
  monitors_counted monitors keep h = record { counted = counted_with monitors keep h.counted; differ = differ_with monitors h.differ }
