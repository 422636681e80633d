-- The monitors of all objects: each object has one, and only those that are in use are kept.
use Rattle.std.specs.Prelude.{◌≡◌, ◌≢◌, ℕ, refl, List, false, Option, Some, unwrap_or, IsTrue, if◌then◌else◌}
use Rattle.std.specs.Ordering.{nat_cmp}
use Rattle.std.specs.FinMap as map
use Rattle.std.specs.Coded.{Coded, code_by, coded×, coded_ℕ, coded_list, coded_option}
use Rattle.ti_ids.specs.declared.number.ThreadNo.{ThreadNo}
use Rattle.ti_ids.specs.declared.number.ObjNo.{ObjNo}
use Rattle.monitor_table.specs.declared.monitor.Waiting.{Waiting}
use Rattle.monitor_table.specs.Monitors.{Monitor, free, is_free, has_wait, IsCounted}

-- the monitors in use, by the numbers of their objects
abbrev pub MonitorMap : Type 0
MonitorMap = map.FinMap nat_cmp Monitor

-- the monitor of an object, which is free where the map has none
abbrev pub state_of : MonitorMap → ObjNo → Monitor
state_of monitors object = unwrap_or (map.get monitors object.0) free

-- the monitors with this one for the object; a free one is not kept
abbrev pub with_state : MonitorMap → ObjNo → Monitor → MonitorMap
with_state monitors object m = if is_free m then map.remove monitors object.0 else map.insert monitors object.0 m

-- the monitors after a change of this object's monitor
abbrev pub with_change : (Monitor → Monitor) → MonitorMap → ObjNo → MonitorMap
with_change change monitors object = with_state monitors object (change (state_of monitors object))

-- the thread owns the object's monitor
abbrev pub IsOwner : MonitorMap → ObjNo → ThreadNo → Type 0
IsOwner monitors object thread = (state_of monitors object).owner ≡ Some thread

-- another thread than this one owns it: this other one
abbrev pub IsOtherOwner : MonitorMap → ObjNo → ThreadNo → ThreadNo → Type 0
IsOtherOwner monitors object thread other = IsOwner monitors object other × (other ≢ thread)

-- the thread was notified by the object, and hasn't taken its monitor back
abbrev pub IsNotified : MonitorMap → ObjNo → ThreadNo → Type 0
IsNotified monitors object thread = IsTrue (has_wait thread (state_of monitors object).notified)

-- the thread waits for the object, and wasn't notified
abbrev pub IsWaiting : MonitorMap → ObjNo → ThreadNo → Type 0
IsWaiting monitors object thread = IsTrue (has_wait thread (state_of monitors object).waiting)

-- what every table of monitors keeps
pub record IsLawful (monitors : MonitorMap) : Type 0 where
  -- only monitors in use are kept
  pub in_use : (number : ℕ) (m : Monitor) → map.get monitors number ≡ Some m → is_free m ≡ false
  -- each has entries exactly while it is owned, and every wait gave up one at least
  pub counted : (object : ObjNo) → IsCounted (state_of monitors object)

-- ---- how a proof stores them

-- a thread is stored as its number
abbrev pub thread_code : Coded ThreadNo
thread_code = code_by ℕ coded_ℕ (λ t. t.0) (λ n. record { 0 = n }) (λ _. refl)

-- a wait is stored as the pair of its fields
abbrev pub waiting_code : Coded Waiting
waiting_code =
    code_by (ThreadNo × ℕ) (coded× thread_code coded_ℕ) (λ w. (w.thread, w.entries)) (λ p. record { thread = p.0; entries = p.1 }) (λ _. refl)

-- a monitor is stored as the tuple of its fields
abbrev pub monitor_code : Coded Monitor
monitor_code =
    code_by
    (Option ThreadNo × (ℕ × (List Waiting × List Waiting)))
    (coded× (coded_option thread_code) (coded× coded_ℕ (coded× (coded_list waiting_code) (coded_list waiting_code))))
    (λ m. (m.owner, (m.entries, (m.notified, m.waiting))))
    (λ p. record { owner = p.0; entries = p.1.0; notified = p.1.1.0; waiting = p.1.1.1 })
    (λ _. refl)
