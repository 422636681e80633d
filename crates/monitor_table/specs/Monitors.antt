-- One monitor: who owns it, how often it was entered, and the threads that wait for it (Java Virtual Machine Specification,
-- SE 8, 2.11.10; Java Language Specification, SE 8, 17.1 and 17.2).
use Rattle.std.specs.Prelude.{◌≡◌, ℕ, ◌+◌, ◌-◌, ◌≤◌, ◌==◌, Bool, ◌&&◌, List, [], ◌∷◌, ◌++◌, take, drop, length, Option, None, Some, is_none, MatchOption, All, if◌then◌else◌}
use Rattle.std.specs.List.{list_any}
use Rattle.ti_ids.specs.declared.number.ThreadNo.{ThreadNo}
use Rattle.monitor_table.specs.declared.monitor.Waiting.{Waiting}

-- the owner and how often it has entered; the waits that were notified, in the order of notification; and those that weren't,
-- the longest first
pub record Monitor : Type 0 where
  pub owner : Option ThreadNo
  pub entries : ℕ
  pub notified : List Waiting
  pub waiting : List Waiting

-- nobody owns it, and nobody waits
abbrev pub free : Monitor
free = record { owner = None; entries = 0; notified = []; waiting = [] }

-- whether nobody owns it and nobody waits
abbrev pub is_free : Monitor → Bool
is_free m = is_none m.owner && (length m.notified == 0 && length m.waiting == 0)

-- ---- what a call makes of it

-- the thread owns it, with one entry more
abbrev pub entered : ThreadNo → Monitor → Monitor
entered thread m = record m { owner = Some thread; entries = m.entries + 1 }

-- the owner has one entry less, and with the last one nobody owns it
abbrev pub left : Monitor → Monitor
left m = record m { owner = if m.entries == 1 then None else m.owner; entries = m.entries - 1 }

-- the owner has given up all its entries, and waits behind all others
abbrev pub gone_to_wait : ThreadNo → Monitor → Monitor
gone_to_wait thread m = record m {
  owner = None;
  entries = 0;
  waiting = m.waiting ++ record { thread = thread; entries = m.entries } ∷ [];
}

-- the longest wait is notified, if there is one
abbrev pub with_one_notified : Monitor → Monitor
with_one_notified m = record m { notified = m.notified ++ take 1 m.waiting; waiting = drop 1 m.waiting }

-- every wait is notified
abbrev pub with_all_notified : Monitor → Monitor
with_all_notified m = record m { notified = m.notified ++ m.waiting; waiting = [] }

-- whether a wait is the thread's
abbrev pub is_by : ThreadNo → Waiting → Bool
is_by thread w = w.thread.0 == thread.0

-- whether one of these waits is the thread's
abbrev pub has_wait : ThreadNo → List Waiting → Bool
has_wait thread = list_any (is_by thread)

-- the entries that the first of these waits of the thread gave up
abbrev pub given_up : ThreadNo → List Waiting → ℕ
given_up thread [] = 0
given_up thread (w ∷ waits) = if is_by thread w then w.entries else given_up thread waits

-- these waits without the first one of the thread
abbrev pub without : ThreadNo → List Waiting → List Waiting
without thread [] = []
without thread (w ∷ waits) = if is_by thread w then waits else w ∷ without thread waits

-- the thread's wait is over: it owns the monitor again, with the entries that it gave up
abbrev pub taken_back : ThreadNo → Monitor → Monitor
taken_back thread m = record m {
  owner = Some thread;
  entries = given_up thread m.notified;
  notified = without thread m.notified;
}

-- ---- what every monitor keeps

-- it has entries exactly while it is owned, and every wait gave up one at least
pub record IsCounted (m : Monitor) : Type 0 where
  pub entries : MatchOption m.owner (m.entries ≡ 0) (λ _. 1 ≤ m.entries)
  pub notified : All (λ w. 1 ≤ w.entries) m.notified
  pub waiting : All (λ w. 1 ≤ w.entries) m.waiting
