-- How many entries there are: those of a monitor, and those that its waits gave up and get back.
use Rattle.std.specs.Prelude.{◌≡◌, ℕ, ◌+◌, ◌≤◌, sum_by}
use Rattle.ti_ids.specs.declared.number.ThreadNo.{ThreadNo}
use Rattle.monitor_table.specs.Monitors.{Monitor, entered, left, gone_to_wait, with_one_notified, with_all_notified, taken_back}

-- the entries of a monitor and of all its waits
abbrev pub all_entries : Monitor → ℕ
all_entries m = m.entries + (sum_by (λ w. w.entries) m.notified + sum_by (λ w. w.entries) m.waiting)

-- an entry makes them one more
abbrev pub EntryAddsOne : Type 0
EntryAddsOne = (thread : ThreadNo) (m : Monitor) → all_entries (entered thread m) ≡ all_entries m + 1

-- no other change makes them more: an exit, a wait, a notification of one wait or of all, and the end of a wait
pub record AddsNone (thread : ThreadNo) (m : Monitor) : Type 0 where
  pub exit : all_entries (left m) ≤ all_entries m
  pub wait : all_entries (gone_to_wait thread m) ≤ all_entries m
  pub notify : all_entries (with_one_notified m) ≤ all_entries m
  pub notify_all : all_entries (with_all_notified m) ≤ all_entries m
  pub take_back : all_entries (taken_back thread m) ≤ all_entries m

abbrev pub OthersAddNone : Type 0
OthersAddNone = (thread : ThreadNo) (m : Monitor) → AddsNone thread m
