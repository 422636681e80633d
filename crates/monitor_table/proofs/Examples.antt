-- The definitions, computed at one monitor's life.
use Rattle.std.proofs.Common.{◌≡◌, [], ◌∷◌, false, refl}
use Rattle.std.specs.Prelude.{Some, None}
use Rattle.ti_ids.specs.declared.number.ThreadNo.{ThreadNo}
use Rattle.monitor_table.specs.declared.monitor.Waiting.{Waiting}
use Rattle.monitor_table.specs.Monitors.{Monitor, free, is_free, entered, left, gone_to_wait, with_one_notified, with_all_notified, taken_back}

abbrev first : ThreadNo
first = record { 0 = 1 }

abbrev second : ThreadNo
second = record { 0 = 2 }

abbrev third : ThreadNo
third = record { 0 = 3 }

abbrev wait_of : ThreadNo → Waiting
wait_of thread = record { thread = thread; entries = 1 }

-- the second of two entries is exited first, and with the other one the monitor is free again
inner_exit : left (entered first (entered first free)) ≡ entered first free
inner_exit = refl

last_exit : left (entered first free) ≡ free
last_exit = refl

-- a thread that has entered twice waits, and another one enters
abbrev waited_for : Monitor
waited_for = gone_to_wait first (entered first (entered first free))

gives_up_both : waited_for ≡ record { owner = None; entries = 0; notified = []; waiting = record { thread = first; entries = 2 } ∷ [] }
gives_up_both = refl

in_use : is_free waited_for ≡ false
in_use = refl

-- of two waits the longer one is notified
abbrev notified_once : Monitor
notified_once = with_one_notified (entered third (gone_to_wait second (entered second waited_for)))

longest_first : notified_once ≡ record {
  owner = Some third;
  entries = 1;
  notified = record { thread = first; entries = 2 } ∷ [];
  waiting = wait_of second ∷ [];
}
longest_first = refl

-- the thread gets both its entries back
both_back : taken_back first (left notified_once) ≡ record { owner = Some first; entries = 2; notified = []; waiting = wait_of second ∷ [] }
both_back = refl

-- all are notified, in the order of their waits, and any of them may be the first to own the monitor again
abbrev notified_all : Monitor
notified_all = with_all_notified (entered first (gone_to_wait third (entered third (gone_to_wait second (entered second free)))))

all_in_order : notified_all ≡ record { owner = Some first; entries = 1; notified = wait_of second ∷ wait_of third ∷ []; waiting = [] }
all_in_order = refl

later_one_first : taken_back third (left notified_all) ≡ record { owner = Some third; entries = 1; notified = wait_of second ∷ []; waiting = [] }
later_one_first = refl

-- with nobody left to notify nothing changes
nobody_waits : with_one_notified notified_all ≡ notified_all
nobody_waits = refl
