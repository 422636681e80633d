-- Every change of a monitor keeps it counted: it has entries exactly while it is owned, and every wait gave up one at least.
use Rattle.std.proofs.Common.{◌≡◌, ℕ, zero, suc, ◌-◌, ◌≤◌, ◌==◌, Bool, true, false, cond, ◌&&◌, List, [], ◌∷◌, ◌++◌, length, take, refl, arith}
use Rattle.std.specs.Prelude.{Option, Some, None, All, MatchOption}
use Rattle.std.proofs.lemmas.Bool.Decides.{nat_tests}
use Rattle.std.proofs.lemmas.List.{length_push}
use Rattle.std.proofs.lemmas.List.Elements.{All-append, All-push, All-take, All-drop}
use Rattle.ti_ids.specs.declared.number.ThreadNo.{ThreadNo}
use Rattle.monitor_table.specs.declared.monitor.Waiting.{Waiting}
use Rattle.monitor_table.specs.Monitors.{Monitor, free, is_free, entered, left, gone_to_wait, with_one_notified, with_all_notified, is_by, has_wait, given_up, without, taken_back, IsCounted}
use Rattle.monitor_table.specs.Index.{IsKept}

-- a wait gave up one entry at least
abbrev GaveUp : Waiting → Type 0
GaveUp w = 1 ≤ w.entries

-- of no waits, of one more, and of one less
none_waits : All GaveUp []
none_waits k d below = absurd (omega arith)

both : (w : Waiting) (waits : List Waiting) → GaveUp w → All GaveUp waits → All GaveUp (w ∷ waits)
both w waits first others zero d below = first
both w waits first others (suc k) d below = others k d (omega arith)

later : (w : Waiting) (waits : List Waiting) → All GaveUp (w ∷ waits) → All GaveUp waits
later w waits all k d below = all (suc k) d (omega arith)

-- nobody has ever entered it
pub IsCounted-free : IsCounted free
IsCounted-free = record { entries = refl; notified = none_waits; waiting = none_waits }

-- an owned monitor has an entry
pub entries-owned : (m : Monitor) (thread : ThreadNo) → m.owner ≡ Some thread → IsCounted m → 1 ≤ m.entries
entries-owned m thread owned counted = rw owned at counted.entries

-- ---- each change keeps it counted

pub IsCounted-entered : (thread : ThreadNo) (m : Monitor) → IsCounted m → IsCounted (entered thread m)
IsCounted-entered thread m counted = record { entries = omega arith; notified = counted.notified; waiting = counted.waiting }

-- with the last entry the owner goes
entries-left : (owner : Option ThreadNo) (entries : ℕ) (last : Bool) → (entries == 1) ≡ last → MatchOption owner (entries ≡ 0) (λ _. 1 ≤ entries) → MatchOption (cond last None owner) (entries - 1 ≡ 0) (λ _. 1 ≤ entries - 1)
entries-left owner entries true is counted = grind (arith, nat_tests)
entries-left None entries false is counted = omega arith
entries-left (Some thread) entries false is counted = grind (arith, nat_tests)

pub IsCounted-left : (m : Monitor) → IsCounted m → IsCounted (left m)
IsCounted-left m counted = record { entries = entries-left m.owner m.entries _ refl counted.entries; notified = counted.notified; waiting = counted.waiting }

pub IsCounted-gone_to_wait : (thread : ThreadNo) (m : Monitor) → 1 ≤ m.entries → IsCounted m → IsCounted (gone_to_wait thread m)
IsCounted-gone_to_wait thread m some counted = record { entries = refl; notified = counted.notified; waiting = All-push GaveUp m.waiting (record { thread = thread; entries = m.entries }) counted.waiting some }

pub IsCounted-with_one_notified : (m : Monitor) → IsCounted m → IsCounted (with_one_notified m)
IsCounted-with_one_notified m counted = record {
  entries = counted.entries;
  notified = All-append GaveUp m.notified (take 1 m.waiting) counted.notified (All-take GaveUp 1 m.waiting counted.waiting);
  waiting = All-drop GaveUp 1 m.waiting counted.waiting;
}

pub IsCounted-with_all_notified : (m : Monitor) → IsCounted m → IsCounted (with_all_notified m)
IsCounted-with_all_notified m counted = record {
  entries = counted.entries;
  notified = All-append GaveUp m.notified m.waiting counted.notified counted.waiting;
  waiting = none_waits;
}

-- what a thread gets back: it has a wait, and that gave up an entry
given_up_some : (thread : ThreadNo) (w : Waiting) (waits : List Waiting) (own : Bool) → is_by thread w ≡ own → GaveUp w → (own ≡ false → 1 ≤ given_up thread waits) → 1 ≤ given_up thread (w ∷ waits)
given_up_some thread w waits true is first others = rw is first
given_up_some thread w waits false is first others = rw is (others refl)

le-given_up : (thread : ThreadNo) (waits : List Waiting) → has_wait thread waits ≡ true → All GaveUp waits → 1 ≤ given_up thread waits
le-given_up thread [] found all = absurd (cc)
le-given_up thread (w ∷ waits) found all =
    given_up_some thread w waits _ refl (all 0 w (omega arith)) (λ other. le-given_up thread waits (rw other at found) (later w waits all))

-- the waits of the others stay
without_one : (thread : ThreadNo) (w : Waiting) (waits : List Waiting) (own : Bool) → is_by thread w ≡ own → GaveUp w → All GaveUp waits → All GaveUp (without thread waits) → All GaveUp (without thread (w ∷ waits))
without_one thread w waits true is first all others = rw is all
without_one thread w waits false is first all others = rw is (both w (without thread waits) first others)

All-without : (thread : ThreadNo) (waits : List Waiting) → All GaveUp waits → All GaveUp (without thread waits)
All-without thread [] all = all
All-without thread (w ∷ waits) all =
    without_one thread w waits _ refl (all 0 w (omega arith)) (later w waits all) (All-without thread waits (later w waits all))

pub IsCounted-taken_back : (thread : ThreadNo) (m : Monitor) → has_wait thread m.notified ≡ true → IsCounted m → IsCounted (taken_back thread m)
IsCounted-taken_back thread m found counted = record {
  entries = le-given_up thread m.notified found counted.notified;
  notified = All-without thread m.notified counted.notified;
  waiting = counted.waiting;
}

-- ---- each change but an exit keeps it in use

is_free-owned : (m : Monitor) (thread : ThreadNo) → m.owner ≡ Some thread → is_free m ≡ false
is_free-owned m thread owned = rw owned refl

used : (a : Bool) (waits : List Waiting) (w : Waiting) → (a && (length (waits ++ w ∷ []) == 0)) ≡ false
used true waits w = grind (arith, nat_tests, length_push)
used false waits w = refl

pub IsKept-entered : (thread : ThreadNo) (m : Monitor) → IsCounted m → IsKept (entered thread m)
IsKept-entered thread m counted = record { in_use = refl; counted = IsCounted-entered thread m counted }

pub IsKept-gone_to_wait : (thread : ThreadNo) (m : Monitor) → m.owner ≡ Some thread → IsCounted m → IsKept (gone_to_wait thread m)
IsKept-gone_to_wait thread m owned counted = record {
  in_use = used (length m.notified == 0) m.waiting _;
  counted = IsCounted-gone_to_wait thread m (entries-owned m thread owned counted) counted;
}

pub IsKept-with_one_notified : (thread : ThreadNo) (m : Monitor) → m.owner ≡ Some thread → IsCounted m → IsKept (with_one_notified m)
IsKept-with_one_notified thread m owned counted =
    record { in_use = is_free-owned (with_one_notified m) thread owned; counted = IsCounted-with_one_notified m counted }

pub IsKept-with_all_notified : (thread : ThreadNo) (m : Monitor) → m.owner ≡ Some thread → IsCounted m → IsKept (with_all_notified m)
IsKept-with_all_notified thread m owned counted =
    record { in_use = is_free-owned (with_all_notified m) thread owned; counted = IsCounted-with_all_notified m counted }

pub IsKept-taken_back : (thread : ThreadNo) (m : Monitor) → has_wait thread m.notified ≡ true → IsCounted m → IsKept (taken_back thread m)
IsKept-taken_back thread m found counted = record { in_use = refl; counted = IsCounted-taken_back thread m found counted }
