-- What an enter answers of other owners.
use Rattle.std.proofs.Common.{◌≡◌, ◌≢◌, ◌↔◌, true, ap, ◌∙◌}
use Rattle.std.specs.Prelude.{Option, Some, None, Result, Ok, Err, is_err, OnErr}
use Rattle.std.specs.declared.alloc.AllocError.{AllocError}
use Rattle.ti_ids.specs.declared.number.ThreadNo.{ThreadNo}
use Rattle.monitor_table.specs.declared.table.Entry.{Entry}
use Rattle.monitor_table.specs.declared.table.Entry.TheVariants.{Entered, Owned}
use Rattle.monitor_table.specs.Monitors.{Monitor, free}

-- which thread is said to own a monitor in this state, where another one does
abbrev pub TellsOwner : Monitor → ThreadNo → Result Entry AllocError → ThreadNo → Type 0
TellsOwner state thread answer other = (answer ≡ Ok (Owned other)) ↔ (state.owner ≡ Some other) × (other ≢ thread)

-- nobody else is said to, and nobody else does
nobody_else : (state : Monitor) (thread : ThreadNo) (answer : Result Entry AllocError) (other : ThreadNo) → (answer ≡ Ok (Owned other) → ⊥) → (state.owner ≡ Some other → other ≢ thread → ⊥) → TellsOwner state thread answer other
nobody_else state thread answer other untold alone = (λ same. absurd (untold same), λ owner. absurd (alone owner.0 owner.1))

-- nobody owns a free monitor
pub not_owned-free : (state : Monitor) (thread : ThreadNo) → state ≡ free → state.owner ≡ Some thread → ⊥
not_owned-free state thread is owned = cc

err_is_not_ok : (answer : Result Entry AllocError) (entry : Entry) → is_err answer ≡ true → answer ≡ Ok entry → ⊥
err_is_not_ok (Ok x) entry err same = cc
err_is_not_ok (Err e) entry err same = cc

-- a free monitor, where memory ran out
pub TellsOwner-err : (state : Monitor) (thread : ThreadNo) (answer : Result Entry AllocError) (other : ThreadNo) → state ≡ free → is_err answer ≡ true → TellsOwner state thread answer other
TellsOwner-err state thread answer other unused err =
    nobody_else state thread answer other (err_is_not_ok answer (Owned other) err) (λ owned differs. not_owned-free state other unused owned)

-- a free monitor that was entered
pub TellsOwner-free : (state : Monitor) (thread other : ThreadNo) → state ≡ free → TellsOwner state thread (Ok Entered) other
TellsOwner-free state thread other unused =
    nobody_else state thread (Ok Entered) other (λ same. cc) (λ owned differs. not_owned-free state other unused owned)

-- the other owner of a monitor, as a search for one tells it
abbrev pub IsFoundOwner : Monitor → ThreadNo → Option ThreadNo → Type 0
IsFoundOwner state thread found = (other : ThreadNo) → (found ≡ Some other) ↔ (state.owner ≡ Some other) × (other ≢ thread)

-- a monitor without another owner that was entered
pub TellsOwner-entered : (state m : Monitor) (thread : ThreadNo) (found : Option ThreadNo) (other : ThreadNo) → state ≡ m → found ≡ None → IsFoundOwner m thread found → TellsOwner state thread (Ok Entered) other
TellsOwner-entered state m thread found other was is told =
    nobody_else state thread (Ok Entered) other (λ same. cc) (λ owned differs. let other_found = (told other).1 (rw was at owned, differs) in cc)

-- a monitor with another owner
pub TellsOwner-owned : (state m : Monitor) (thread owner : ThreadNo) (found : Option ThreadNo) (other : ThreadNo) → state ≡ m → found ≡ Some owner → IsFoundOwner m thread found → TellsOwner state thread (Ok (Owned owner)) other
TellsOwner-owned state m thread owner found other was is told = (
  λ same. let one : owner ≡ other = cc in rw was ((told other).0 (is ∙ ap Some one)),
  λ owned. let other_found = (told other).1 (rw was at owned) in let one : owner ≡ other = cc in ap (λ t. Ok (Owned t)) one,
)

pub OnErr-always : {P : Type 0} (answer : Result Entry AllocError) → P → OnErr answer P
OnErr-always (Ok x) holds = tt
OnErr-always (Err e) holds = holds
