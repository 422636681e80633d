-- A thread's wait among others, and the waits of a monitor as one list.
use Rattle.std.proofs.Common.{◌≡◌, ℕ, suc, ◌+◌, ◌-◌, ◌<◌, ◌≤◌, Bool, true, false, List, [], ◌∷◌, ◌++◌, length, get_or, take, drop, refl, sym, ap, subst, ◌∙◌, arith}
use Rattle.std.specs.Prelude.{Option, Some, IsSome, position}
use Rattle.std.proofs.Math.Seq.{take-add, take-append_seam, drop-append_seam}
use Rattle.std.proofs.lemmas.Bool.Decides.{nat_tests}
use Rattle.std.proofs.lemmas.List.{drop-drop, take-append-drop, length-take-le, get_or-take}
use Rattle.std.proofs.lemmas.List.Edits.{length-remove, remove-append_left}
use Rattle.std.specs.List.{remove, position_or_len}
use Rattle.ti_ids.specs.declared.number.ThreadNo.{ThreadNo}
use Rattle.monitor_table.specs.declared.monitor.Waiting.{Waiting}
use Rattle.monitor_table.specs.Monitors.{is_by, has_wait, given_up, without}

-- the first wait of a thread stands at this place
record IsFirstWait (thread : ThreadNo) (waits : List Waiting) (place : ℕ) : Type 0 where
  within : place < length waits
  entries : (d : Waiting) → (get_or waits place d).entries ≡ given_up thread waits
  others : remove waits place ≡ without thread waits

-- it is this one, or the first of the others
first_of : (thread : ThreadNo) (w : Waiting) (waits : List Waiting) (b : Bool) → is_by thread w ≡ b → (b ≡ false → IsFirstWait thread waits (position_or_len (is_by thread) waits)) → IsFirstWait thread (w ∷ waits) (position_or_len (is_by thread) (w ∷ waits))
first_of thread w waits true e later = rw e (record { within = omega arith; entries = λ d. rw e refl; others = rw e refl })
first_of thread w waits false e later =
    let rest = later refl in
    let next : 1 + position_or_len (is_by thread) waits ≡ suc (position_or_len (is_by thread) waits) = omega arith in
    rw (e, next) (record { within = omega (arith, rest.within); entries = λ d. rw e (rest.entries d); others = rw e (ap (λ ws. w ∷ ws) rest.others) })

-- so it stands behind all waits of other threads
first_at_len : (thread : ThreadNo) (waits : List Waiting) → has_wait thread waits ≡ true → IsFirstWait thread waits (position_or_len (is_by thread) waits)
first_at_len thread [] found = absurd (cc)
first_at_len thread (w ∷ waits) found = first_of thread w waits _ refl (λ other. first_at_len thread waits (rw other at found))

-- a search finds its place
position-within : (thread : ThreadNo) (waits : List Waiting) → position_or_len (is_by thread) waits < length waits → position (is_by thread) waits ≡ Some (position_or_len (is_by thread) waits)
position-within thread waits within = grind (arith, nat_tests)

-- a thread that has a wait among these has a first one
pub IsSome-position : (thread : ThreadNo) (waits : List Waiting) → has_wait thread waits ≡ true → IsSome (position (is_by thread) waits)
IsSome-position thread waits found = rw (position-within thread waits (first_at_len thread waits found).within) refl

-- and it stands at the place that a search finds
IsFirstWait-position : (thread : ThreadNo) (waits : List Waiting) (place : ℕ) → has_wait thread waits ≡ true → position (is_by thread) waits ≡ Some place → IsFirstWait thread waits place
IsFirstWait-position thread waits place found at =
    let first = first_at_len thread waits found in
    let same : position_or_len (is_by thread) waits ≡ place = cc (position-within thread waits first.within) in
    subst (IsFirstWait thread waits) same first

-- one more of a list's front is the first of what is behind it
pub one_more : (waits : List Waiting) (n : ℕ) → (take (n + 1) waits ≡ take n waits ++ take 1 (drop n waits)) × (drop (n + 1) waits ≡ drop 1 (drop n waits))
one_more waits n = (take-add n 1 waits, sym (drop-drop 1 n waits))

-- what is left in the front of a list, and behind it, when the wait at this place of the front is taken out
pub record IsTakenOut (thread : ThreadNo) (waits : List Waiting) (n place : ℕ) : Type 0 where
  pub within : place < n
  pub entries : (d : Waiting) → (get_or waits place d).entries ≡ given_up thread (take n waits)
  pub front : take (n - 1) (remove waits place) ≡ without thread (take n waits)
  pub behind : drop (n - 1) (remove waits place) ≡ drop n waits

-- the first wait of the front is taken out
IsTakenOut-first : (thread : ThreadNo) (waits : List Waiting) (n place : ℕ) → n ≤ length waits → IsFirstWait thread (take n waits) place → IsTakenOut thread waits n place
IsTakenOut-first thread waits n place inside first =
    let size = length-take-le n waits inside in
    let within : place < n = omega (arith, first.within) in
    let parts : remove waits place ≡ remove (take n waits) place ++ drop n waits =
    ap (λ ws. remove ws place) (sym (take-append-drop n waits)) ∙ remove-append_left (take n waits) (drop n waits) place first.within in
    let rest : n - 1 ≡ length (remove (take n waits) place) = omega (arith, length-remove (take n waits) place first.within) in
    record {
      within = within;
      entries = λ d. ap (λ w. w.entries) (sym (get_or-take n waits place d within)) ∙ first.entries d;
      front = rw (parts, rest, take-append_seam) first.others;
      behind = rw (parts, rest) (drop-append_seam (remove (take n waits) place) (drop n waits));
    }

-- the wait that a search of the front finds is taken out
pub taken_out : (thread : ThreadNo) (waits : List Waiting) (n place : ℕ) (result : Option ℕ) → n ≤ length waits → has_wait thread (take n waits) ≡ true → result ≡ position (is_by thread) (take n waits) → result ≡ Some place → IsTakenOut thread waits n place
taken_out thread waits n place result inside found searched at =
    IsTakenOut-first thread waits n place inside (IsFirstWait-position thread (take n waits) place found (sym searched ∙ at))
