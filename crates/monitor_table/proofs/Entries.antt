-- The entries of a monitor and of its waits, after each change.
use Rattle.std.proofs.Common.{◌≡◌, ℕ, ◌+◌, Bool, true, false, cond, List, [], ◌∷◌, take, drop, refl, arith}
use Rattle.std.specs.Prelude.{sum_by}
use Rattle.std.proofs.lemmas.List.Sums.{sum_by-append, sum_by-cons, sum_by_push}
use Rattle.ti_ids.specs.declared.number.ThreadNo.{ThreadNo}
use Rattle.monitor_table.specs.declared.monitor.Waiting.{Waiting}
use Rattle.monitor_table.specs.Monitors.{Monitor, is_by, given_up, without}
use Rattle.monitor_table.specs.Laws.{AddsNone}

-- the entries that these waits gave up
abbrev sum_of : List Waiting → ℕ
sum_of waits = sum_by (λ (w : Waiting). w.entries) waits

-- one wait and the others
first_and_rest : (waits : List Waiting) → sum_of (take 1 waits) + sum_of (drop 1 waits) ≡ sum_of waits
first_and_rest [] = refl
first_and_rest (w ∷ waits) = rw (sum_by-cons (λ (w : Waiting). w.entries) w waits, sum_by-cons (λ (w : Waiting). w.entries) w []) (omega arith)

-- what a thread gets back, and what the others gave up
given_or_not : (own : Bool) (given : ℕ) (w : Waiting) (waits rest : List Waiting) → given + sum_of rest ≡ sum_of waits → cond own w.entries given + sum_of (cond own waits (w ∷ rest)) ≡ sum_of (w ∷ waits)
given_or_not true given w waits rest e = rw (sum_by-cons (λ (w : Waiting). w.entries) w waits) refl
given_or_not false given w waits rest e = rw (sum_by-cons (λ (w : Waiting). w.entries) w waits, sum_by-cons (λ (w : Waiting). w.entries) w rest) (omega (arith, e))

given_and_rest : (thread : ThreadNo) (waits : List Waiting) → given_up thread waits + sum_of (without thread waits) ≡ sum_of waits
given_and_rest thread [] = refl
given_and_rest thread (w ∷ waits) = given_or_not (is_by thread w) (given_up thread waits) w waits (without thread waits) (given_and_rest thread waits)

pub adds_none : (thread : ThreadNo) (m : Monitor) → AddsNone thread m
adds_none thread m = record {
  exit = omega arith;
  wait = omega (arith, sum_by_push (λ (w : Waiting). w.entries) m.waiting (record { thread = thread; entries = m.entries }));
  notify = omega (arith, sum_by-append (λ (w : Waiting). w.entries) m.notified (take 1 m.waiting), first_and_rest m.waiting);
  notify_all = omega (arith, sum_by-append (λ (w : Waiting). w.entries) m.notified m.waiting);
  take_back = omega (arith, given_and_rest thread m.notified);
}
