-- A schedule is barred exactly at its first entry that can't be performed, and not at all exactly where it can be run.
use Rattle.std.proofs.Common.{◌≡◌, ◌∙◌, ℕ, ◌+◌, Bool, true, false, List, [], ◌∷◌, ◌++◌, length, Some, None, refl, ap, arith}
use Rattle.std.specs.Prelude.{if◌then◌else◌}
use Rattle.ti_ids.specs.declared.actor.Actor.{Actor}
use Rattle.machine_state.specs.Acts.{State}
use Rattle.machine_steps.specs.World.{World}
use Rattle.machine_steps.specs.Ends.{is_enabled}
use Rattle.machine_steps.specs.Replay.{step, opening, run_from, CanRunFrom}
use Rattle.machine_steps.specs.Written.{barred_from, barred_at, IsBarred}
use Rattle.machine_steps.specs.ReportLaws.{BarredExactly}

taken_so : {A : Type 0} (b : Bool) (x y : A) → b ≡ true → (if b then x else y) ≡ x
taken_so true x y e = refl
taken_so false x y e = absurd cc

taken_else : {A : Type 0} (b : Bool) (x y : A) → b ≡ false → (if b then x else y) ≡ y
taken_else true x y e = absurd cc
taken_else false x y e = refl

-- ---- a schedule that can be run isn't barred, and one that isn't barred can be run

pub unbarred_from : (w : World) (s : State) (n : ℕ) (schedule : List Actor) → CanRunFrom w s schedule → barred_from w s n schedule ≡ None
unbarred_from w s n [] can = refl
unbarred_from w s n (actor ∷ actors) can =
    taken_so (is_enabled w s actor) (barred_from w (step w s actor) (n + 1) actors) (Some n) can.0
    ∙ unbarred_from w (step w s actor) (n + 1) actors can.1

runs_by : (w : World) (s : State) (n : ℕ) (actor : Actor) (actors : List Actor) (on : Bool) → is_enabled w s actor ≡ on
    → (barred_from w (step w s actor) (n + 1) actors ≡ None → CanRunFrom w (step w s actor) actors)
    → (if on then barred_from w (step w s actor) (n + 1) actors else Some n) ≡ None → CanRunFrom w s (actor ∷ actors)
runs_by w s n actor actors true is h e = (is, h e)
runs_by w s n actor actors false is h e = absurd cc

runs_from : (w : World) (s : State) (n : ℕ) (schedule : List Actor) → barred_from w s n schedule ≡ None → CanRunFrom w s schedule
runs_from w s n [] e = tt
runs_from w s n (actor ∷ actors) e = runs_by w s n actor actors (is_enabled w s actor) refl (runs_from w (step w s actor) (n + 1) actors) e

-- ---- where it is barred

-- from a state, behind so many entries
record Bars (w : World) (s : State) (n : ℕ) (schedule : List Actor) (m : ℕ) : Type 0 where
  front : List Actor
  actor : Actor
  back : List Actor
  split : schedule ≡ front ++ actor ∷ back
  place : n + length front ≡ m
  can_run : CanRunFrom w s front
  barred : is_enabled w (run_from w s front) actor ≡ false

behind_one : (w : World) (s : State) (n : ℕ) (actor : Actor) (actors : List Actor) (m : ℕ) → is_enabled w s actor ≡ true
    → Bars w (step w s actor) (n + 1) actors m → Bars w s n (actor ∷ actors) m
behind_one w s n actor actors m is b = record {
  front = actor ∷ b.front;
  actor = b.actor;
  back = b.back;
  split = ap (λ (l : List Actor). actor ∷ l) b.split;
  place = omega (arith, b.place);
  can_run = (is, b.can_run);
  barred = b.barred;
}

bars_here : (w : World) (s : State) (n : ℕ) (actor : Actor) (actors : List Actor) (m : ℕ) → is_enabled w s actor ≡ false → n ≡ m
    → Bars w s n (actor ∷ actors) m
bars_here w s n actor actors m is e =
    record { front = []; actor = actor; back = actors; split = refl; place = omega (arith, e); can_run = tt; barred = is }

same_some : (n m : ℕ) → Some n ≡ Some m → n ≡ m
same_some n m e = cc

bars_by : (w : World) (s : State) (n : ℕ) (actor : Actor) (actors : List Actor) (m : ℕ) (on : Bool) → is_enabled w s actor ≡ on
    → (barred_from w (step w s actor) (n + 1) actors ≡ Some m → Bars w (step w s actor) (n + 1) actors m)
    → (if on then barred_from w (step w s actor) (n + 1) actors else Some n) ≡ Some m → Bars w s n (actor ∷ actors) m
bars_by w s n actor actors m true is h e = behind_one w s n actor actors m is (h e)
bars_by w s n actor actors m false is h e = bars_here w s n actor actors m is (same_some n m e)

bars_from : (w : World) (s : State) (n : ℕ) (schedule : List Actor) (m : ℕ) → barred_from w s n schedule ≡ Some m → Bars w s n schedule m
bars_from w s n [] m e = absurd cc
bars_from w s n (actor ∷ actors) m e =
    bars_by w s n actor actors m (is_enabled w s actor) refl (bars_from w (step w s actor) (n + 1) actors m) e

barred_behind : (w : World) (s : State) (n : ℕ) (front : List Actor) (actor : Actor) (back : List Actor) → CanRunFrom w s front
    → is_enabled w (run_from w s front) actor ≡ false → barred_from w s n (front ++ actor ∷ back) ≡ Some (n + length front)
barred_behind w s n [] actor back can barred =
    taken_else (is_enabled w s actor) (barred_from w (step w s actor) (n + 1) back) (Some n) barred
    ∙ ap (λ (m : ℕ). Some m) (let none : n ≡ n + 0 = omega arith in none)
barred_behind w s n (a ∷ front) actor back can barred =
    taken_so (is_enabled w s a) (barred_from w (step w s a) (n + 1) (front ++ actor ∷ back)) (Some n) can.0
    ∙ barred_behind w (step w s a) (n + 1) front actor back can.1 barred
    ∙ ap (λ (m : ℕ). Some m) (let one : n + 1 + length front ≡ n + length (a ∷ front) = omega arith in one)

-- ---- the law

is_barred : (w : World) (schedule : List Actor) (n : ℕ) → barred_at w schedule ≡ Some n → IsBarred w schedule n
is_barred w schedule n e =
    let b = bars_from w (opening w.job) 0 schedule n e in
    record {
      front = b.front;
      actor = b.actor;
      back = b.back;
      split = b.split;
      place = omega (arith, b.place);
      can_run = b.can_run;
      barred = b.barred;
    }

barred_so : (w : World) (schedule : List Actor) (n : ℕ) → IsBarred w schedule n → barred_at w schedule ≡ Some n
barred_so w schedule n b =
    ap (barred_at w) b.split ∙ barred_behind w (opening w.job) 0 b.front b.actor b.back b.can_run b.barred
    ∙ ap (λ (m : ℕ). Some m) (let so : 0 + length b.front ≡ n = omega (arith, b.place) in so)

pub barred_exactly : BarredExactly
barred_exactly = record {
  there = λ w schedule n. (is_barred w schedule n, barred_so w schedule n);
  nowhere = λ w schedule. (runs_from w (opening w.job) 0 schedule, unbarred_from w (opening w.job) 0 schedule);
}
