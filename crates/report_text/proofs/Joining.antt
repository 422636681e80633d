-- The runs of a schedule: they are the schedule, neighbours differ, and no run is longer than the schedule.
use Rattle.std.proofs.Common.{◌≡◌, ◌∙◌, ◌≤◌, ◌<◌, ◌+◌, ℕ, suc, List, [], ◌∷◌, ◌++◌, length, Bool, true, false, cond, refl, ap, subst, arith}
use Rattle.std.specs.Prelude.{replicate}
use Rattle.std.proofs.lemmas.Bool.Decides.{Decides-eqb}
use Rattle.ti_ids.specs.declared.actor.Actor.{Actor}
use Rattle.ti_ids.specs.declared.actor.Actor.TheVariants.{Vm, Thread, Agent}
use Rattle.ti_ids.specs.Actors.{same_actor}
use Rattle.report_text.specs.declared.run.Run.{Run}
use Rattle.report_text.specs.Runs.{with_step, runs_of}
use Rattle.report_text.specs.Stated.{are_parted, expanded}
use Rattle.report_text.specs.Named.{IsNamed, AllNamed}

pub same_actor-is : (a b : Actor) → same_actor a b ≡ true → a ≡ b
same_actor-is Vm Vm h = refl
same_actor-is (Thread t) (Thread u) h = ap (λ (n : ℕ). Thread (record { 0 = n })) ((Decides-eqb t.0 u.0).0 h)
same_actor-is (Agent t) (Agent u) h = ap (λ (n : ℕ). Agent (record { 0 = n })) ((Decides-eqb t.0 u.0).0 h)
same_actor-is Vm (Thread u) h = absurd cc
same_actor-is Vm (Agent u) h = absurd cc
same_actor-is (Thread t) Vm h = absurd cc
same_actor-is (Thread t) (Agent u) h = absurd cc
same_actor-is (Agent t) Vm h = absurd cc
same_actor-is (Agent t) (Thread u) h = absurd cc

abbrev run : Actor → ℕ → Run
run actor count = record { actor = actor; count = count }

abbrev with_step_by : Bool → Actor → Run → List Run → List Run
with_step_by b a r runs = cond b (run a (r.count + 1) ∷ runs) (run a 1 ∷ r ∷ runs)

one_more : (n : ℕ) (a : Actor) → replicate (n + 1) a ≡ a ∷ replicate n a
one_more n a = ap (λ (k : ℕ). replicate k a) (let e : n + 1 ≡ suc n = omega arith in e)

expanded-with_step : (a : Actor) (runs : List Run) → expanded (with_step a runs) ≡ a ∷ expanded runs
expanded-with_step a [] = refl
expanded-with_step a (r ∷ runs) =
    elim (same_actor a r.actor) as (λ b. same_actor a r.actor ≡ b → expanded (with_step_by b a r runs) ≡ a ∷ expanded (r ∷ runs)) [
      | true ↦ λ e. ap (λ (w : List Actor). w ++ expanded runs) (one_more r.count a) ∙ ap (λ (x : Actor). a ∷ (replicate r.count x ++ expanded runs)) (same_actor-is a r.actor e)
      | false ↦ λ e. refl
    ] refl

-- the runs of a schedule are its steps, in order
pub expanded-runs_of : (schedule : List Actor) → expanded (runs_of schedule) ≡ schedule
expanded-runs_of [] = refl
expanded-runs_of (a ∷ schedule) = expanded-with_step a (runs_of schedule) ∙ ap (λ (w : List Actor). a ∷ w) (expanded-runs_of schedule)

-- only a front run's actor counts
are_parted-front : (a : Actor) (m n : ℕ) (runs : List Run) → are_parted (run a m ∷ runs) ≡ are_parted (run a n ∷ runs)
are_parted-front a m n [] = refl
are_parted-front a m n (next ∷ runs) = refl

are_parted-with_step : (a : Actor) (runs : List Run) → are_parted runs ≡ true → are_parted (with_step a runs) ≡ true
are_parted-with_step a [] h = refl
are_parted-with_step a (r ∷ runs) h =
    elim (same_actor a r.actor) as (λ b. same_actor a r.actor ≡ b → are_parted (with_step_by b a r runs) ≡ true) [
      | true ↦ λ e. ap (λ (x : Actor). are_parted (run x (r.count + 1) ∷ runs)) (same_actor-is a r.actor e) ∙ are_parted-front r.actor (r.count + 1) r.count runs ∙ h
      | false ↦ λ e. rw (e, h) refl
    ] refl

-- neighbouring runs of a schedule have different actors
pub are_parted-runs_of : (schedule : List Actor) → are_parted (runs_of schedule) ≡ true
are_parted-runs_of [] = refl
are_parted-runs_of (a ∷ schedule) = are_parted-with_step a (runs_of schedule) (are_parted-runs_of schedule)

-- a run of one to `most` steps, of an actor that a line can name
pub record IsWithin (most : ℕ) (r : Run) : Type 0 where
  pub named : IsNamed r.actor
  pub some : 0 < r.count
  pub short : r.count ≤ most

abbrev pub AllWithin : ℕ → List Run → Type 0
AllWithin most [] = Unit {0}
AllWithin most (r ∷ runs) = IsWithin most r × AllWithin most runs

looser : (most : ℕ) (runs : List Run) → AllWithin most runs → AllWithin (most + 1) runs
looser most [] h = tt
looser most (r ∷ runs) h = let w = h.0 in (record { named = w.named; some = w.some; short = omega (arith, w.short) }, looser most runs h.1)

within-with_step : (most : ℕ) (a : Actor) (runs : List Run) → IsNamed a → AllWithin most runs → AllWithin (most + 1) (with_step a runs)
within-with_step most a [] n h = (record { named = n; some = omega arith; short = omega arith }, tt)
within-with_step most a (r ∷ runs) n h =
    elim (same_actor a r.actor) as (λ b. AllWithin (most + 1) (with_step_by b a r runs)) [
      | true ↦ let w = h.0 in (record { named = n; some = omega arith; short = omega (arith, w.short) }, looser most runs h.1)
      | false ↦ (record { named = n; some = omega arith; short = omega arith }, looser most (r ∷ runs) h)
    ]

-- no run is longer than the schedule
pub within-runs_of : (schedule : List Actor) → AllNamed schedule → AllWithin (length schedule) (runs_of schedule)
within-runs_of [] h = tt
within-runs_of (a ∷ schedule) h =
    let e : length schedule + 1 ≡ length (a ∷ schedule) = omega arith in
    subst (λ (k : ℕ). AllWithin k (runs_of (a ∷ schedule))) e (within-with_step (length schedule) a (runs_of schedule) h.0 (within-runs_of schedule h.1))
