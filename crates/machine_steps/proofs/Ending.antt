-- The laws of ends and schedules.
use Rattle.std.proofs.Common.{◌≡◌, ◌<◌, ◌≤◌, ◌+◌, ℕ, zero, suc, List, [], ◌∷◌, ◌++◌, length, Option, Some, None, Bool, true, false, ◌&&◌, cond, leb, refl, ap, arith}
use Rattle.jv_names.proofs.DescriptorPlaces.{and-left, and-right}
use Rattle.std.specs.Prelude.{is_some, is_none, IfSome}
use Rattle.std.proofs.lemmas.Bool.{leb-false}
use Rattle.ti_ids.specs.declared.actor.Actor.{Actor}
use Rattle.ti_ids.specs.declared.actor.Actor.TheVariants.{Vm}
use Rattle.ti_ids.specs.declared.actor.End.{End}
use Rattle.ti_ids.specs.declared.actor.End.TheVariants as ends
use Rattle.machine_state.specs.Acts.{State}
use Rattle.machine_steps.specs.World.{World}
use Rattle.machine_steps.specs.Actors.{is_ready}
use Rattle.machine_steps.specs.Ends.{end, is_enabled, is_dead, IsEnabled}
use Rattle.machine_steps.specs.Replay.{step, run_from, CanRunFrom, opening}
use Rattle.machine_steps.specs.Picks.{pick, picked_from}
use Rattle.machine_steps.specs.Laws.{NoneAfterEnd, HasStepLeft, PickedCanRun, PickedEnds, FitsLimit, NoEndBefore}
use Rattle.machine_steps.proofs.Picking.{Pick, pick_some, pick_enabled}
use Rattle.machine_steps.proofs.Stepping.{counts_one}

-- ---- ends

pub none_after_end : NoneAfterEnd
none_after_end w s e actor is = ap (λ (r : Option End). is_none r && is_ready w s actor) is

below_limit : (d : Bool) (a b : ℕ) (x y : End) (rest : Option End) → cond d (Some x) (cond (leb a b) (Some y) rest) ≡ None → b < a
below_limit true a b x y rest e = absurd cc
below_limit false a b x y rest e =
    elim (leb a b) as (λ k. leb a b ≡ k → cond k (Some y) rest ≡ None → b < a) [
      | true ↦ λ is e. absurd cc
      | false ↦ λ is e. leb-false a b is
    ] refl e

pub has_step_left : HasStepLeft
has_step_left w s e = below_limit (is_dead s.core.phase) w.job.limits.steps s.steps ends.Dead ends.StepLimit _ e

-- where an actor is enabled there is no end
no_end : (found : Option End) → is_none found ≡ true → found ≡ None
no_end None e = refl
no_end (Some e) is = absurd cc

pub end_none : (w : World) (s : State) (actor : Actor) → IsEnabled w s actor → end w s ≡ None
end_none w s actor on = no_end (end w s) (and-left (is_none (end w s)) (is_ready w s actor) on)

pub enabled_ready : (w : World) (s : State) (actor : Actor) → IsEnabled w s actor → is_ready w s actor ≡ true
enabled_ready w s actor on = and-right (is_none (end w s)) (is_ready w s actor) on

-- ---- the picked schedule can be run

module _ (slice : ℕ) (w : World) where
  -- what is picked of this pick, in so many further steps at most
  abbrev going_on : ℕ → State → Option Pick → List Actor
  going_on most s p = elim p [ Some p ↦ p.0 ∷ picked_from slice w most (step w s p.0) p.0 (p.1 + 1) | None ↦ [] ]

  runs_by : (most : ℕ) (s : State) (p : Option Pick) → IfSome p (λ q. is_enabled w s q.0 ≡ true)
      → ((t : State) (c : Actor) (m : ℕ) → CanRunFrom w t (picked_from slice w most t c m)) → CanRunFrom w s (going_on most s p)
  runs_by most s None may h = tt
  runs_by most s (Some p) may h = (may, h (step w s p.0) p.0 (p.1 + 1))

  picked_runs_from : (most : ℕ) (s : State) (c : Actor) (m : ℕ) → CanRunFrom w s (picked_from slice w most s c m)
  picked_runs_from zero s c m = tt
  picked_runs_from (suc most) s c m = runs_by most s (pick slice w s c m) (pick_enabled slice w s c m) (picked_runs_from most)

  -- ---- it stops at an end

  -- from a state with at most so many steps left
  abbrev IsOver : ℕ → Type 0
  IsOver most =
      (s : State) (c : Actor) (m : ℕ) → w.job.limits.steps ≤ s.steps + most → end w (run_from w s (picked_from slice w most s c m)) ≡ None → ⊥

  over_by : (most : ℕ) (s : State) (p : Option Pick) → IfSome p (λ q. is_enabled w s q.0 ≡ true) → (end w s ≡ None → is_some p ≡ true) → IsOver most
      → w.job.limits.steps ≤ s.steps + suc most → end w (run_from w s (going_on most s p)) ≡ None → ⊥
  over_by most s None may some h few e = absurd (let no : false ≡ true = some e in cc)
  over_by most s (Some p) may some h few e =
      let counted = counts_one w s p.0 (enabled_ready w s p.0 may) in h (step w s p.0) p.0 (p.1 + 1) (omega (arith, few, counted)) e

  over : (most : ℕ) → IsOver most
  over zero s c m few e = absurd (omega (arith, few, has_step_left w s e))
  over (suc most) s c m few e = over_by most s (pick slice w s c m) (pick_enabled slice w s c m) (pick_some slice w s c m) (over most) few e

pub picked_can_run : PickedCanRun
picked_can_run slice w = picked_runs_from slice w w.job.limits.steps (opening w.job) Vm 0

pub picked_ends : PickedEnds
unfolding opening
picked_ends slice w e = over slice w w.job.limits.steps (opening w.job) Vm 0 (omega arith) e

-- ---- schedules that can be run

fits_from : (w : World) (s : State) (schedule : List Actor) → s.steps ≤ w.job.limits.steps → CanRunFrom w s schedule
    → s.steps + length schedule ≤ w.job.limits.steps
fits_from w s [] few can = omega (arith, few)
fits_from w s (actor ∷ actors) few can =
    let left = has_step_left w s (end_none w s actor can.0) in
    let one = counts_one w s actor (enabled_ready w s actor can.0) in
    let rest = fits_from w (step w s actor) actors (omega (arith, left, one)) can.1 in
    omega (arith, one, rest)

pub fits_limit : FitsLimit
unfolding opening
fits_limit w schedule can = let all = fits_from w (opening w.job) schedule (omega arith) can in omega (arith, all)

before_from : (w : World) (s : State) (front : List Actor) (actor : Actor) (back : List Actor) → CanRunFrom w s (front ++ actor ∷ back)
    → end w (run_from w s front) ≡ None
before_from w s [] actor back can = end_none w s actor can.0
before_from w s (a ∷ front) actor back can = before_from w (step w s a) front actor back can.1

pub no_end_before : NoEndBefore
no_end_before w front actor back can = before_from w (opening w.job) front actor back can
