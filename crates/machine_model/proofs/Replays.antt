-- A schedule that goes on by one step.
use Rattle.std.proofs.Common.{◌≡◌, ◌<◌, ◌+◌, ℕ, List, [], ◌∷◌, ◌++◌, Option, Some, None, Bool, true, false, ◌&&◌, cond, refl, leb}
use Rattle.std.specs.Prelude.{is_some, is_none, IsTrue}
use Rattle.std.proofs.lemmas.Bool.{leb-false}
use Rattle.ti_ids.specs.declared.actor.Actor.{Actor}
use Rattle.ti_ids.specs.declared.actor.Actor.TheVariants.{Vm, Thread, Agent}
use Rattle.ti_ids.specs.declared.actor.End.{End}
use Rattle.ti_ids.specs.declared.number.ThreadNo.{ThreadNo}
use Rattle.machine_model.specs.declared.MachineRule.{MachineRule}
use Rattle.machine_model.specs.declared.ThreadRule.{ThreadRule}
use Rattle.machine_model.specs.Jobs.{Job}
use Rattle.machine_model.specs.Core as core
use Rattle.machine_model.specs.Rules.{State, is_enabled, end, is_ready, is_dead, machine_rule, ready_thread}
use Rattle.machine_model.specs.Replay.{step, run_from, RunsFrom, machine_step, thread_step}

pub run_more : (job : Job) (s : State) (schedule : List Actor) (actor : Actor) → run_from job s (schedule ++ actor ∷ []) ≡ step job (run_from job s schedule) actor
run_more job s [] actor = refl
run_more job s (a ∷ schedule) actor = run_more job (step job s a) schedule actor

pub runs_more : (job : Job) (s : State) (schedule : List Actor) (actor : Actor) → RunsFrom job s schedule → IsTrue (is_enabled job (run_from job s schedule) actor) → RunsFrom job s (schedule ++ actor ∷ [])
runs_more job s [] actor h may = (may, tt)
runs_more job s (a ∷ schedule) actor h may = (h.0, runs_more job (step job s a) schedule actor h.1 may)

machine_counts : (s : State) (r : Option MachineRule) → is_some r ≡ true → (machine_step s r).steps ≡ s.steps + 1
machine_counts s None e = absurd cc
machine_counts s (Some r) e = refl

thread_counts : (job : Job) (s : State) (t : ThreadNo) (r : Option (core.Thread × ThreadRule)) → is_some r ≡ true → (thread_step job s t r).steps ≡ s.steps + 1
thread_counts job s t None e = absurd cc
thread_counts job s t (Some r) e = refl

-- the step of an actor that is ready counts one
pub ready_counts : (job : Job) (s : State) (actor : Actor) → is_ready job s.core actor ≡ true → (step job s actor).steps ≡ s.steps + 1
ready_counts job s Vm e = machine_counts s (machine_rule s.core) e
ready_counts job s (Thread t) e = thread_counts job s t (ready_thread job s.core t.0) e
ready_counts job s (Agent n) e = absurd cc

pub and_true : (a b : Bool) → (a && b) ≡ true → (a ≡ true) × (b ≡ true)
and_true true true e = (refl, refl)
and_true true false e = absurd cc
and_true false b e = absurd cc

below_limit : (d : Bool) (a b : ℕ) (x y : End) (rest : Option End) → is_none (cond d (Some x) (cond (leb a b) (Some y) rest)) ≡ true → b < a
below_limit true a b x y rest e = absurd cc
below_limit false a b x y rest e =
    elim (leb a b) as (λ k. leb a b ≡ k → is_none (cond k (Some y) rest) ≡ true → b < a) [
      | true ↦ λ is e. absurd cc
      | false ↦ λ is e. leb-false a b is
    ] refl e

-- where there is no end, a step is left
pub step_left : (job : Job) (s : State) → is_none (end job s) ≡ true → s.steps < job.limits.steps
step_left job s e = below_limit (is_dead s.core.phase) job.limits.steps s.steps _ _ _ e
