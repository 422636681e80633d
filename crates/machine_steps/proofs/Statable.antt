-- The report of a schedule that can be run states it: its actors are those that there are, and it is within the limit of steps.
use Rattle.std.proofs.Common.{◌≡◌, ◌<◌, ◌≤◌, ◌^◌, ℕ, zero, suc, true, List, [], ◌∷◌, length, Option, Some, None, refl, arith}
use Rattle.jv_names.proofs.DescriptorPlaces.{and-right}
use Rattle.std.specs.Prelude.{is_some, option_map, slice_get, nat_le}
use Rattle.std.proofs.lemmas.Bool.{leb-true}
use Rattle.ti_ids.specs.Maybe.{◌>>=◌}
use Rattle.ti_ids.specs.declared.actor.Actor.{Actor}
use Rattle.ti_ids.specs.declared.actor.Actor.TheVariants.{Vm, Thread, Agent}
use Rattle.report_text.specs.Named.{IsNumber, IsNamed, AllNamed}
use Rattle.report_text.proofs.Stating.{stated-report_text}
use Rattle.machine_state.specs.Jobs.{Job, at_number, agent_at}
use Rattle.machine_state.specs.Core.{most_threads, thread_at}
use Rattle.machine_state.specs.Acts.{State}
use Rattle.machine_steps.specs.World.{World}
use Rattle.machine_steps.specs.Sites.{classes_now}
use Rattle.machine_steps.specs.Calls.{performs}
use Rattle.machine_steps.specs.Threads.{thread_acts_of}
use Rattle.machine_steps.specs.Actors.{agent_call, next_call, is_ready}
use Rattle.machine_steps.specs.Replay.{step, opening, CanRunFrom}
use Rattle.machine_steps.specs.Reports.{report_parts}
use Rattle.machine_steps.specs.Bounds.{IsBounded}
use Rattle.machine_steps.specs.Laws.{StatesNamed, StatesSchedule}
use Rattle.machine_steps.proofs.Ending.{enabled_ready, fits_limit}
use Rattle.machine_steps.proofs.FewThreads.{AreFew, opening_few, step_few}

-- ---- an actor that is ready is there, and so has a number that a line can name

some_before : {A B : Type 0} (x : Option A) (f : A → Option B) → is_some (x >>= f) ≡ true → is_some x ≡ true
some_before None f e = absurd cc
some_before (Some a) f e = refl

some_mapped : {A B : Type 0} (f : A → B) (x : Option A) → is_some (option_map f x) ≡ true → is_some x ≡ true
some_mapped f None e = absurd cc
some_mapped f (Some a) e = refl

is_within : {A : Type 0} (xs : List A) (k : ℕ) → is_some (slice_get xs k) ≡ true → k < length xs
is_within [] k e = absurd cc
is_within (x ∷ xs) zero e = omega arith
is_within (x ∷ xs) (suc k) e = let more = is_within xs k e in omega (arith, more)

is_number : {A : Type 0} (xs : List A) (n most : ℕ) → length xs ≤ most → most < 10 ^ 9 → is_some (at_number xs n) ≡ true → IsNumber n
is_number xs zero most few small e = absurd cc
is_number xs (suc k) most few small e = let more = is_within xs k e in (omega arith, omega (arith, few, small, more))

-- there are as many agents as an accepted job may have
abbrev HasFew : World → Type 0
HasFew w = length w.job.agents ≤ 16

ready_named : (w : World) (s : State) (actor : Actor) → HasFew w → AreFew s.core → is_ready w s actor ≡ true → IsNamed actor
ready_named w s Vm agents few e = tt
ready_named w s (Thread t) agents few e =
    is_number s.core.threads t.0 most_threads few (omega arith) (some_before (thread_at s.core t) (thread_acts_of w s (classes_now w s) t) e)
ready_named w s (Agent env) agents few e =
    is_number w.job.agents env.0 16 agents (omega arith)
    (some_before (agent_at w.job env) (agent_call w s env) (some_mapped (performs w s (Agent env)) (next_call w s (Agent env)) e))

named_from : (w : World) (s : State) (schedule : List Actor) → HasFew w → AreFew s.core → CanRunFrom w s schedule → AllNamed schedule
named_from w s [] agents few can = tt
named_from w s (actor ∷ actors) agents few can = (
  ready_named w s actor agents few (enabled_ready w s actor can.0),
  named_from w (step w s actor) actors agents (step_few w s actor few) can.1,
)

-- ---- the laws

-- what words allow
steps_few : (job : Job) → IsBounded job → job.limits.steps ≤ 4000000
steps_few job bounded =
    leb-true job.limits.steps 4000000 (and-right (nat_le 1 job.limits.steps) (nat_le job.limits.steps 4000000) bounded.steps)

pub states_named : StatesNamed
states_named w schedule e named few = stated-report_text (report_parts w schedule e) schedule refl named few

pub states_schedule : StatesSchedule
states_schedule w schedule e bounded can =
    let named = named_from w (opening w.job) schedule bounded.agents (opening_few w.job) can in
    let fits = fits_limit w schedule can in
    let few = steps_few w.job bounded in
    states_named w schedule e named (omega (arith, fits, few))
