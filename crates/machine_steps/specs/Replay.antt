-- Steps one after another: the state after a schedule, and which schedules can be run.
use Rattle.std.specs.Prelude.{ℕ, ◌+◌, List, [], ◌∷◌, ◌++◌, map, replicate, length, Option, Some, None, false}
use Rattle.ti_ids.specs.declared.number.EnvNo.{EnvNo}
use Rattle.ti_ids.specs.declared.actor.Actor.{Actor}
use Rattle.ti_ids.specs.declared.actor.Actor.TheVariants.{Vm}
use Rattle.ti_codes.specs.declared.phase.Phase.TheVariants as phases
use Rattle.agent_types.specs.declared.agent.Agent as agent_type
use Rattle.agent_types.specs.declared.call.Call as tool_call
use Rattle.machine_state.specs.Jobs.{Job}
use Rattle.machine_state.specs.Core.{Core, Pending}
use Rattle.machine_state.specs.Acts.{State, Act, stepped}
use Rattle.machine_steps.specs.World.{World}
use Rattle.machine_steps.specs.Actors.{next_acts}
use Rattle.machine_steps.specs.Ends.{IsEnabled}

-- ---- one step

-- an actor that isn't ready changes nothing
abbrev pub step_by : World → State → Actor → Option (List Act) → State
step_by w s actor None = s
step_by w s actor (Some acts) = stepped w.job actor s acts

-- the state after a step of an actor
abbrev pub step : World → State → Actor → State
step w s actor = step_by w s actor (next_acts w s actor)

-- ---- before the first step

-- the load calls of all agents, in the order of their numbers
abbrev pub pending : EnvNo → List tool_call.Call → List Pending
pending env calls = map (λ call. record { environment = env; call = call }) calls

abbrev pub load_calls_from : ℕ → List agent_type.Agent → List Pending
load_calls_from n [] = []
load_calls_from n (agent ∷ agents) = pending (record { 0 = n }) agent.load ++ load_calls_from (1 + n) agents

-- nothing is there but the calls that the machine performs first
abbrev pub opening_core : Job → Core
opening_core job = record {
  phase = phases.OnLoad;
  death_raised = false;
  classes = [];
  failures = [];
  statics = [];
  heap = record { limit = job.limits.heap; objects = [] };
  monitors = [];
  threads = [];
  output = [];
  queues = record { actor = Vm; calls = load_calls_from 1 job.agents } ∷ [];
  scripts = replicate (length job.agents) 0;
}

unfoldable pub opening : Job → State
opening job = record { core = opening_core job; trace = []; steps = 0 }

-- ---- schedules

abbrev pub run_from : World → State → List Actor → State
run_from w s [] = s
run_from w s (actor ∷ actors) = run_from w (step w s actor) actors

-- the state after a schedule
abbrev pub state : World → List Actor → State
state w schedule = run_from w (opening w.job) schedule

abbrev pub CanRunFrom : World → State → List Actor → Type 0
CanRunFrom w s [] = Unit {0}
CanRunFrom w s (actor ∷ actors) = IsEnabled w s actor × CanRunFrom w (step w s actor) actors

-- each entry's actor is enabled at its place
abbrev pub CanRun : World → List Actor → Type 0
CanRun w schedule = CanRunFrom w (opening w.job) schedule
