-- Steps one after another: the state after a schedule, and which schedules can be run.
use Rattle.std.specs.Prelude.{◌+◌, List, [], ◌∷◌, ◌++◌, map, Option, Some, None, false}
use Rattle.ti_ids.specs.declared.actor.Actor.{Actor}
use Rattle.ti_ids.specs.declared.actor.Actor.TheVariants.{Vm, Thread, Agent}
use Rattle.ti_ids.specs.declared.number.ThreadNo.{ThreadNo}
use Rattle.ti_codes.specs.declared.phase.Phase.TheVariants as phases
use Rattle.machine_model.specs.declared.MachineRule.{MachineRule}
use Rattle.machine_model.specs.declared.ThreadRule.{ThreadRule}
use Rattle.machine_model.specs.Jobs.{Job}
use Rattle.machine_model.specs.Core as core
use Rattle.machine_model.specs.Rules.{State, machine_rule, ready_thread, IsEnabled}
use Rattle.machine_model.specs.Changes.{Change, machine_change, thread_change}

-- the records get the step's number and its actor
abbrev pub stepped : State → Actor → Change → State
stepped s actor change = record {
  core = change.core;
  trace = s.trace ++ map (λ w. record { step = s.steps; actor = actor; what = w }) change.records;
  steps = s.steps + 1;
}

-- without a rule nothing changes
abbrev pub machine_step : State → Option MachineRule → State
machine_step s None = s
machine_step s (Some rule) = stepped s Vm (machine_change s.core rule)

abbrev pub thread_step : Job → State → ThreadNo → Option (core.Thread × ThreadRule) → State
thread_step job s t None = s
thread_step job s t (Some r) = stepped s (Thread t) (thread_change job s t.0 r.0 r.1)

-- the state after a step of an actor
abbrev pub step : Job → State → Actor → State
step job s Vm = machine_step s (machine_rule s.core)
step job s (Thread t) = thread_step job s t (ready_thread job s.core t.0)
step job s (Agent e) = s

-- before the first step
unfoldable pub opening : State
opening = record {
  core = record {
    phase = phases.OnLoad;
    died = false;
    threads = [];
    heap = [];
    monitors = [];
    statics = [];
    classes = [];
    failures = [];
    output = [];
    queues = [];
    scripts = [];
  };
  trace = [];
  steps = 0;
}

abbrev pub run_from : Job → State → List Actor → State
run_from job s [] = s
run_from job s (actor ∷ actors) = run_from job (step job s actor) actors

-- the state after a schedule
abbrev pub state : Job → List Actor → State
state job schedule = run_from job opening schedule

abbrev pub RunsFrom : Job → State → List Actor → Type 0
RunsFrom job s [] = Unit {0}
RunsFrom job s (actor ∷ actors) = IsEnabled job s actor × RunsFrom job (step job s actor) actors

-- each entry's actor is enabled at its place
abbrev pub Runs : Job → List Actor → Type 0
Runs job schedule = RunsFrom job opening schedule
