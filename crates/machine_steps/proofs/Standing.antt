-- The parts of a state each of whose frames has code.
use Rattle.std.proofs.Common.{◌≡◌, ◌∙◌, ℕ, zero, suc, ◌+◌, Bool, true, false, cond, List, [], ◌∷◌, length, map, Option, Some, None, refl, sym, ap, subst, arith, rules}
use Rattle.std.proofs.lemmas.Bool.{eqb-true, eq-eqb}
use Rattle.std.specs.Prelude.{IsSome, unwrap_or, find, slice_get, ◌==◌, ◌≢◌}
use Rattle.std.specs.List.{AllByRecursion, AllZip}
use Rattle.std.specs.Option.{option_map_or}
use Rattle.std.specs.FinMap as finite
use Rattle.std.specs.Ordering.{nat_cmp, eq_by_cmp}
use Rattle.std.specs.Cmp.{nat_cmp_total}
use Rattle.ti_ids.specs.declared.number.EnvNo.{EnvNo}
use Rattle.ti_ids.specs.declared.number.ObjNo.{ObjNo}
use Rattle.ti_ids.specs.declared.actor.Actor.{Actor}
use Rattle.class_code.specs.declared.instr.Instr.{Instr}
use Rattle.monitor_table.specs.Monitors.{Monitor, free}
use Rattle.monitor_table.specs.Table.{MonitorMap, state_of}
use Rattle.thread_frames.specs.declared.frame.Frame.{Frame}
use Rattle.thread_frames.specs.declared.frame.StackEntry.{StackEntry}
use Rattle.thread_frames.specs.declared.frame.StackEntry.TheVariants.{Java, Init}
use Rattle.link_versions.specs.Classes.{newest_version}
use Rattle.report_text.specs.Runs.{runs_of}
use Rattle.capability_set.specs.Held.{has_capability}
use Rattle.agent_types.specs.declared.agent.Agent as agent_type
use Rattle.machine_state.specs.Jobs.{at_number}
use Rattle.machine_state.specs.Core as cores
use Rattle.machine_state.specs.Core.{MethodFrame, StackFrame, ObjectMonitor, is_monitor_of, monitor_at, failure_of, queue_of}
use Rattle.machine_state.specs.Environments.{is_disposed, capabilities_of, setting, hook_class, rules_of}
use Rattle.machine_state.specs.Chains.{added}
use Rattle.machine_state.specs.Versions.{left}
use Rattle.machine_state.specs.Linked.{linked}
use Rattle.machine_state.specs.FrameCode.{classes_at_birth, code}
use Rattle.machine_state.specs.Logs.{log}
use Rattle.machine_state.specs.Tags.{tag}
use Rattle.machine_state.specs.Places.{has_breakpoint, is_watched, is_suspended}
use Rattle.machine_state.specs.Acts.{State}
use Rattle.instruction_effect.specs.Fields.{static_value}
use Rattle.machine_steps.specs.World.{World}
use Rattle.machine_steps.specs.Linking.{hierarchy}
use Rattle.machine_steps.specs.Parts.{MachinePin, ThreadParts, BaseParts, JavaParts, EnvironmentParts, Parts}
use Rattle.machine_steps.specs.StandsFor.{place_named, name_of_field, asks_living, FrameStands, EntryStands, ThreadStands, BaseStands, JavaStands, EnvironmentStands, StandsFor}
use Rattle.machine_steps.specs.Reachable.{HasCode, AreCoded, HasParts, PartsOfCoded}

-- ---- monitors

abbrev map_of : List ObjectMonitor → MonitorMap
map_of [] = finite.empty
map_of (m ∷ monitors) = finite.insert (map_of monitors) m.object.0 m.monitor

-- an object's number is told apart as it is in a list
here : (q : ℕ) → eq_by_cmp nat_cmp q q ≡ true
here q = grind (finite.gets, rules)

apart : (q k : ℕ) → q ≢ k → eq_by_cmp nat_cmp q k ≡ false
apart q k differ = grind (finite.gets, rules)

same_test : (q k : ℕ) (same : Bool) → (k == q) ≡ same → eq_by_cmp nat_cmp q k ≡ same
same_test q k true e = subst (λ (n : ℕ). eq_by_cmp nat_cmp q n ≡ true) (sym (eqb-true k q e)) (here q)
same_test q k false e = apart q k (λ is. absurd (let yes : (k == q) ≡ true = eq-eqb k q (sym is) in cc))

found_by : (same : Bool) (m : ObjectMonitor) (rest : Option Monitor) (behind : Option ObjectMonitor)
    → unwrap_or rest free ≡ option_map_or (λ x. x.monitor) behind free
    → unwrap_or (cond same (Some m.monitor) rest) free ≡ option_map_or (λ x. x.monitor) (cond same (Some m) behind) free
found_by true m rest behind h = refl
found_by false m rest behind h = h

monitors_stand : (monitors : List ObjectMonitor) (object : ObjNo)
    → state_of (map_of monitors) object ≡ option_map_or (λ m. m.monitor) (find (is_monitor_of object) monitors) free
monitors_stand [] object = ap (λ (o : Option Monitor). unwrap_or o free) (finite.get-empty nat_cmp object.0)
monitors_stand (m ∷ monitors) object =
    ap (λ (o : Option Monitor). unwrap_or o free)
    (finite.get-insert nat_cmp_total (map_of monitors) m.object.0 m.monitor object.0
    ∙ ap (λ (b : Bool). cond b (Some m.monitor) (finite.get (map_of monitors) object.0))
    (same_test object.0 m.object.0 (m.object.0 == object.0) refl))
    ∙ found_by (m.object.0 == object.0) m (finite.get (map_of monitors) object.0) (find (is_monitor_of object) monitors)
    (monitors_stand monitors object)

-- ---- frames

some_of : {A : Type 0} (o : Option A) (d : A) → IsSome o → Some (unwrap_or o d) ≡ o
some_of None d is = absurd cc
some_of (Some x) d is = refl

module _ (w : World) (s : State) where
  abbrev frame_parts : MethodFrame → Frame MachinePin
  frame_parts g = record {
    class = g.class;
    method = g.method;
    pin = record {
      version = newest_version (classes_at_birth w.job w.turns s.trace s.core.classes g) g.class;
      code = unwrap_or (code w.job w.turns s.trace s.core.classes g) [];
      monitor = g.pin.monitor;
    };
    pc = g.pc;
    locals = g.locals;
    stack = g.stack;
    announced = g.announced;
  }

  abbrev entry_parts : StackFrame → StackEntry MachinePin
  entry_parts (Java g) = Java (frame_parts g)
  entry_parts (Init class) = Init class

  frame_stands : (g : MethodFrame) → HasCode w s (Java g) → FrameStands w s.trace s.core (frame_parts g) g
  frame_stands g has = record {
    class = refl;
    method = refl;
    version = refl;
    code = some_of (code w.job w.turns s.trace s.core.classes g) [] has;
    monitor = refl;
    pc = refl;
    locals = refl;
    stack = refl;
    announced = refl;
  }

  frames_stand : (frames : List StackFrame) → AllByRecursion (HasCode w s) frames
      → AllZip (EntryStands w s.trace s.core) (map entry_parts frames) frames
  frames_stand [] all = tt
  frames_stand (Java g ∷ frames) all = (frame_stands g all.0, frames_stand frames all.1)
  frames_stand (Init class ∷ frames) all = (refl, frames_stand frames all.1)

  -- ---- threads

  abbrev thread_parts : cores.Thread → ThreadParts
  thread_parts u = record { object = u.object; state = u.state; activity = u.activity; frames = map entry_parts u.frames }

  thread_stands : (u : cores.Thread) → AllByRecursion (HasCode w s) u.frames → ThreadStands w s.trace s.core (thread_parts u) u
  thread_stands u all = record { object = refl; state = refl; activity = refl; frames = frames_stand u.frames all }

  threads_stand : (threads : List cores.Thread) → AllByRecursion (λ t. AllByRecursion (HasCode w s) t.frames) threads
      → AllZip (ThreadStands w s.trace s.core) (map thread_parts threads) threads
  threads_stand [] all = tt
  threads_stand (u ∷ threads) all = (thread_stands u all.0, threads_stand threads all.1)

  -- ---- the base and classes

  abbrev base_parts : BaseParts
  base_parts = record {
    heap = s.core.heap;
    monitors = map_of s.core.monitors;
    threads = map thread_parts s.core.threads;
    output = s.core.output;
  }

  base_stands : AreCoded w s → BaseStands w s.trace s.core base_parts
  base_stands coded = record {
    heap = refl;
    monitors = λ object. monitors_stand s.core.monitors object;
    threads = threads_stand s.core.threads coded;
    output = refl;
  }

  abbrev java_parts : JavaParts
  java_parts = record {
    base = base_parts;
    classes = linked w.job w.turns s.trace s.core.classes;
    entered = map (λ c. c.entered) s.core.classes;
    kept = map (λ c. left w.job w.turns c.name s.trace) s.core.classes;
    statics = static_value s.core (linked w.job w.turns s.trace s.core.classes);
    failures = failure_of s.core;
    known = hierarchy w.job;
    files = w.job.files;
  }

  java_stands : AreCoded w s → JavaStands w s.trace s.core java_parts
  java_stands coded = record {
    base = base_stands coded;
    classes = refl;
    entered = refl;
    kept = refl;
    statics = λ field. refl;
    failures = λ name. refl;
    known = refl;
    files = refl;
  }

  -- ---- environments

  abbrev environment_parts : EnvNo → EnvironmentParts
  environment_parts env = record {
    disposed = is_disposed s.trace env;
    capabilities = λ c. has_capability c (capabilities_of w.job s.trace env);
    masks = setting s.trace env;
    hook = hook_class w.job s.trace env;
    rules = rules_of s.trace env;
    tags = tag s.trace env;
    log = log w.job s.trace env;
    pops = asks_living s.trace s.core env;
  }

  environment_stands : (env : EnvNo) → EnvironmentStands w s.trace s.core env (environment_parts env)
  environment_stands env = record {
    disposed = refl;
    masks = λ kind scope. refl;
    tags = λ object. refl;
    log = refl;
    live = λ is. record { capabilities = λ c. refl; hook = refl; rules = refl; pops = λ t n. refl };
  }

  abbrev environments_from : ℕ → List agent_type.Agent → List EnvironmentParts
  environments_from n [] = []
  environments_from n (agent ∷ agents) = environment_parts (record { 0 = n }) ∷ environments_from (suc n) agents

  as_many : (n : ℕ) (agents : List agent_type.Agent) → length (environments_from n agents) ≡ length agents
  as_many n [] = refl
  as_many n (agent ∷ agents) = ap (λ (k : ℕ). suc k) (as_many (suc n) agents)

  stands_from : (n : ℕ) (agents : List agent_type.Agent) (k : ℕ) (e : EnvironmentParts) → slice_get (environments_from n agents) k ≡ Some e
      → EnvironmentStands w s.trace s.core (record { 0 = n + k }) e
  stands_from n [] k e is = absurd cc
  stands_from n (agent ∷ agents) zero e is =
      let same : environment_parts (record { 0 = n }) ≡ e = cc in
      subst (λ (k : ℕ). EnvironmentStands w s.trace s.core (record { 0 = k }) e) (let none : n ≡ n + 0 = omega arith in none)
      (subst (λ (x : EnvironmentParts). EnvironmentStands w s.trace s.core (record { 0 = n }) x) same (environment_stands (record { 0 = n })))
  stands_from n (agent ∷ agents) (suc k) e is =
      subst (λ (k : ℕ). EnvironmentStands w s.trace s.core (record { 0 = k }) e) (let more : suc n + k ≡ n + suc k = omega arith in more)
      (stands_from (suc n) agents k e is)

  numbered_stands : (agents : List agent_type.Agent) (n : ℕ) (e : EnvironmentParts) → at_number (environments_from 1 agents) n ≡ Some e
      → EnvironmentStands w s.trace s.core (record { 0 = n }) e
  numbered_stands agents zero e is = absurd cc
  numbered_stands agents (suc k) e is =
      subst (λ (n : ℕ). EnvironmentStands w s.trace s.core (record { 0 = n }) e) (let same : 1 + k ≡ suc k = omega arith in same)
      (stands_from 1 agents k e is)

  -- ---- all of them

  abbrev parts_of : List Actor → Parts
  parts_of schedule = record {
    java = java_parts;
    phase = s.core.phase;
    death_raised = s.core.death_raised;
    queues = queue_of s.core;
    scripts = s.core.scripts;
    environments = environments_from 1 w.job.agents;
    transformers = added s.trace;
    breakpoints = λ l. has_breakpoint s.trace (place_named (linked w.job w.turns s.trace s.core.classes) l);
    watches = λ field. is_watched s.trace (name_of_field (linked w.job w.turns s.trace s.core.classes) field);
    suspended = is_suspended s.trace;
    schedule = runs_of schedule;
    steps = s.steps;
    main = w.job.main;
    limits = w.job.limits;
    donors = w.job.donors;
    agents = w.job.agents;
  }

  parts_stand : (schedule : List Actor) → AreCoded w s → StandsFor w s (parts_of schedule)
  parts_stand schedule coded = record {
    java = java_stands coded;
    phase = refl;
    death_raised = refl;
    queues = λ actor. refl;
    scripts = refl;
    environment_count = as_many 1 w.job.agents;
    environments = λ env e is. numbered_stands w.job.agents env.0 e is;
    transformers = refl;
    breakpoints = λ l. refl;
    watches = λ field kind. refl;
    suspended = λ t. refl;
    steps = refl;
    main = refl;
    limits = refl;
    donors = refl;
    agents = refl;
  }

  -- ---- and the other way round

  is_some_of : {A : Type 0} (x : A) (o : Option A) → Some x ≡ o → IsSome o
  is_some_of x None e = absurd cc
  is_some_of x (Some y) e = refl

  frames_coded : (entries : List (StackEntry MachinePin)) (frames : List StackFrame) → AllZip (EntryStands w s.trace s.core) entries frames
      → AllByRecursion (HasCode w s) frames
  frames_coded [] [] all = tt
  frames_coded [] (g ∷ frames) all = absurd all
  frames_coded (f ∷ entries) [] all = absurd all
  frames_coded (Java f ∷ entries) (Java g ∷ frames) all =
      (is_some_of f.pin.code (code w.job w.turns s.trace s.core.classes g) all.0.code, frames_coded entries frames all.1)
  frames_coded (Java f ∷ entries) (Init class ∷ frames) all = absurd all.0
  frames_coded (Init class ∷ entries) (Java g ∷ frames) all = absurd all.0
  frames_coded (Init class ∷ entries) (Init other ∷ frames) all = (tt, frames_coded entries frames all.1)

  threads_coded : (parts : List ThreadParts) (threads : List cores.Thread) → AllZip (ThreadStands w s.trace s.core) parts threads
      → AllByRecursion (λ t. AllByRecursion (HasCode w s) t.frames) threads
  threads_coded [] [] all = tt
  threads_coded [] (u ∷ threads) all = absurd all
  threads_coded (t ∷ parts) [] all = absurd all
  threads_coded (t ∷ parts) (u ∷ threads) all = (frames_coded t.frames u.frames all.0.frames, threads_coded parts threads all.1)

pub parts_of_coded : PartsOfCoded
parts_of_coded = record {
  made = λ w s schedule coded. record { parts = parts_of w s schedule; stand = parts_stand w s schedule coded; stored = refl };
  only = λ w s p stand. threads_coded w s p.java.base.threads s.core.threads stand.java.base.threads;
}
