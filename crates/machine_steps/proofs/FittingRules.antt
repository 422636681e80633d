-- The acts of each rule of a thread fit, and so do those of every step.
use Rattle.bytecode_local.specs.Effect.{following, instr_at}
use Rattle.class_code.specs.declared.instr.Instr.{Instr}
use Rattle.class_tree.specs.declared.body.Handler.{Handler}
use Rattle.class_tree.specs.Trees.{Tree}
use Rattle.bytecode_local.specs.Effect.{following, instr_at}
use Rattle.instruction_effect.proofs.ActRules.{Stands}
use Rattle.instruction_effect.proofs.FittingEffect.{effect_fits, entry_fits}
use Rattle.machine_steps.proofs.AnnouncedFrames.{announced_stands}
use Rattle.machine_steps.proofs.RuleThreads.{IsOf, rule_is_of}
use Rattle.instruction_effect.proofs.FittingForms.{AllFit, Fits, FitsOutcome}
use Rattle.instruction_effect.proofs.FollowingForms.{IsOver}
use Rattle.instruction_effect.specs.CallEntry.{entry_outcome}
use Rattle.instruction_effect.specs.Outcomes.{Site}
use Rattle.instruction_effect.specs.Operands.{gives}
use Rattle.link_versions.specs.Classes.{Class}
use Rattle.machine_state.specs.Acts.{Act, Changes, Leaves, MarksDeath, Notes, Pops, SetsActivity, SetsClass, SetsPhase, SetsTop, State, TakesBack, raises}
use Rattle.machine_state.specs.Core.{Core, MethodFrame, StackFrame, Thread, frames_at, has_ended, thread_at}
use Rattle.machine_state.specs.FrameCode.{code, tree_of_frame}
use Rattle.machine_state.specs.Jobs.{agent_at}
use Rattle.machine_state.specs.Trace.{Died, MonitorWaited, VMDeath}
use Rattle.machine_steps.proofs.NextTakes.{agent_takes, queued_takes}
use Rattle.machine_steps.proofs.FittingSteps.{Raises, StepFits, TakesFit, append_all, bind_fits, calls_fit, calls_raised, events_fit, events_raised, new_among_fits, new_fits, none_fits, none_raises, performed_fit, progress_fits, raises_fit, resolved_fits, some_raises, starts_fit}
use Rattle.machine_steps.specs.Actors.{inits, live_acts, machine_acts, next_acts, next_call, phase_acts, starts}
use Rattle.machine_steps.specs.Announcing.{announced, announcing, pre_events}
use Rattle.machine_steps.specs.Calls.{NextCall, has_calls, performs, queued, waiting_call}
use Rattle.machine_steps.specs.Initializing.{progress_step}
use Rattle.machine_steps.specs.Reachable.{FitsCall, IsOrderly}
use Rattle.machine_steps.specs.Sites.{Stop, classes_now, stop_of}
use Rattle.machine_steps.specs.ThreadRules.{Begins, Ends, EntersMethod, Executes, Initializes, Joins, Performs, Stays, ThreadRule, Unwinds, Wakes, rule_of}
use Rattle.machine_steps.specs.Threads.{announced_state, begins, behind_instruction, completed_top, ends_thread, executes, has_thread_ended, joins, may_wake, outcome_of, resolved, rule_acts, thread_acts_of, wakes}
use Rattle.machine_steps.specs.Throwing.{throws_new, throws_new_among}
use Rattle.machine_steps.specs.Unwinding.{error_name, handler_of, initializer_error, is_instance, leaves_frame, left_events, monitor_name, owns_monitor, unwinds, unwinds_frame}
use Rattle.machine_steps.specs.World.{World}
use Rattle.std.proofs.Common.{ap, ◌∙◌, Bool, List, None, Option, Some, [], cond, false, inl, inr, refl, subst, true, ℕ, ◌++◌, ◌∷◌, ◌≡◌}
use Rattle.std.specs.List.{AllByRecursion, list_all}
use Rattle.std.specs.Option.{option_map_or}
use Rattle.std.specs.Prelude.{if◌then◌else◌, option_map, unwrap_or}
use Rattle.thread_frames.specs.Operands.{without_top}
use Rattle.thread_frames.specs.declared.frame.StackEntry.TheVariants.{Init, Java}
use Rattle.ti_codes.specs.declared.phase.Phase.{Phase}
use Rattle.ti_ids.specs.Maybe.{◌>>=◌}
use Rattle.ti_ids.specs.declared.actor.Actor.{Actor}
use Rattle.ti_ids.specs.declared.actor.Actor.TheVariants.{Agent, Vm}
use Rattle.ti_ids.specs.declared.number.ClassNo.{ClassNo}
use Rattle.ti_ids.specs.declared.number.EnvNo.{EnvNo}
use Rattle.ti_ids.specs.declared.number.ObjNo.{ObjNo}
use Rattle.ti_ids.specs.declared.number.ThreadNo.{ThreadNo}
use Rattle.ti_ids.specs.declared.state.Activity.TheVariants.{Free}
use Rattle.ti_ids.specs.declared.state.Announced.{Announced}
use Rattle.ti_ids.specs.declared.state.Announced.TheVariants.{Caught, New, No, Yes}
use Rattle.ti_ids.specs.declared.actor.Actor.TheVariants as actors
use Rattle.ti_codes.specs.declared.phase.Phase.TheVariants as phases
use Rattle.ti_ids.specs.declared.state.InitState.TheVariants as states

module _ (now : List Class) where
  abbrev Fit : List Act → Type 0
  Fit acts = AllFit now acts

  abbrev Gives : Option (List Act) → Type 0
  Gives next = (acts : List Act) → next ≡ Some acts → StepFits now acts

  -- ---- a frame is left

  leaves_by : (s : State) (classes : List Class) (t : ThreadNo) (f : MethodFrame) (object : ObjNo) (owns : Bool)
      → Fit (
      if owns then Changes (Pops t) ∷ Changes (Leaves object) ∷ left_events classes t f
      else throws_new_among classes s.core t (Changes (Pops t) ∷ []) (left_events classes t f) monitor_name
      )
  leaves_by s classes t f object true = (tt, (tt, (tt, (tt, tt))))
  leaves_by s classes t f object false =
      new_among_fits now classes s.core t (Changes (Pops t) ∷ []) (left_events classes t f) monitor_name (tt, tt) (tt, (tt, tt))

  leaves_fit : (s : State) (classes : List Class) (t : ThreadNo) (f : MethodFrame) (monitor : Option ObjNo) → Fit (leaves_frame s classes t f monitor)
  leaves_fit s classes t f None = (tt, (tt, (tt, tt)))
  leaves_fit s classes t f (Some object) = leaves_by s classes t f object (owns_monitor s.core t object)

  unwound_fits : (s : State) (classes : List Class) (t : ThreadNo) (f : MethodFrame) (o : ObjNo) (h : Option Handler)
      → Fit (unwinds_frame s classes t f o h)
  unwound_fits s classes t f o (Some h) = (tt, (tt, tt))
  unwound_fits s classes t f o None = leaves_fit s classes t f f.pin.monitor

  failed_by : (s : State) (classes : List Class) (t : ThreadNo) (n : ClassNo) (is_error : Bool)
      → Fit (
      if is_error then Changes (SetsClass n states.Erroneous) ∷ Changes (Pops t) ∷ []
      else throws_new classes s.core t (Changes (SetsClass n states.Erroneous) ∷ Changes (Pops t) ∷ []) initializer_error
      )
  failed_by s classes t n true = (tt, (tt, tt))
  failed_by s classes t n false =
      new_fits now classes s.core t (Changes (SetsClass n states.Erroneous) ∷ Changes (Pops t) ∷ []) initializer_error (tt, (tt, tt))

  pub unwinds_fit : (w : World) (s : State) (classes : List Class) (t : ThreadNo) (f : StackFrame) (o : ObjNo) → Fit (unwinds w s classes t f o)
  unwinds_fit w s classes t (Java f) o = unwound_fits s classes t f o (handler_of w s classes f o)
  unwinds_fit w s classes t (Init n) o = failed_by s classes t n (is_instance classes s.core o error_name)

  -- ---- waiting and joining

  completed_by : (t : ThreadNo) (f : MethodFrame) (stop : Option Stop)
      → Fit (elim stop as (λ _. List Act) [
        | None ↦ []
        | Some stop ↦ Changes (SetsTop t (record f { pc = stop.site.next; stack = without_top f.stack; announced = No })) ∷ []
      ])
  completed_by t f None = tt
  completed_by t f (Some stop) = (tt, tt)

  top_fits : (w : World) (s : State) (classes : List Class) (t : ThreadNo) (thread : Thread) (frames : List StackFrame)
      → Fit (completed_top w s classes t thread frames)
  top_fits w s classes t thread (Java f ∷ below) = completed_by t f (stop_of w s classes t thread f)
  top_fits w s classes t thread (Init n ∷ below) = tt
  top_fits w s classes t thread [] = tt

  if_raises : (b : Bool) (acts : List Act) → Fit acts → Raises now (cond b (Some acts) None)
  if_raises true acts h = some_raises now acts h
  if_raises false acts h = none_raises now

  pub wakes_fit : (w : World) (s : State) (classes : List Class) (t : ThreadNo) (thread : Thread) (object : ObjNo)
      → Raises now (wakes w s classes t thread object)
  wakes_fit w s classes t thread object =
      if_raises (may_wake s.core t object)
      (Changes (TakesBack object t) ∷ Changes (SetsActivity t Free) ∷ raises (MonitorWaited t object) ∷ completed_top w s classes t thread thread.frames)
      (tt, (tt, (tt, top_fits w s classes t thread thread.frames)))

  pub joins_fit : (w : World) (s : State) (classes : List Class) (t : ThreadNo) (thread : Thread) (of : ThreadNo)
      → Raises now (joins w s classes t thread of)
  joins_fit w s classes t thread of =
      if_raises (has_thread_ended s.core of) (Changes (SetsActivity t Free) ∷ completed_top w s classes t thread thread.frames)
      (tt, top_fits w s classes t thread thread.frames)

  -- ---- an instruction

  tree_stops : (w : World) (s : State) (classes : List Class) (t : ThreadNo) (thread : Thread) (f : MethodFrame) (list : List (ℕ × Instr)) (i : Instr)
      (tree : Option Tree) → IsOver now classes → Stands s.core t thread f
      → FitsOutcome now (outcome_of w s (tree >>= λ tree. Some (record {
        site = record {
          core = s.core;
          classes = classes;
          t = t;
          thread = thread;
          frame = f;
          pool = tree.pool;
          next = unwrap_or (following list f.pc) 65535;
        };
        code = list;
        instr = i;
      })))
  tree_stops w s classes t thread f list i None over stands = tt
  tree_stops w s classes t thread f list i (Some tree) over stands =
      let site : Site = record {
        core = s.core;
        classes = classes;
        t = t;
        thread = thread;
        frame = f;
        pool = tree.pool;
        next = unwrap_or (following list f.pc) 65535;
      } in
      effect_fits now site over stands (behind_instruction w s) list i

  instr_stops : (w : World) (s : State) (classes : List Class) (t : ThreadNo) (thread : Thread) (f : MethodFrame) (list : List (ℕ × Instr))
      (i : Option Instr) → IsOver now classes → Stands s.core t thread f
      → FitsOutcome now (outcome_of w s (i >>= λ i. tree_of_frame w.job w.turns s.trace s.core.classes f >>= λ tree. Some (record {
        site = record {
          core = s.core;
          classes = classes;
          t = t;
          thread = thread;
          frame = f;
          pool = tree.pool;
          next = unwrap_or (following list f.pc) 65535;
        };
        code = list;
        instr = i;
      })))
  instr_stops w s classes t thread f list None over stands = tt
  instr_stops w s classes t thread f list (Some i) over stands =
      tree_stops w s classes t thread f list i (tree_of_frame w.job w.turns s.trace s.core.classes f) over stands

  code_stops : (w : World) (s : State) (classes : List Class) (t : ThreadNo) (thread : Thread) (f : MethodFrame) (list : Option (List (ℕ × Instr)))
      → IsOver now classes → Stands s.core t thread f
      → FitsOutcome now (outcome_of w s (list >>= λ list. instr_at list f.pc >>= λ i. tree_of_frame w.job w.turns s.trace s.core.classes f >>= λ tree.
      Some (record {
        site = record {
          core = s.core;
          classes = classes;
          t = t;
          thread = thread;
          frame = f;
          pool = tree.pool;
          next = unwrap_or (following list f.pc) 65535;
        };
        code = list;
        instr = i;
      })))
  code_stops w s classes t thread f None over stands = tt
  code_stops w s classes t thread f (Some list) over stands =
      instr_stops w s classes t thread f list (instr_at list f.pc) over stands

  pub stop_fits : (w : World) (s : State) (classes : List Class) (t : ThreadNo) (thread : Thread) (f : MethodFrame) → IsOver now classes
      → Stands s.core t thread f → FitsOutcome now (outcome_of w s (stop_of w s classes t thread f))
  stop_fits w s classes t thread f over stands = code_stops w s classes t thread f (code w.job w.turns s.trace s.core.classes f) over stands

  -- what announces an instruction fits in both ways
  pub announced_fits : (w : World) (s : State) (classes : List Class) (t : ThreadNo) (f : MethodFrame) (stop : Option Stop) (a : Announced)
      → Fit (announcing w s classes t f stop a)
  announced_fits w s classes t f stop Yes = tt
  announced_fits w s classes t f stop New = (tt, events_raised now (pre_events w s classes t f stop))
  announced_fits w s classes t f stop Caught = (tt, events_raised now (pre_events w s classes t f stop))
  announced_fits w s classes t f stop No = (tt, events_raised now (pre_events w s classes t f stop))

  announced_calls : (w : World) (s : State) (classes : List Class) (t : ThreadNo) (f : MethodFrame) (stop : Option Stop) (a : Announced)
      → AllByRecursion FitsCall (announcing w s classes t f stop a)
  announced_calls w s classes t f stop Yes = tt
  announced_calls w s classes t f stop New = (tt, calls_raised (pre_events w s classes t f stop))
  announced_calls w s classes t f stop Caught = (tt, calls_raised (pre_events w s classes t f stop))
  announced_calls w s classes t f stop No = (tt, calls_raised (pre_events w s classes t f stop))

  joined_fit : (first acts : List Act) → Fit first → AllByRecursion FitsCall first → StepFits now acts → StepFits now (first ++ acts)
  joined_fit first acts h k (inl fit) = inl (append_all (Fits now) first acts h fit)
  joined_fit first acts h k (inr fit) = inr (append_all FitsCall first acts k fit)

  performed_by : (calls : Bool) (first acts : List Act) → Fit first → StepFits now (first ++ acts)
      → Gives (Some (if calls then first else first ++ acts))
  performed_by true first acts h k other is = events_fit now first h other is
  performed_by false first acts h k other is = let same : first ++ acts ≡ other = cc in subst (StepFits now) same k

  performs_with : (calls : Bool) (first : List Act) (next : Option (List Act)) → Fit first → AllByRecursion FitsCall first → Gives next
      → Gives (next >>= λ acts. Some (if calls then first else first ++ acts))
  performs_with calls first None h k gives = none_fits now
  performs_with calls first (Some acts) h k gives = performed_by calls first acts h (joined_fit first acts h k (gives acts refl))

  executes_fit : (w : World) (s : State) (classes : List Class) (t : ThreadNo) (thread : Thread) (f : MethodFrame) → IsOrderly w → IsOver now classes
      → thread_at s.core t ≡ Some thread → IsOf thread (Executes f) → Gives (executes w s classes t thread f)
  executes_fit w s classes t thread f plain over found is =
      let stop = stop_of w s classes t thread f in
      let first = announcing w s classes t f stop f.announced in
      let then_state = announced_state w s t first in
      let o = outcome_of w then_state (stop_of w then_state classes t thread (announced f)) in
      performs_with (has_calls then_state.core (actors.Thread t)) first (resolved w then_state classes t o)
      (announced_fits w s classes t f stop f.announced) (announced_calls w s classes t f stop f.announced)
      (resolved_fits now w then_state classes t o plain (stop_fits w then_state classes t thread (announced f) over
      (announced_stands w s classes t thread found f is.0 is.1 stop f.announced refl)))

  stack_is : (s : State) (t : ThreadNo) (thread : Thread) → thread_at s.core t ≡ Some thread → frames_at s.core t ≡ thread.frames
  stack_is s t thread found = ap (λ (x : Option Thread). option_map_or (λ u. u.frames) x []) found

  -- ---- what each rule does

  rule_fits : (w : World) (s : State) (classes : List Class) (t : ThreadNo) (thread : Thread) (rule : ThreadRule) → IsOrderly w → IsOver now classes
      → thread_at s.core t ≡ Some thread → IsOf thread rule → Gives (rule_acts w s classes t thread rule)
  rule_fits w s classes t thread (Performs p) plain over found is =
      calls_fit now (performs w s (actors.Thread t) (queued (actors.Thread t) p))
      (performed_fit w s (actors.Thread t) (queued (actors.Thread t) p) plain tt)
  rule_fits w s classes t thread Begins plain over found is = events_fit now (begins t) (tt, (tt, tt))
  rule_fits w s classes t thread (Unwinds o f) plain over found is = events_fit now (unwinds w s classes t f o) (unwinds_fit w s classes t f o)
  rule_fits w s classes t thread (Wakes object) plain over found is = raises_fit now (wakes w s classes t thread object) (wakes_fit w s classes t thread object)
  rule_fits w s classes t thread (Joins of) plain over found is = raises_fit now (joins w s classes t thread of) (joins_fit w s classes t thread of)
  rule_fits w s classes t thread (Stays object) plain over found is = none_fits now
  rule_fits w s classes t thread (Initializes n) plain over found is = raises_fit now (progress_step s classes t n) (progress_fits now s classes t n over)
  rule_fits w s classes t thread (Executes f) plain over found is = executes_fit w s classes t thread f plain over found is
  rule_fits w s classes t thread EntersMethod plain over found is =
      resolved_fits now w s classes t (entry_outcome s.core classes t thread w.job.main) plain
      (entry_fits now s.core classes t thread w.job.main over is (stack_is s t thread found ∙ is))
  rule_fits w s classes t thread Ends plain over found is = events_fit now (ends_thread t) (tt, (tt, tt))

  -- ---- the machine itself

  phase_fits : (core : Core) (phase : Phase) → Gives (phase_acts core phase)
  phase_fits core phases.OnLoad = calls_fit now starts starts_fit
  phase_fits core phases.Primordial = none_fits now
  phase_fits core phases.Start = calls_fit now inits (tt, (tt, (tt, (tt, tt))))
  phase_fits core phases.Live = live_fits core.death_raised (list_all has_ended core.threads)
    where
      live_fits : (raised ended : Bool) → Gives (live_acts raised ended)
      live_fits true ended = calls_fit now (Changes (SetsPhase phases.Dead) ∷ []) (tt, tt)
      live_fits false true = calls_fit now (Changes MarksDeath ∷ Notes Died ∷ raises VMDeath ∷ []) (tt, (tt, (tt, tt)))
      live_fits false false = none_fits now
  phase_fits core phases.Dead = none_fits now

  machine_fits : (w : World) (s : State) (next : Option NextCall) → IsOrderly w → TakesFit next → Gives (machine_acts w s next)
  machine_fits w s (Some c) plain takes = calls_fit now (performs w s Vm c) (performed_fit w s Vm c plain (takes c refl))
  machine_fits w s None plain takes = phase_fits s.core s.core.phase

  agent_fits : (w : World) (s : State) (env : EnvNo) (next : Option NextCall) → IsOrderly w → TakesFit next
      → Gives (option_map (performs w s (Agent env)) next)
  agent_fits w s env None plain takes = none_fits now
  agent_fits w s env (Some c) plain takes =
      calls_fit now (performs w s (Agent env) c) (performed_fit w s (Agent env) c plain (takes c refl))

-- ---- every step

pub steps_fit : (w : World) (s : State) (actor : Actor) → IsOrderly w → (acts : List Act) → next_acts w s actor ≡ Some acts
    → StepFits (classes_now w s) acts
steps_fit w s Vm plain =
    machine_fits (classes_now w s) w s (next_call w s Vm) plain
    (queued_takes (λ c. FitsCall (Changes c)) (λ a. tt) (λ e. tt) Vm (waiting_call s.core Vm))
steps_fit w s (actors.Thread t) plain =
    let now = classes_now w s in
    bind_fits now (thread_at s.core t) (thread_acts_of w s now t) (λ thread found.
    bind_fits now (rule_of s t thread) (rule_acts w s now t thread) (λ rule is.
    rule_fits now w s now t thread rule plain (λ m body has. has) found (rule_is_of thread s t rule is)))
steps_fit w s (Agent env) plain =
    agent_fits (classes_now w s) w s env (next_call w s (Agent env)) plain
    (agent_takes (λ c. FitsCall (Changes c)) (λ a. tt) (λ e. tt) w s env (agent_at w.job env))
