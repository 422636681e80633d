-- The steps of a thread: what the rule that is next does.
use Rattle.std.specs.Prelude.{◌≡◌, ℕ, Bool, true, ◌&&◌, List, [], ◌∷◌, ◌++◌, fold, Option, Some, None, is_none, option_map, unwrap_or, if◌then◌else◌}
use Rattle.std.specs.Option.{option_map_or}
use Rattle.ti_ids.specs.Maybe.{◌>>=◌}
use Rattle.ti_ids.specs.declared.number.ThreadNo.{ThreadNo}
use Rattle.ti_ids.specs.declared.number.ObjNo.{ObjNo}
use Rattle.ti_ids.specs.declared.actor.Actor.TheVariants as actors
use Rattle.ti_ids.specs.declared.state.Announced.TheVariants.{No}
use Rattle.ti_ids.specs.declared.state.ThreadState.TheVariants.{Entering, Ended}
use Rattle.monitor_table.specs.Monitors.{has_wait}
use Rattle.thread_frames.specs.Operands.{without_top}
use Rattle.thread_frames.specs.declared.frame.StackEntry.TheVariants.{Java, Init}
use Rattle.link_versions.specs.Classes.{Class}
use Rattle.ti_ids.specs.declared.state.Activity.{Activity}
use Rattle.ti_ids.specs.declared.state.Activity.TheVariants.{Free}
use Rattle.machine_state.specs.Core.{Core, Thread, MethodFrame, StackFrame, thread_at, has_ended, monitor_at}
use Rattle.machine_state.specs.Trace.{ThreadStart, ThreadEnd, MonitorWaited}
use Rattle.machine_state.specs.Acts.{State, Act, Changes, SetsTop, SetsState, SetsActivity, TakesBack, raises, acted}
use Rattle.bytecode_local.specs.Effect.{following}
use Rattle.machine_state.specs.FrameCode.{code}
use Rattle.instruction_effect.specs.Outcomes.{Outcome, Goes, Throws, Fills, ThrowsObject, NeedsLoad, NeedsLink, NeedsInit, misfit}
use Rattle.instruction_effect.specs.Effect.{effect}
use Rattle.instruction_effect.specs.Monitors.{wish_ends}
use Rattle.instruction_effect.specs.CallEntry.{entry_outcome}
use Rattle.machine_steps.specs.World.{World}
use Rattle.machine_steps.specs.Sites.{Stop, stop_of}
use Rattle.machine_steps.specs.Throwing.{throws, throws_new, throws_full, class_name_of}
use Rattle.machine_steps.specs.Loading.{next_load, load_step}
use Rattle.machine_steps.specs.Linking.{link_step}
use Rattle.machine_steps.specs.Initializing.{init_step, progress_step}
use Rattle.machine_steps.specs.Announcing.{announced, announcing}
use Rattle.machine_steps.specs.Unwinding.{unwinds}
use Rattle.machine_steps.specs.Calls.{has_calls, queued, performs}
use Rattle.machine_steps.specs.ThreadRules.{ThreadRule, Performs, Begins, Unwinds, Wakes, Joins, Stays, Initializes, Executes, EntersMethod, Ends, rule_of}

-- ---- what an outcome does. None while another thread initializes the class that it needs.

-- what holds up a thread that is there
abbrev pub activity_of : Core → ThreadNo → Activity
activity_of core t = option_map_or (λ thread. thread.activity) (thread_at core t) Free

abbrev pub resolved : World → State → List Class → ThreadNo → Outcome → Option (List Act)
resolved w s classes t (Goes acts) = Some (wish_ends t (activity_of s.core t) ++ acts)
resolved w s classes t (Throws before name) = Some (throws_new classes s.core t before name)
resolved w s classes t (Fills before) = Some (throws_full classes s.core t before)
resolved w s classes t (ThrowsObject o) = Some (throws classes s.core t [] o (class_name_of classes s.core o))
resolved w s classes t (NeedsLoad name) = load_step w s classes t (next_load w s.core classes name)
resolved w s classes t (NeedsLink n) = Some (link_step w s classes t n)
resolved w s classes t (NeedsInit n) = init_step s classes t n

-- ---- a thread begins and ends

abbrev pub begins : ThreadNo → List Act
begins t = Changes (SetsState t Entering) ∷ raises (ThreadStart t) ∷ []

abbrev pub ends_thread : ThreadNo → List Act
ends_thread t = Changes (SetsState t Ended) ∷ raises (ThreadEnd t) ∷ []

-- ---- waiting, joining

-- An invocation that waited is complete: its one operand is taken, and the frame goes on behind it.
abbrev pub completed : World → State → List Class → ThreadNo → Thread → MethodFrame → List Act
completed w s classes t thread f = elim (stop_of w s classes t thread f) [
  | None ↦ []
  | Some stop ↦ Changes (SetsTop t (record f { pc = stop.site.next; stack = without_top f.stack; announced = No })) ∷ []
]

abbrev pub completed_top : World → State → List Class → ThreadNo → Thread → List StackFrame → List Act
completed_top w s classes t thread (Java f ∷ below) = completed w s classes t thread f
completed_top w s classes t thread (Init n ∷ below) = []
completed_top w s classes t thread [] = []

-- it was notified, and nobody owns the monitor
abbrev pub may_wake : Core → ThreadNo → ObjNo → Bool
may_wake core t object = let m = monitor_at core object in has_wait t m.notified && is_none m.owner

abbrev pub wakes : World → State → List Class → ThreadNo → Thread → ObjNo → Option (List Act)
wakes w s classes t thread object =
    if may_wake s.core t object
    then Some (
    Changes (TakesBack object t) ∷ Changes (SetsActivity t Free) ∷ raises (MonitorWaited t object)
    ∷ completed_top w s classes t thread thread.frames
    )
    else None

abbrev pub has_thread_ended : Core → ThreadNo → Bool
has_thread_ended core t = option_map_or has_ended (thread_at core t) true

abbrev pub joins : World → State → List Class → ThreadNo → Thread → ThreadNo → Option (List Act)
joins w s classes t thread of =
    if has_thread_ended s.core of then Some (Changes (SetsActivity t Free) ∷ completed_top w s classes t thread thread.frames) else None

-- ---- an instruction

-- the offset behind the instruction of a frame
abbrev pub behind_instruction : World → State → MethodFrame → Option ℕ
behind_instruction w s f = option_map (λ list. unwrap_or (following list f.pc) 65535) (code w.job w.turns s.trace s.core.classes f)

-- where no instruction begins at the pc, that is a misfit
abbrev pub outcome_of : World → State → Option Stop → Outcome
outcome_of w s None = misfit
outcome_of w s (Some stop) = effect (behind_instruction w s) stop.site stop.code stop.instr

-- what is performed at a frame's pc is a misfit: it throws InternalError, which nothing else does
abbrev pub IsMisfit : World → State → List Class → ThreadNo → Thread → MethodFrame → Type 0
IsMisfit w s classes t thread f = outcome_of w s (stop_of w s classes t thread f) ≡ misfit

-- the state behind acts that announce, within the step
abbrev pub announced_state : World → State → ThreadNo → List Act → State
announced_state w s t acts = fold (acted w.job (actors.Thread t) 0) s acts

-- It is announced, where it wasn't. If calls wait then, the step ends there; else its first need is met, or it is performed.
abbrev pub executes : World → State → List Class → ThreadNo → Thread → MethodFrame → Option (List Act)
executes w s classes t thread f =
    let first = announcing w s classes t f (stop_of w s classes t thread f) f.announced in
    let then_state = announced_state w s t first in
    resolved w then_state classes t (outcome_of w then_state (stop_of w then_state classes t thread (announced f))) >>= λ acts.
    Some (if has_calls then_state.core (actors.Thread t) then first else first ++ acts)

-- ---- what each rule does; None where it has no step now

abbrev pub rule_acts : World → State → List Class → ThreadNo → Thread → ThreadRule → Option (List Act)
rule_acts w s classes t thread (Performs p) = Some (performs w s (actors.Thread t) (queued (actors.Thread t) p))
rule_acts w s classes t thread Begins = Some (begins t)
rule_acts w s classes t thread (Unwinds o f) = Some (unwinds w s classes t f o)
rule_acts w s classes t thread (Wakes object) = wakes w s classes t thread object
rule_acts w s classes t thread (Joins of) = joins w s classes t thread of
rule_acts w s classes t thread (Stays object) = None
rule_acts w s classes t thread (Initializes n) = progress_step s classes t n
rule_acts w s classes t thread (Executes f) = executes w s classes t thread f
rule_acts w s classes t thread EntersMethod = resolved w s classes t (entry_outcome s.core classes t thread w.job.main)
rule_acts w s classes t thread Ends = Some (ends_thread t)

-- ---- the next step

abbrev pub thread_acts_of : World → State → List Class → ThreadNo → Thread → Option (List Act)
thread_acts_of w s classes t thread = rule_of s t thread >>= rule_acts w s classes t thread

-- the acts of a thread's next step; None where it isn't ready
abbrev pub thread_acts : World → State → List Class → ThreadNo → Option (List Act)
thread_acts w s classes t = thread_at s.core t >>= thread_acts_of w s classes t
