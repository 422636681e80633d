-- Which rule gives a thread's next step: the first of an ordered list that fits. Whether the thread is ready is seen from the acts of the
-- rule (Threads.antt): one that waits has no step before it was notified.
use Rattle.std.specs.Prelude.{Bool, true, false, not, ◌&&◌, List, [], ◌∷◌, Option, Some, None, is_none, option_map, if◌then◌else◌}
use Rattle.ti_ids.specs.Maybe.{◌>>=◌}
use Rattle.ti_ids.specs.declared.number.ThreadNo.{ThreadNo}
use Rattle.ti_ids.specs.declared.number.ObjNo.{ObjNo}
use Rattle.ti_ids.specs.declared.number.ClassNo.{ClassNo}
use Rattle.ti_ids.specs.declared.actor.Actor.TheVariants as actors
use Rattle.ti_ids.specs.declared.state.ThreadState.{ThreadState}
use Rattle.ti_ids.specs.declared.state.ThreadState.TheVariants.{Unbegun, Entering}
use Rattle.ti_codes.specs.declared.phase.Phase.{Phase}
use Rattle.ti_codes.specs.declared.phase.Phase.TheVariants as phases
use Rattle.class_tree.specs.Tree.{first_of}
use Rattle.thread_frames.specs.declared.frame.StackEntry.TheVariants.{Java, Init}
use Rattle.ti_ids.specs.declared.state.Activity.{Activity}
use Rattle.ti_ids.specs.declared.state.Activity.TheVariants.{Throwing, Waiting, Joining, Wanting}
use Rattle.machine_state.specs.Core.{Core, Thread, MethodFrame, StackFrame, Pending, thread_at, has_ended, monitor_at}
use Rattle.machine_state.specs.Places.{is_suspended}
use Rattle.machine_state.specs.Acts.{State}
use Rattle.machine_steps.specs.Calls.{waiting_call, has_calls}

pub data ThreadRule : Type 0 where
  -- it performs this call, the first that waits for it
  Performs : Pending → ThreadRule
  -- it hasn't begun, and does so
  Begins : ThreadRule
  -- it throws this object, and its topmost frame is left or goes on at a handler
  Unwinds : ObjNo → StackFrame → ThreadRule
  -- it waits in the wait set of this object
  Wakes : ObjNo → ThreadRule
  -- it joins this thread
  Joins : ThreadNo → ThreadRule
  -- it wants the monitor of this object, which is owned, and has no step
  Stays : ObjNo → ThreadRule
  -- the initialization of this class is on top, and makes its next step
  Initializes : ClassNo → ThreadRule
  -- the frame of a method is on top, and its instruction is executed
  Executes : MethodFrame → ThreadRule
  -- without a frame it enters its method, or has entered it and ends
  EntersMethod : ThreadRule
  Ends : ThreadRule

-- ---- when each of them fits

abbrev pub begins_in : ThreadState → Option ThreadRule
begins_in Unbegun = Some Begins
begins_in _ = None

-- one that throws and has no frame ends
abbrev pub unwinds_in : Activity → List StackFrame → Option ThreadRule
unwinds_in (Throwing o) (f ∷ below) = Some (Unwinds o f)
unwinds_in (Throwing o) [] = Some Ends
unwinds_in _ _ = None

abbrev pub wakes_in : Activity → Option ThreadRule
wakes_in (Waiting object) = Some (Wakes object)
wakes_in _ = None

abbrev pub joins_in : Activity → Option ThreadRule
joins_in (Joining of) = Some (Joins of)
joins_in _ = None

-- nobody owns the monitor that a thread wants
abbrev pub is_to_have : Core → ObjNo → Bool
is_to_have core object = is_none (monitor_at core object).owner

abbrev pub stays_in : Core → Activity → Option ThreadRule
stays_in core (Wanting object) = if is_to_have core object then None else Some (Stays object)
stays_in core _ = None

abbrev pub goes_on_in : List StackFrame → Option ThreadRule
goes_on_in [] = None
goes_on_in (Init n ∷ below) = Some (Initializes n)
goes_on_in (Java f ∷ below) = Some (Executes f)

abbrev pub enters_in : ThreadState → Option ThreadRule
enters_in Entering = Some EntersMethod
enters_in _ = None

-- ---- all of them, in their order

-- what each rule says of a thread that may act
abbrev pub thread_rules : Core → ThreadNo → Thread → List (Option ThreadRule)
thread_rules core t thread =
    option_map Performs (waiting_call core (actors.Thread t))
    ∷ begins_in thread.state
    ∷ unwinds_in thread.activity thread.frames
    ∷ wakes_in thread.activity
    ∷ joins_in thread.activity
    ∷ stays_in core thread.activity
    ∷ goes_on_in thread.frames
    ∷ enters_in thread.state
    ∷ Some Ends
    ∷ []

-- ---- the next one

abbrev pub is_live : Phase → Bool
is_live phases.Live = true
is_live _ = false

-- in phase Live, while no call waits for the machine, the thread is alive and not suspended
abbrev pub may_act : State → ThreadNo → Thread → Bool
may_act s t thread = is_live s.core.phase && not (has_calls s.core actors.Vm) && not (has_ended thread) && not (is_suspended s.trace t)

abbrev pub rule_of : State → ThreadNo → Thread → Option ThreadRule
rule_of s t thread = if may_act s t thread then first_of (λ (rule : Option ThreadRule). rule) (thread_rules s.core t thread) else None

-- of the thread of a number; None where it may not act
abbrev pub next_rule : State → ThreadNo → Option ThreadRule
next_rule s t = thread_at s.core t >>= rule_of s t
