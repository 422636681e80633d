-- How a thread that throws goes on (JVM specification 2.10): one frame a step.
use Rattle.std.specs.Prelude.{ℕ, ◌==◌, nat_le, nat_lt, Bool, true, false, ◌&&◌, List, [], ◌∷◌, find, Option, Some, None, codes, if◌then◌else◌}
use Rattle.std.specs.Option.{option_map_or}
use Rattle.ti_ids.specs.Maybe.{◌>>=◌}
use Rattle.ti_ids.specs.declared.number.ThreadNo.{ThreadNo}
use Rattle.ti_ids.specs.declared.number.ObjNo.{ObjNo}
use Rattle.ti_ids.specs.declared.number.ClassNo.{ClassNo}
use Rattle.ti_ids.specs.declared.value.Value.TheVariants as value
use Rattle.ti_ids.specs.declared.state.Announced.TheVariants.{Caught}
use Rattle.jv_names.specs.Names.{Name}
use Rattle.class_tree.specs.declared.pool.Const.{Const}
use Rattle.class_tree.specs.declared.body.Handler.{Handler}
use Rattle.class_tree.specs.Tree.{class_at}
use Rattle.java_heap.specs.Heaps as heaps
use Rattle.thread_frames.specs.declared.frame.StackEntry.TheVariants.{Java, Init}
use Rattle.ti_ids.specs.declared.state.InitState.TheVariants as states
use Rattle.link_versions.specs.Classes.{Class, number_of}
use Rattle.link_versions.specs.Subtypes.{is_subclass}
use Rattle.ti_ids.specs.declared.state.Activity.TheVariants.{Free}
use Rattle.machine_state.specs.Core.{Core, MethodFrame, StackFrame, monitor_at}
use Rattle.machine_state.specs.Trace.{Threw, MethodExit, FramePop}
use Rattle.machine_state.specs.FrameCode.{body_of_frame, tree_of_frame}
use Rattle.machine_state.specs.Acts.{State, Act, Changes, SetsTop, SetsActivity, SetsClass, Pops, Leaves, raises}
use Rattle.machine_steps.specs.World.{World}
use Rattle.machine_steps.specs.Throwing.{method_of, throws_new, throws_new_among}

-- ---- classes of exceptions

-- an object is of a class of this name, or of one below it
abbrev pub is_instance : List Class → Core → ObjNo → Name → Bool
is_instance classes core o name = elim (heaps.class_at core.heap o) [
  | None ↦ false
  | Some n ↦ option_map_or (is_subclass classes n) (number_of classes name) false
]

-- ---- handlers: section 2.10

abbrev pub covers : ℕ → Handler → Bool
covers pc h = nat_le h.start pc && nat_lt pc h.end

-- a handler without a class catches all
abbrev pub catches : List Class → Core → List Const → ObjNo → Handler → Bool
catches classes core pool o h = if h.catch_type == 0 then true else option_map_or (is_instance classes core o) (class_at pool h.catch_type) false

-- The first one that covers the frame's pc and catches the exception. Its operand stack has room for it in each class that was linked.
abbrev pub handler_of : World → State → List Class → MethodFrame → ObjNo → Option Handler
handler_of w s classes f o = do
  tree ← tree_of_frame w.job w.turns s.trace s.core.classes f
  body ← body_of_frame w.job w.turns s.trace s.core.classes f
  if nat_le 1 f.stack.room then find (λ h. covers f.pc h && catches classes s.core tree.pool o h) body.handlers else None

-- the frame at a handler, with the exception alone on its operand stack
abbrev pub handling : MethodFrame → ObjNo → Handler → MethodFrame
handling f o h = record f { pc = h.target; stack = record { entries = value.Ref (Some o) ∷ []; room = f.stack.room }; announced = Caught }

-- ---- a frame is left

abbrev pub left_events : List Class → ThreadNo → MethodFrame → List Act
left_events classes t f = raises (MethodExit t (method_of classes f) Threw) ∷ raises (FramePop t (method_of classes f) Threw f.pin.birth) ∷ []

abbrev pub owns_monitor : Core → ThreadNo → ObjNo → Bool
owns_monitor core t object = option_map_or (λ owner. owner.0 == t.0) (monitor_at core object).owner false

abbrev pub monitor_name : Name
monitor_name = codes "java/lang/IllegalMonitorStateException"

-- The monitor of a synchronized method is given up. Where the thread doesn't own it, a new exception takes the place of the one that it
-- threw, before the events of the frame.
abbrev pub leaves_frame : State → List Class → ThreadNo → MethodFrame → Option ObjNo → List Act
leaves_frame s classes t f None = Changes (Pops t) ∷ left_events classes t f
leaves_frame s classes t f (Some object) =
    if owns_monitor s.core t object then Changes (Pops t) ∷ Changes (Leaves object) ∷ left_events classes t f
    else throws_new_among classes s.core t (Changes (Pops t) ∷ []) (left_events classes t f) monitor_name

-- ---- an initialization fails: section 5.5

abbrev pub error_name : Name
error_name = codes "java/lang/Error"

abbrev pub initializer_error : Name
initializer_error = codes "java/lang/ExceptionInInitializerError"

abbrev pub fails_init : State → List Class → ThreadNo → ClassNo → ObjNo → List Act
fails_init s classes t n o =
    let failing = Changes (SetsClass n states.Erroneous) ∷ Changes (Pops t) ∷ [] in
    if is_instance classes s.core o error_name then failing else throws_new classes s.core t failing initializer_error

-- ---- one step of a thread that throws this object, by its topmost frame

abbrev pub unwinds_frame : State → List Class → ThreadNo → MethodFrame → ObjNo → Option Handler → List Act
unwinds_frame s classes t f o (Some h) = Changes (SetsTop t (handling f o h)) ∷ Changes (SetsActivity t Free) ∷ []
unwinds_frame s classes t f o None = leaves_frame s classes t f f.pin.monitor

abbrev pub unwinds : World → State → List Class → ThreadNo → StackFrame → ObjNo → List Act
unwinds w s classes t (Java f) o = unwinds_frame s classes t f o (handler_of w s classes f o)
unwinds w s classes t (Init n) o = fails_init s classes t n o
