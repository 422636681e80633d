-- That after every schedule the heap is sound, and each reference that the machine holds is null or names an object that is there.
use Rattle.std.specs.Prelude.{◌≡◌, List, Some, IfSome}
use Rattle.std.specs.List.{AllByRecursion}
use Rattle.ti_ids.specs.declared.number.ThreadNo.{ThreadNo}
use Rattle.ti_ids.specs.declared.number.ObjNo.{ObjNo}
use Rattle.ti_ids.specs.declared.actor.Actor.{Actor}
use Rattle.ti_ids.specs.declared.state.Activity.{Activity}
use Rattle.ti_ids.specs.declared.state.Activity.TheVariants.{Throwing, Waiting, Wanting}
use Rattle.ti_ids.specs.declared.value.Value.{Value}
use Rattle.java_heap.specs.Heaps.{HeapValue, IsThere, NamesThere, AllReferThere, IsSound}
use Rattle.thread_frames.specs.declared.frame.StackEntry.TheVariants.{Java, Init}
use Rattle.machine_state.specs.Core.{Core, MethodFrame, StackFrame, Thread, monitor_at}
use Rattle.machine_steps.specs.World.{World}
use Rattle.machine_steps.specs.Replay.{state}
use Rattle.machine_steps.specs.Bounds.{IsBounded}
use Rattle.machine_steps.specs.Reachable.{CallsRecord}

-- ---- references that are held outside the heap: JVM specification 2.4, 2.5 and 2.6

-- each of these values that is a reference is null or names an object that is there
abbrev pub NameThere : HeapValue → List Value → Type 0
NameThere heap values = AllByRecursion (NamesThere heap) values

-- the local variables and the operands of a method's frame, and the object whose monitor was entered for a synchronized method
pub record MethodNamesThere (heap : HeapValue) (f : MethodFrame) : Type 0 where
  pub locals : NameThere heap f.locals
  pub operands : NameThere heap f.stack.entries
  pub monitor : IfSome f.pin.monitor (IsThere heap)

-- of a frame; an initialization of a class holds no reference
abbrev pub FrameNamesThere : HeapValue → StackFrame → Type 0
FrameNamesThere heap (Java f) = MethodNamesThere heap f
FrameNamesThere heap (Init class) = Unit {0}

-- the object that is thrown, and that whose monitor is waited for or wanted
abbrev pub ActivityNamesThere : HeapValue → Activity → Type 0
ActivityNamesThere heap (Throwing o) = IsThere heap o
ActivityNamesThere heap (Waiting o) = IsThere heap o
ActivityNamesThere heap (Wanting o) = IsThere heap o
ActivityNamesThere heap _ = Unit {0}

-- a thread's own object, and what its activity and its frames hold
pub record ThreadNamesThere (heap : HeapValue) (thread : Thread) : Type 0 where
  pub object : IsThere heap thread.object
  pub activity : ActivityNamesThere heap thread.activity
  pub frames : AllByRecursion (FrameNamesThere heap) thread.frames

-- All of them: what threads, static fields and objects hold, and the object of each monitor that is owned (section 2.11.10).
pub record AreReferencesThere (core : Core) : Type 0 where
  pub threads : AllByRecursion (ThreadNamesThere core.heap) core.threads
  pub statics : AllByRecursion (λ s. NamesThere core.heap s.value) core.statics
  pub objects : AllReferThere core.heap
  pub monitors : (o : ObjNo) (owner : ThreadNo) → (monitor_at core o).owner ≡ Some owner → IsThere core.heap o

-- ---- schedules of a job within its bounds, where calls record

-- After every schedule the heap is sound.
abbrev pub HeapsAreSound : Type 0
HeapsAreSound = (w : World) (schedule : List Actor) → CallsRecord w → IsBounded w.job → IsSound (state w schedule).core.heap

-- After every schedule each reference is null or names an object that is there.
abbrev pub ReferencesAreThere : Type 0
ReferencesAreThere = (w : World) (schedule : List Actor) → CallsRecord w → IsBounded w.job → AreReferencesThere (state w schedule).core
