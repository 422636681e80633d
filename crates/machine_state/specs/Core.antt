-- The machine at one moment (JVM specification 2.5), without what follows from the trace: no version, mask, log, tag, breakpoint
-- or watch stands here.
use Rattle.std.specs.Prelude.{ℕ, ◌-◌, Bool, true, false, ◌&&◌, ◌==◌, nat_le, List, [], ◌∷◌, length, slice_set, find, Option, option_map, unwrap_or, bytes_eq, if◌then◌else◌}
use Rattle.std.specs.List.{list_any}
use Rattle.std.specs.Option.{option_map_or}
use Rattle.ti_ids.specs.declared.number.ThreadNo.{ThreadNo}
use Rattle.ti_ids.specs.declared.number.ObjNo.{ObjNo}
use Rattle.ti_ids.specs.declared.number.EnvNo.{EnvNo}
use Rattle.ti_ids.specs.declared.number.ClassNo.{ClassNo}
use Rattle.ti_ids.specs.declared.number.FieldNo.{FieldNo}
use Rattle.ti_ids.specs.declared.value.Value.{Value}
use Rattle.ti_ids.specs.declared.actor.Actor.{Actor}
use Rattle.ti_ids.specs.declared.state.ThreadState.{ThreadState}
use Rattle.ti_ids.specs.declared.state.ThreadState.TheVariants.{Unbegun, Entering, Running, Ended}
use Rattle.ti_ids.specs.Actors.{same_actor}
use Rattle.ti_codes.specs.declared.phase.Phase.{Phase}
use Rattle.jv_names.specs.Names.{Name}
use Rattle.java_heap.specs.Heaps.{HeapValue}
use Rattle.monitor_table.specs.Monitors.{Monitor, free}
use Rattle.thread_frames.specs.declared.frame.Frame.{Frame}
use Rattle.thread_frames.specs.declared.frame.StackEntry.{StackEntry}
use Rattle.ti_ids.specs.declared.state.Activity.{Activity}
use Rattle.ti_ids.specs.declared.state.InitState.{InitState}
use Rattle.link_versions.specs.Classes.{numbered, with_numbered}
use Rattle.agent_types.specs.declared.call.Call.{Call}
use Rattle.machine_state.specs.Jobs.{at_number}

-- ---- frames

-- What a frame is pinned to: its birth, which is the length of the trace when the step that pushed it had ended, and the object whose
-- monitor was entered for a synchronized method (section 2.11.10).
pub record Pin : Type 0 where
  pub birth : ℕ
  pub monitor : Option ObjNo

-- Section 2.6: the frame of a method. It holds no code: that is what the class was at the birth.
abbrev pub MethodFrame : Type 0
MethodFrame = Frame Pin

-- the frame of a method, or the initialization of a class
abbrev pub StackFrame : Type 0
StackFrame = StackEntry Pin

-- ---- threads

pub record Thread : Type 0 where
  -- its Thread object
  pub object : ObjNo
  pub state : ThreadState
  -- one that has ended while it threw stays Throwing
  pub activity : Activity
  -- the top first
  pub frames : List StackFrame

-- ---- classes

-- A class that was loaded or, of an array, made. Whether its `<clinit>` was entered is the place of its initialization.
pub record CoreClass : Type 0 where
  pub name : Name
  pub state : InitState
  pub entered : Bool

-- a class whose load or whose type check failed, and the class of the error that this threw
pub record Failure : Type 0 where
  pub class : Name
  pub error : Name

pub record Static : Type 0 where
  pub field : FieldNo
  pub value : Value

-- section 2.11.10: the monitor of an object
pub record ObjectMonitor : Type 0 where
  pub object : ObjNo
  pub monitor : Monitor

-- ---- agents

-- a call of an environment that waits to be performed
pub record Pending : Type 0 where
  pub environment : EnvNo
  pub call : Call

-- the calls that wait for an actor, the first first
pub record Queue : Type 0 where
  pub actor : Actor
  pub calls : List Pending

-- ---- the whole

pub record Core : Type 0 where
  pub phase : Phase
  -- whether VMDeath was raised: from then on the machine only performs what waits for it, and ends
  pub death_raised : Bool
  -- the newest first, so that a class's number is how many there are from it to the end
  pub classes : List CoreClass
  pub failures : List Failure
  -- the static fields that were set; every other one has the value that it begins with
  pub statics : List Static
  pub heap : HeapValue
  -- those that were ever used, of which each object has one at most; every other one is free
  pub monitors : List ObjectMonitor
  -- thread 1 first
  pub threads : List Thread
  pub output : List ℕ
  pub queues : List Queue
  -- how many calls of its script each agent has made, agent 1 first
  pub scripts : List ℕ

-- ---- its parts by number, and the core with another part in its place

abbrev pub thread_at : Core → ThreadNo → Option Thread
thread_at core t = at_number core.threads t.0

abbrev pub with_thread : (Thread → Thread) → ThreadNo → Core → Core
with_thread change t core = record core {
  threads = option_map_or (λ thread. slice_set core.threads (t.0 - 1) (change thread)) (thread_at core t) core.threads;
}

-- the frames of a thread, the top first
abbrev pub frames_at : Core → ThreadNo → List StackFrame
frames_at core t = option_map_or (λ thread. thread.frames) (thread_at core t) []

abbrev pub with_frames : (List StackFrame → List StackFrame) → ThreadNo → Core → Core
with_frames change t core = with_thread (λ thread. record thread { frames = change thread.frames }) t core

abbrev pub class_of_number : Core → ClassNo → Option CoreClass
class_of_number core n = numbered core.classes n.0

-- a class has this number
abbrev pub has_class : List CoreClass → ClassNo → Bool
has_class classes n = nat_le 1 n.0 && nat_le n.0 (length classes)

-- the frame is of classes that are there: its own, and the one that declares its method
abbrev pub is_of_classes : List CoreClass → MethodFrame → Bool
is_of_classes classes f = has_class classes f.class && has_class classes f.method.class

abbrev pub with_class : (CoreClass → CoreClass) → ClassNo → Core → Core
with_class change n core = record core { classes = with_numbered change core.classes n.0 }

-- the error of a class's failed load or type check
abbrev pub failure_of : Core → Name → Option Name
failure_of core name = option_map (λ f. f.error) (find (λ f. bytes_eq f.class name) core.failures)

abbrev pub same_field : FieldNo → FieldNo → Bool
same_field a b = a.class.0 == b.class.0 && a.place == b.place

-- the value that a static field was set to last
abbrev pub static_set : Core → FieldNo → Option Value
static_set core field = option_map (λ s. s.value) (find (λ s. same_field s.field field) core.statics)

abbrev pub is_monitor_of : ObjNo → ObjectMonitor → Bool
is_monitor_of object m = m.object.0 == object.0

abbrev pub monitor_at : Core → ObjNo → Monitor
monitor_at core object = option_map_or (λ m. m.monitor) (find (is_monitor_of object) core.monitors) free

abbrev pub monitors_with : (Monitor → Monitor) → ObjNo → List ObjectMonitor → List ObjectMonitor
monitors_with change object [] = record { object = object; monitor = change free } ∷ []
monitors_with change object (m ∷ monitors) =
    if is_monitor_of object m then record m { monitor = change m.monitor } ∷ monitors else m ∷ monitors_with change object monitors

abbrev pub with_monitor : (Monitor → Monitor) → ObjNo → Core → Core
with_monitor change object core = record core { monitors = monitors_with change object core.monitors }

-- the calls that wait for an actor
abbrev pub queue_of : Core → Actor → List Pending
queue_of core actor = option_map_or (λ q. q.calls) (find (λ q. same_actor q.actor actor) core.queues) []

abbrev pub queues_with : (List Pending → List Pending) → Actor → List Queue → List Queue
queues_with change actor [] = record { actor = actor; calls = change [] } ∷ []
queues_with change actor (q ∷ queues) =
    if same_actor q.actor actor then record q { calls = change q.calls } ∷ queues else q ∷ queues_with change actor queues

abbrev pub with_queue : (List Pending → List Pending) → Actor → Core → Core
with_queue change actor core = record core { queues = queues_with change actor core.queues }

-- how many calls of its script an agent has made
abbrev pub script_place : Core → EnvNo → ℕ
script_place core env = unwrap_or (at_number core.scripts env.0) 0

-- ---- threads

abbrev pub has_ended : Thread → Bool
has_ended thread = elim thread.state [ Unbegun ↦ false | Entering ↦ false | Running ↦ false | Ended ↦ true ]

-- the thread of a Thread object, and whether there is one
abbrev pub is_of_object : ObjNo → Thread → Bool
is_of_object object thread = thread.object.0 == object.0

abbrev pub was_started : Core → ObjNo → Bool
was_started core object = list_any (is_of_object object) core.threads

-- how many threads are made, those that have ended among them
abbrev pub most_threads : ℕ
most_threads = 64
