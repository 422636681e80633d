-- What a step does, one change at a time: each changes one part of the core, or adds one record to the trace. A step of the machine is
-- the list of its acts.
use Rattle.std.specs.Prelude.{ℕ, zero, suc, ◌+◌, Bool, true, false, not, ◌&&◌, ◌||◌, ◌==◌, nat_le, is_some, is_none, List, [], ◌∷◌, ◌++◌, length, map, drop, fold, flat_map, filter, Option, Some, None, bytes_eq, if◌then◌else◌}
use Rattle.std.specs.List.{list_any}
use Rattle.std.specs.Option.{option_map_or}
use Rattle.ti_ids.specs.declared.number.ThreadNo.{ThreadNo}
use Rattle.ti_ids.specs.declared.number.ObjNo.{ObjNo}
use Rattle.ti_ids.specs.declared.number.EnvNo.{EnvNo}
use Rattle.ti_ids.specs.declared.number.ClassNo.{ClassNo}
use Rattle.ti_ids.specs.declared.number.FieldNo.{FieldNo}
use Rattle.ti_ids.specs.declared.value.Value.{Value}
use Rattle.ti_ids.specs.declared.actor.Actor.{Actor}
use Rattle.ti_ids.specs.declared.state.ThreadState.{ThreadState}
use Rattle.ti_ids.specs.declared.state.ThreadState.TheVariants.{Unbegun}
use Rattle.ti_codes.specs.declared.phase.Phase.{Phase}
use Rattle.ti_codes.specs.Events.{is_same_event}
use Rattle.jv_names.specs.Names.{Name}
use Rattle.java_heap.specs.declared.object.Object.{Object}
use Rattle.java_heap.specs.Changes.{with_field, with_elem, with_side, with_more}
use Rattle.monitor_table.specs.Monitors.{entered, left, gone_to_wait, with_one_notified, with_all_notified, taken_back}
use Rattle.thread_frames.specs.ThreadStack.{pushed, popped}
use Rattle.thread_frames.specs.declared.frame.StackEntry.TheVariants.{Java, Init}
use Rattle.ti_ids.specs.declared.state.InitState.{InitState}
use Rattle.agent_types.specs.declared.agent.Agent as agent_type
use Rattle.agent_types.specs.declared.agent.AgentKind.TheVariants as agent_kinds
use Rattle.agent_types.specs.declared.call.Call.{Call}
use Rattle.agent_types.specs.declared.agent.AgentKind.{AgentKind}
use Rattle.agent_types.specs.declared.agent.Callback.{Callback}
use Rattle.agent_types.specs.declared.agent.AgentKind.TheVariants.{Native}
use Rattle.machine_state.specs.Jobs.{Job, agent_at}
use Rattle.ti_ids.specs.declared.state.Activity.{Activity}
use Rattle.ti_ids.specs.declared.state.Activity.TheVariants.{Free}
use Rattle.machine_state.specs.Core.{Core, CoreClass, MethodFrame, StackFrame, Thread, Pending, is_of_classes, failure_of, most_threads, with_thread, with_frames, with_class, with_monitor, with_queue, same_field}
use Rattle.machine_state.specs.Trace.{Event, Record, Raised, Turned, Trace}
use Rattle.machine_state.specs.Linked.{array_type}
use Rattle.machine_state.specs.Events.{Told, told_by, told_by_hook, thread_of, class_of, object_of}
use Rattle.agent_types.specs.Calls.{with_object}
use Rattle.machine_state.specs.Chains.{acting}
use Rattle.machine_state.specs.Logs.{is_addressed}

-- the core, the trace, and the number of steps so far
pub record State : Type 0 where
  pub core : Core
  pub trace : Trace
  pub steps : ℕ

-- ---- changes of the core

pub data Change : Type 0 where
  -- the heap: an object is made, and gets the next number; a field, an element, the side of an object is set; a text grows
  Makes : Object → Change
  PutsField : ObjNo → ℕ → Value → Change
  PutsElement : ObjNo → ℕ → Value → Change
  PutsSide : ObjNo → Option ObjNo → Change
  PutsBehind : ObjNo → List ℕ → Change
  -- the monitor of an object (section 2.11.10)
  Enters : ObjNo → ThreadNo → Change
  Leaves : ObjNo → Change
  GoesToWait : ObjNo → ThreadNo → Change
  Notifies : ObjNo → Change
  NotifiesAll : ObjNo → Change
  TakesBack : ObjNo → ThreadNo → Change
  Prints : List ℕ → Change
  -- the frames of a thread: the top goes on as this frame stands, is taken away, gets one above it. A frame that is pushed gets its birth,
  -- and none is pushed of a class that isn't there.
  SetsTop : ThreadNo → MethodFrame → Change
  Pops : ThreadNo → Change
  Pushes : ThreadNo → MethodFrame → Change
  PushesInit : ThreadNo → ClassNo → Change
  -- a thread goes on, and a thread of a Thread object is made, if there aren't as many as may be
  SetsState : ThreadNo → ThreadState → Change
  SetsActivity : ThreadNo → Activity → Change
  MakesThread : ObjNo → Change
  PutsStatic : FieldNo → Value → Change
  -- a class is added, if none has its name and no load of it has failed, goes on, and its `<clinit>` was entered; a load or a type check
  -- failed with this class of error
  AddsClass : Name → InitState → Change
  SetsClass : ClassNo → InitState → Change
  EntersInitializer : ClassNo → Change
  Fails : Name → Name → Change
  SetsPhase : Phase → Change
  -- VMDeath was raised
  MarksDeath : Change
  -- the first pending call of an actor is taken, and the next call of a script
  TakesCall : Actor → Change
  TakesScript : EnvNo → Change

-- a static field set to a value, in the place of what it was set to before
abbrev pub statics_with : FieldNo → Value → Core → Core
statics_with field v core =
    record core { statics = record { field = field; value = v } ∷ filter (λ s. not (same_field s.field field)) core.statics }

-- a thread that was just made
abbrev pub new_thread : ObjNo → Thread
new_thread object = record { object = object; state = Unbegun; activity = Free; frames = [] }

-- A frame goes on: its class, its method and what it is pinned to stay, and all else is as in this one.
abbrev pub going_on : MethodFrame → List StackFrame → List StackFrame
going_on f [] = []
going_on f (Java g ∷ below) = Java (record f { class = g.class; method = g.method; pin = g.pin }) ∷ below
going_on f (Init class ∷ below) = Init class ∷ below

-- a frame that is pushed with this birth
abbrev pub born_at : ℕ → MethodFrame → MethodFrame
born_at birth frame = record frame { pin = record { birth = birth; monitor = frame.pin.monitor } }

-- the threads with one more, where there are fewer than are made
abbrev pub with_made : ObjNo → List Thread → List Thread
with_made object threads = if nat_le most_threads (length threads) then threads else threads ++ new_thread object ∷ []

-- whether a load of a class of this name has failed; an array class has no load
abbrev pub has_failed_load : Core → Name → Bool
has_failed_load core name = is_some (failure_of core name) && is_none (array_type name)

-- whether no class of this name may be added: one is there, or its load has failed
abbrev pub is_barred : Core → Name → Bool
is_barred core name = list_any (bytes_eq name) (map (λ c. c.name) core.classes) || has_failed_load core name

-- the classes with one more, where it isn't barred
abbrev pub with_added : Name → InitState → Core → List CoreClass
with_added name state core =
    if is_barred core name then core.classes else record { name = name; state = state; entered = false } ∷ core.classes

-- the frames with one more, where its classes are there
abbrev pub with_born : ℕ → List CoreClass → MethodFrame → List StackFrame → List StackFrame
with_born birth classes frame frames = if is_of_classes classes frame then pushed (Java (born_at birth frame)) frames else frames

-- a list of numbers with one more at a place, counted from 1
abbrev pub counted_up : List ℕ → ℕ → List ℕ
counted_up [] place = []
counted_up (n ∷ ns) zero = n ∷ ns
counted_up (n ∷ ns) (suc zero) = (n + 1) ∷ ns
counted_up (n ∷ ns) (suc (suc place)) = n ∷ counted_up ns (suc place)

-- the core after a change, where this is the birth of frames that are pushed
abbrev pub changed : ℕ → Change → Core → Core
changed birth (Makes object) core = record core { heap = record core.heap { objects = core.heap.objects ++ object ∷ [] } }
changed birth (PutsField object place v) core = record core { heap = with_field core.heap object place v }
changed birth (PutsElement object place v) core = record core { heap = with_elem core.heap object place v }
changed birth (PutsSide object side) core = record core { heap = with_side core.heap object side }
changed birth (PutsBehind object units) core = record core { heap = with_more core.heap object units }
changed birth (Enters object t) core = with_monitor (entered t) object core
changed birth (Leaves object) core = with_monitor left object core
changed birth (GoesToWait object t) core = with_monitor (gone_to_wait t) object core
changed birth (Notifies object) core = with_monitor with_one_notified object core
changed birth (NotifiesAll object) core = with_monitor with_all_notified object core
changed birth (TakesBack object t) core = with_monitor (taken_back t) object core
changed birth (Prints bytes) core = record core { output = core.output ++ bytes }
changed birth (SetsTop t frame) core = with_frames (going_on frame) t core
changed birth (Pops t) core = with_frames popped t core
changed birth (Pushes t frame) core = with_frames (with_born birth core.classes frame) t core
changed birth (PushesInit t class) core = with_frames (pushed (Init class)) t core
changed birth (SetsState t state) core = with_thread (λ thread. record thread { state = state }) t core
changed birth (SetsActivity t activity) core = with_thread (λ thread. record thread { activity = activity }) t core
changed birth (MakesThread object) core = record core { threads = with_made object core.threads }
changed birth (PutsStatic field v) core = statics_with field v core
changed birth (AddsClass name state) core = record core { classes = with_added name state core }
changed birth (SetsClass class state) core = with_class (λ c. record c { state = state }) class core
changed birth (EntersInitializer class) core = with_class (λ c. record c { entered = true }) class core
changed birth (Fails class error) core = record core { failures = core.failures ++ record { class = class; error = error } ∷ [] }
changed birth (SetsPhase phase) core = record core { phase = phase }
changed birth MarksDeath core = record core { death_raised = true }
changed birth (TakesCall actor) core = with_queue (drop 1) actor core
changed birth (TakesScript env) core = record core { scripts = counted_up core.scripts env.0 }

-- ---- records and the calls that they bring

abbrev pub fits_class : Option Name → Option Name → Bool
fits_class None class = true
fits_class (Some wanted) class = option_map_or (bytes_eq wanted) class false

abbrev pub fits_thread : Option ℕ → Option ThreadNo → Bool
fits_thread None thread = true
fits_thread (Some wanted) thread = option_map_or (λ t. wanted == t.0) thread false

-- A callback is for the event: its kind, and the class and the thread, where the callback names them.
abbrev pub fits : Told → Callback → Bool
fits told c = is_same_event c.event told.kind && fits_class c.class (class_of told) && fits_thread c.thread (thread_of told)

-- the object's number 0 stands for the event's object, where it has one
abbrev pub object_for : Told → ℕ → ℕ
object_for told zero = option_map_or (λ o. o.0) (object_of told) 0
object_for told (suc n) = suc n

abbrev pub call_for : Told → Call → Call
call_for told call = with_object (object_for told) call

-- the calls that an environment's callbacks for the event make, in their order
abbrev pub calls_for : EnvNo → Told → agent_type.Agent → List Pending
calls_for env told agent =
    flat_map (λ c. map (λ call. record { environment = env; call = call_for told call }) c.calls) (filter (fits told) agent.callbacks)

-- those of all environments that are told of an event, in the order of their numbers
abbrev pub event_calls_of : Trace → Event → Told → EnvNo → agent_type.Agent → List Pending
event_calls_of trace event told env agent = if is_addressed trace env event then calls_for env told agent else []

abbrev pub event_calls : Trace → Event → Told → ℕ → List agent_type.Agent → List Pending
event_calls trace event told n [] = []
event_calls trace event told n (agent ∷ agents) =
    event_calls_of trace event told (record { 0 = n }) agent ++ event_calls trace event told (n + 1) agents

-- a hook's turn is an event of its environment; the turn of a transformer of `java.lang.instrument` has no callbacks
abbrev pub turn_calls_in : EnvNo → Told → agent_type.Agent → AgentKind → List Pending
turn_calls_in env told agent Native = calls_for env told agent
turn_calls_in env told agent agent_kinds.Java = []

abbrev pub turn_calls : EnvNo → Told → Option agent_type.Agent → List Pending
turn_calls env told None = []
turn_calls env told (Some agent) = turn_calls_in env told agent agent.kind

-- the calls that wait for the actor after a record behind these
abbrev pub calls_of : Job → Trace → Actor → Record → List Pending
calls_of job trace actor (Raised event) = event_calls trace event (told_by event) 1 job.agents
calls_of job trace actor (Turned env class set k n has_changed) =
    turn_calls env (told_by_hook (acting actor) class) (agent_at job env)
calls_of job trace actor _ = []

-- ---- acts

pub data Act : Type 0 where
  Changes : Change → Act
  Notes : Record → Act

abbrev pub raises : Event → Act
raises event = Notes (Raised event)

abbrev pub is_note : Act → Bool
is_note (Changes change) = false
is_note (Notes what) = true

-- the state after an act of an actor, where this is the birth of frames that are pushed
abbrev pub acted : Job → Actor → ℕ → State → Act → State
acted job actor birth s (Changes change) = record s { core = changed birth change s.core }
acted job actor birth s (Notes what) = record s {
  core = with_queue (λ calls. calls ++ calls_of job s.trace actor what) actor s.core;
  trace = s.trace ++ record { step = s.steps; actor = actor; what = what } ∷ [];
}

-- the length of the trace when the step with these acts has ended
abbrev pub birth_after : Trace → List Act → ℕ
birth_after trace acts = length trace + length (filter is_note acts)

-- the state after all acts of a step
abbrev pub stepped : Job → Actor → State → List Act → State
stepped job actor s acts = let after = fold (acted job actor (birth_after s.trace acts)) s acts in record after { steps = s.steps + 1 }

-- the core after these acts of a step that goes on, where this is the birth of frames that the step pushes
abbrev pub core_after : ℕ → Core → List Act → Core
core_after birth core [] = core
core_after birth core (Changes change ∷ acts) = core_after birth (changed birth change core) acts
core_after birth core (Notes what ∷ acts) = core_after birth core acts
