-- What tool calls see of classes and threads (JVM TI, "GetLoadedClasses", "GetClassStatus" and "GetThreadState").
use Rattle.std.specs.Prelude.{ℕ, ◌+◌, Bool, List, map, filter, reverse, find, Option, is_none, is_some, option_map, bytes_eq, if◌then◌else◌}
use Rattle.ti_ids.specs.declared.number.ThreadNo.{ThreadNo}
use Rattle.ti_ids.specs.declared.state.ThreadState.{ThreadState}
use Rattle.ti_ids.specs.declared.state.ThreadState.TheVariants.{Ended}
use Rattle.jv_names.specs.Names.{Name}
use Rattle.monitor_table.specs.Monitors.{has_wait}
use Rattle.ti_ids.specs.declared.state.InitState.{InitState}
use Rattle.ti_ids.specs.declared.state.InitState.TheVariants as states
use Rattle.ti_ids.specs.declared.state.Activity.{Activity}
use Rattle.ti_ids.specs.declared.state.Activity.TheVariants.{Free, Throwing, Waiting, Joining, Wanting}
use Rattle.machine_state.specs.Core.{Core, CoreClass, Thread, failure_of, monitor_at}
use Rattle.machine_state.specs.Trace.{Trace}
use Rattle.machine_state.specs.Linked.{array_type}
use Rattle.machine_state.specs.Places.{is_suspended}

-- ---- classes

-- Array classes are no loaded classes.
abbrev pub loaded_classes : Core → List CoreClass
loaded_classes core = filter (λ c. is_none (array_type c.name)) core.classes

-- those of the base set first and then in the order of loading
abbrev pub loaded_names : Core → List Name
loaded_names core = reverse (map (λ c. c.name) (loaded_classes core))

-- loaded 0, linked 3, initialized 7; 8 for a class whose type check or initialization failed
abbrev pub status_of : Bool → InitState → ℕ
status_of has_failed states.Loaded = if has_failed then 8 else 0
status_of has_failed states.Linked = 3
status_of has_failed (states.InProgress t) = 3
status_of has_failed states.Initialized = 7
status_of has_failed states.Erroneous = 8

abbrev pub class_status : Core → Name → Option ℕ
class_status core name = option_map (λ c. status_of (is_some (failure_of core name)) c.state) (find (λ c. bytes_eq c.name name) (loaded_classes core))

-- ---- threads

-- alive and runnable
abbrev pub runnable : ℕ
runnable = 5

-- alive, and blocked on entering a monitor
abbrev pub blocked : ℕ
blocked = 1025

-- alive, and waiting without a limit of time
abbrev pub waiting : ℕ
waiting = 401

-- a thread that was notified is blocked until it has the monitor again
abbrev pub state_by : Core → ThreadNo → Activity → ℕ
state_by core t Free = runnable
state_by core t (Throwing o) = runnable
state_by core t (Waiting object) = if has_wait t (monitor_at core object).notified then blocked else waiting
state_by core t (Joining other) = waiting
state_by core t (Wanting object) = blocked

abbrev pub with_suspension : Bool → ℕ → ℕ
with_suspension is state = if is then state + 1048576 else state

-- an ended thread has 2
abbrev pub state_in : Core → Trace → ThreadNo → Thread → ThreadState → ℕ
state_in core trace t thread Ended = 2
state_in core trace t thread _ = with_suspension (is_suspended trace t) (state_by core t thread.activity)

abbrev pub thread_state : Core → Trace → ThreadNo → Thread → ℕ
thread_state core trace t thread = state_in core trace t thread thread.state
