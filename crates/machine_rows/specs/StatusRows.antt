-- What tool calls see of a class and of a thread at each of their states (JVM TI, "GetClassStatus" and "GetThreadState"), computed.
use Rattle.std.specs.Prelude.{◌≡◌, ℕ, true, false, [], ◌∷◌, ◌++◌, fold, Option, Some, None, codes}
use Rattle.ti_ids.specs.declared.number.ThreadNo.{ThreadNo}
use Rattle.ti_ids.specs.declared.number.ObjNo.{ObjNo}
use Rattle.ti_ids.specs.declared.actor.Actor.TheVariants.{Vm}
use Rattle.ti_ids.specs.declared.state.ThreadState.{ThreadState}
use Rattle.ti_ids.specs.declared.state.ThreadState.TheVariants.{Unbegun, Entering, Running, Ended}
use Rattle.ti_codes.specs.declared.phase.Phase.TheVariants as phases
use Rattle.ti_ids.specs.declared.state.InitState.{InitState}
use Rattle.ti_ids.specs.declared.state.InitState.TheVariants as states
use Rattle.ti_ids.specs.declared.state.Activity.{Activity}
use Rattle.ti_ids.specs.declared.state.Activity.TheVariants.{Free, Throwing, Waiting, Joining, Wanting}
use Rattle.machine_state.specs.Core.{Core}
use Rattle.machine_state.specs.Trace.{Trace, SuspendSet}
use Rattle.machine_state.specs.Acts.{Enters, GoesToWait, Notifies, changed}
use Rattle.machine_state.specs.Statuses.{class_status, thread_state}

-- nothing is there
abbrev pub empty : Core
empty = record {
  phase = phases.Live;
  death_raised = false;
  classes = [];
  failures = [];
  statics = [];
  heap = record { limit = 64; objects = [] };
  monitors = [];
  threads = [];
  output = [];
  queues = [];
  scripts = [];
}

-- ---- a class

abbrev pub with_class : InitState → Core
with_class state = record empty { classes = record { name = codes "C"; state = state; entered = false } ∷ [] }

-- its type check failed
abbrev pub refused : Core
refused = record (with_class states.Loaded) { failures = record { class = codes "C"; error = codes "java/lang/VerifyError" } ∷ [] }

abbrev pub status : Core → Option ℕ
status core = class_status core (codes "C")

pub record ClassStatuses : Type 0 where
  pub absent : status empty ≡ None
  pub loaded : status (with_class states.Loaded) ≡ Some 0
  pub linked : status (with_class states.Linked) ≡ Some 3
  pub begun : status (with_class (states.InProgress (record { 0 = 1 }))) ≡ Some 3
  pub initialized : status (with_class states.Initialized) ≡ Some 7
  pub erroneous : status (with_class states.Erroneous) ≡ Some 8
  pub unchecked : status refused ≡ Some 8

-- ---- a thread

abbrev pub first : ThreadNo
first = record { 0 = 1 }

abbrev pub lock : ObjNo
lock = record { 0 = 4 }

-- the thread waited, and was notified
abbrev pub when_notified : Core
when_notified = fold (λ core change. changed 0 change core) empty (Enters lock first ∷ GoesToWait lock first ∷ Notifies lock ∷ [])

abbrev pub when_suspended : Trace
when_suspended = record { step = 0; actor = Vm; what = SuspendSet first true } ∷ []

abbrev pub when_resumed : Trace
when_resumed = when_suspended ++ record { step = 1; actor = Vm; what = SuspendSet first false } ∷ []

abbrev pub bits : Core → Trace → ThreadState → Activity → ℕ
bits core trace state activity = thread_state core trace first (record { object = record { 0 = 3 }; state = state; activity = activity; frames = [] })

pub record ThreadStates : Type 0 where
  pub unbegun : bits empty [] Unbegun Free ≡ 5
  pub entering : bits empty [] Entering Free ≡ 5
  pub running : bits empty [] Running Free ≡ 5
  pub throwing : bits empty [] Running (Throwing lock) ≡ 5
  pub wanting : bits empty [] Running (Wanting lock) ≡ 1025
  pub waiting : bits empty [] Running (Waiting lock) ≡ 401
  pub notified : bits when_notified [] Running (Waiting lock) ≡ 1025
  pub joining : bits empty [] Running (Joining (record { 0 = 2 })) ≡ 401
  pub ended : bits empty [] Ended Free ≡ 2
  pub suspended : bits empty when_suspended Running Free ≡ 1048581
  pub wanting_suspended : bits empty when_suspended Running (Wanting lock) ≡ 1049601
  pub waiting_suspended : bits empty when_suspended Running (Waiting lock) ≡ 1048977
  pub resumed : bits empty when_resumed Running Free ≡ 5
