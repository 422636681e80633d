-- The events (JVM TI, "Event Index", `jvmtiEvent`): the number and the name of each, and the capability that it needs.
use Rattle.std.specs.Prelude.{ℕ, Bool, ◌==◌, List, [], ◌∷◌, Option, Some, None, find, bytes_eq, codes}
use Rattle.ti_codes.specs.declared.capability.Capability.{Capability}
use Rattle.ti_codes.specs.declared.capability.Capability.TheVariants as capabilities
use Rattle.ti_codes.specs.declared.event.EventKind.{EventKind}
use Rattle.ti_codes.specs.declared.event.EventKind.TheVariants as kinds

pub record EventRow : Type 0 where
  pub number : ℕ
  pub name : List ℕ
  -- the capability without which an environment can't be told of it
  pub needs : Option Capability

abbrev pub event_row : EventKind → EventRow
event_row kinds.VMInit = record { number = 50; name = codes "VMInit"; needs = None }
event_row kinds.VMDeath = record { number = 51; name = codes "VMDeath"; needs = None }
event_row kinds.ThreadStart = record { number = 52; name = codes "ThreadStart"; needs = None }
event_row kinds.ThreadEnd = record { number = 53; name = codes "ThreadEnd"; needs = None }
event_row kinds.ClassFileLoadHook = record { number = 54; name = codes "ClassFileLoadHook"; needs = None }
event_row kinds.ClassLoad = record { number = 55; name = codes "ClassLoad"; needs = None }
event_row kinds.ClassPrepare = record { number = 56; name = codes "ClassPrepare"; needs = None }
event_row kinds.VMStart = record { number = 57; name = codes "VMStart"; needs = None }
event_row kinds.Exception = record { number = 58; name = codes "Exception"; needs = Some capabilities.Exception }
event_row kinds.ExceptionCatch = record { number = 59; name = codes "ExceptionCatch"; needs = Some capabilities.Exception }
event_row kinds.SingleStep = record { number = 60; name = codes "SingleStep"; needs = Some capabilities.SingleStep }
event_row kinds.FramePop = record { number = 61; name = codes "FramePop"; needs = Some capabilities.FramePop }
event_row kinds.Breakpoint = record { number = 62; name = codes "Breakpoint"; needs = Some capabilities.Breakpoint }
event_row kinds.FieldAccess = record { number = 63; name = codes "FieldAccess"; needs = Some capabilities.FieldAccess }
event_row kinds.FieldModification = record { number = 64; name = codes "FieldModification"; needs = Some capabilities.FieldModification }
event_row kinds.MethodEntry = record { number = 65; name = codes "MethodEntry"; needs = Some capabilities.MethodEntry }
event_row kinds.MethodExit = record { number = 66; name = codes "MethodExit"; needs = Some capabilities.MethodExit }
event_row kinds.MonitorWait = record { number = 73; name = codes "MonitorWait"; needs = Some capabilities.Monitor }
event_row kinds.MonitorWaited = record { number = 74; name = codes "MonitorWaited"; needs = Some capabilities.Monitor }
event_row kinds.MonitorContendedEnter = record { number = 75; name = codes "MonitorContendedEnter"; needs = Some capabilities.Monitor }
event_row kinds.MonitorContendedEntered = record { number = 76; name = codes "MonitorContendedEntered"; needs = Some capabilities.Monitor }
event_row kinds.VMObjectAlloc = record { number = 84; name = codes "VMObjectAlloc"; needs = Some capabilities.ObjectAlloc }

-- in the order of their numbers
abbrev pub all_events : List EventKind
all_events =
    kinds.VMInit ∷ kinds.VMDeath ∷ kinds.ThreadStart ∷ kinds.ThreadEnd ∷ kinds.ClassFileLoadHook ∷ kinds.ClassLoad ∷ kinds.ClassPrepare
    ∷ kinds.VMStart ∷ kinds.Exception ∷ kinds.ExceptionCatch ∷ kinds.SingleStep ∷ kinds.FramePop ∷ kinds.Breakpoint ∷ kinds.FieldAccess
    ∷ kinds.FieldModification ∷ kinds.MethodEntry ∷ kinds.MethodExit ∷ kinds.MonitorWait ∷ kinds.MonitorWaited
    ∷ kinds.MonitorContendedEnter ∷ kinds.MonitorContendedEntered ∷ kinds.VMObjectAlloc ∷ []

-- ---- what follows from the rows

abbrev pub event_number : EventKind → ℕ
event_number kind = (event_row kind).number

abbrev pub event_name : EventKind → List ℕ
event_name kind = (event_row kind).name

abbrev pub event_needs : EventKind → Option Capability
event_needs kind = (event_row kind).needs

abbrev pub is_same_event : EventKind → EventKind → Bool
is_same_event a b = event_number a == event_number b

abbrev pub event_of_number : ℕ → Option EventKind
event_of_number number = find (λ kind. number == event_number kind) all_events

abbrev pub event_of_name : List ℕ → Option EventKind
event_of_name name = find (λ kind. bytes_eq name (event_name kind)) all_events
