-- What has happened, as records in the order in which it happened. The machine that runs keeps no trace: what it keeps is measured by it.
use Rattle.std.specs.Prelude.{ℕ, ℤ, List, Option, Bool}
use Rattle.ti_ids.specs.declared.number.ThreadNo.{ThreadNo}
use Rattle.ti_ids.specs.declared.number.ObjNo.{ObjNo}
use Rattle.ti_ids.specs.declared.number.EnvNo.{EnvNo}
use Rattle.ti_ids.specs.declared.actor.Actor.{Actor}
use Rattle.ti_codes.specs.declared.call.CallKind.{CallKind}
use Rattle.ti_codes.specs.declared.capability.Capability.{Capability}
use Rattle.ti_codes.specs.declared.error.ErrorCode.{ErrorCode}
use Rattle.ti_codes.specs.declared.event.EventKind.{EventKind}
use Rattle.jv_names.specs.Names.{Name}

-- ---- what records name

-- a method: its class, its name and its descriptor
pub record MethodName : Type 0 where
  pub class : Name
  pub name : Name
  pub desc : Name

-- an offset in a method's code (JVM TI, `jlocation`)
pub record Place : Type 0 where
  pub method : MethodName
  pub pc : ℕ

pub record FieldName : Type 0 where
  pub class : Name
  pub name : Name
  pub desc : Name

-- how a frame was left
pub data Leaving : Type 0 where
  Returned : Leaving
  Threw : Leaving

-- ---- events: JVM TI, "Event Index"

pub data Event : Type 0 where
  VMStart : Event
  -- with thread 1
  VMInit : ThreadNo → Event
  VMDeath : Event
  ThreadStart : ThreadNo → Event
  ThreadEnd : ThreadNo → Event
  ClassLoad : ThreadNo → Name → Event
  ClassPrepare : ThreadNo → Name → Event
  -- with the exception and its class
  Exception : ThreadNo → Place → Name → Event
  ExceptionCatch : ThreadNo → Place → Name → Event
  SingleStep : ThreadNo → Place → Event
  Breakpoint : ThreadNo → Place → Event
  MethodEntry : ThreadNo → MethodName → Event
  MethodExit : ThreadNo → MethodName → Leaving → Event
  -- of the frame with this birth
  FramePop : ThreadNo → MethodName → Leaving → ℕ → Event
  FieldAccess : ThreadNo → Place → FieldName → Event
  FieldModification : ThreadNo → Place → FieldName → Event
  -- with the monitor's object
  MonitorWait : ThreadNo → ObjNo → Event
  MonitorWaited : ThreadNo → ObjNo → Event
  MonitorContendedEnter : ThreadNo → ObjNo → Event
  MonitorContendedEntered : ThreadNo → ObjNo → Event
  -- with the object and its class
  VMObjectAlloc : ThreadNo → ObjNo → Name → Event

-- ---- replies

-- One item of a call's reply. Texts are held in their UTF-16 units, and are escaped only where they are printed.
pub data Item : Type 0 where
  Number : ℤ → Item
  Text : Name → Item
  Bytes : List ℕ → Item
  -- lists, which are told with their lengths
  Numbers : List ℤ → Item
  Texts : List Name → Item

abbrev pub Reply : Type 0
Reply = List Item

-- ---- records

pub data Record : Type 0 where
  -- the base classes and the first objects were made; thread 1 was made; VMDeath was raised
  Started : Record
  Inited : Record
  Died : Record
  -- a class with the bytes of its file, before any transformer
  Loaded : Name → List ℕ → Record
  -- a class, and the class of the error
  LoadFailed : Name → Name → Record
  -- a class with the bytes that were given for it, before any transformer
  Redefined : Name → List ℕ → Record
  Retransformed : Name → Record
  -- an environment set an event, for one thread or for all, on or off
  ModeSet : EnvNo → EventKind → Option ThreadNo → Bool → Record
  -- the capabilities that an environment has now
  CapsChanged : EnvNo → List Capability → Record
  -- the set of rules in force
  RulesChosen : EnvNo → Name → Record
  -- a set, and whether it is capable of retransformation
  TransformerAdded : EnvNo → Name → Bool → Record
  TransformerRemoved : EnvNo → Name → Record
  Disposed : EnvNo → Record
  BreakSet : Place → Record
  BreakCleared : Place → Record
  -- a field is watched for FieldAccess or FieldModification, or no more
  WatchSet : FieldName → EventKind → Bool → Record
  Tagged : EnvNo → ObjNo → ℤ → Record
  -- a thread, the depth of its frame, and that frame's birth
  PopAsked : EnvNo → ThreadNo → ℕ → ℕ → Record
  SuspendSet : ThreadNo → Bool → Record
  -- A transformer's turn at a class: the set of rules in force, which turn it was of how many, and whether it changed the bytes.
  Turned : EnvNo → Name → Option Name → ℕ → ℕ → Bool → Record
  Raised : Event → Record
  Replied : EnvNo → CallKind → ErrorCode → Reply → Record

-- a record, with the number of steps before its own, and that step's actor
pub record Entry : Type 0 where
  pub step : ℕ
  pub actor : Actor
  pub what : Record

abbrev pub Trace : Type 0
Trace = List Entry
