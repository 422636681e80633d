-- What has happened, as records, and what follows from them. The code keeps no trace: it is the measure of what it keeps.
use Rattle.std.specs.Prelude.{ℕ, ℤ, List, [], ◌∷◌, take, Option, Some, None, Bool, bytes_eq, if◌then◌else◌}
use Rattle.ti_ids.specs.declared.actor.Actor.{Actor}
use Rattle.ti_codes.specs.declared.call.CallKind.{CallKind}
use Rattle.ti_codes.specs.declared.capability.Capability.{Capability}
use Rattle.ti_codes.specs.declared.error.ErrorCode.{ErrorCode}
use Rattle.ti_codes.specs.declared.event.EventKind.{EventKind}
use Rattle.ti_ids.specs.Maybe.{◌>>=◌}
use Rattle.jv_names.specs.Names.{Name}
use Rattle.first_form.specs.declared.Instr.{Instr}
use Rattle.first_form.specs.Instructions.{listing}
use Rattle.first_form.specs.ClassFiles.{Reference, ClassFile, tree_of}
use Rattle.first_form.specs.Methods.{code_named}
use Rattle.first_form.specs.Reading.{class_of}
use Rattle.machine_model.specs.Core.{JavaFrame}

-- a method, and an offset in its code
pub record Place : Type 0 where
  pub method : Reference
  pub pc : ℕ

-- how a frame was left
pub data Leaving : Type 0 where
  Returned : Leaving
  Threw : Leaving

-- JVM TI, "Event Index": the first number is the thread's
pub data Event : Type 0 where
  VMStart : Event
  VMInit : ℕ → Event
  VMDeath : Event
  ThreadStart : ℕ → Event
  ThreadEnd : ℕ → Event
  ClassLoad : ℕ → Name → Event
  ClassPrepare : ℕ → Name → Event
  -- with the exception's class
  Exception : ℕ → Place → Name → Event
  ExceptionCatch : ℕ → Place → Name → Event
  SingleStep : ℕ → Place → Event
  Breakpoint : ℕ → Place → Event
  MethodEntry : ℕ → Reference → Event
  MethodExit : ℕ → Reference → Leaving → Event
  -- of the frame of that birth
  FramePop : ℕ → Reference → Leaving → ℕ → Event
  FieldAccess : ℕ → Place → Reference → Event
  FieldModification : ℕ → Place → Reference → Event
  -- with the object's number
  MonitorWait : ℕ → ℕ → Event
  MonitorWaited : ℕ → ℕ → Event
  MonitorContendedEnter : ℕ → ℕ → Event
  MonitorContendedEntered : ℕ → ℕ → Event
  -- with its class
  VMObjectAlloc : ℕ → ℕ → Name → Event

-- a value of a call's reply
pub data Reply : Type 0 where
  Number : ℤ → Reply
  Bytes : List ℕ → Reply
  Texts : List (List ℕ) → Reply

pub data Record : Type 0 where
  Started : Record
  Inited : Record
  Died : Record
  -- a class, with the bytes before any transformer
  Loaded : Name → List ℕ → Record
  LoadFailed : Name → Name → Record
  Redefined : Name → List ℕ → Record
  Retransformed : Name → Record
  -- an environment's setting of an event, for one thread or for all
  ModeSet : ℕ → EventKind → Option ℕ → Bool → Record
  CapsChanged : ℕ → List Capability → Record
  RulesChosen : ℕ → Name → Record
  TransformerAdded : ℕ → Name → Bool → Record
  TransformerRemoved : ℕ → Name → Record
  Disposed : ℕ → Record
  BreakSet : Place → Record
  BreakCleared : Place → Record
  WatchSet : Reference → EventKind → Bool → Record
  -- an environment's tag of an object
  Tagged : ℕ → ℕ → ℤ → Record
  -- by an environment: a thread, the depth and the birth of its frame
  PopAsked : ℕ → ℕ → ℕ → ℕ → Record
  SuspendSet : ℕ → Bool → Record
  -- of an environment: a class, the set of rules in force, which turn of how many it was, and whether it changed the bytes
  Turned : ℕ → Name → Option Name → ℕ → ℕ → Bool → Record
  Raised : Event → Record
  Replied : ℕ → CallKind → ErrorCode → List Reply → Record

pub record Entry : Type 0 where
  pub step : ℕ
  pub actor : Actor
  pub what : Record

-- ---- the versions of a class. No transformer is there yet, so that each leaves the bytes as they are.

-- what a record does to a class: it gives it bytes, or makes a version of those that it has
pub data Made : Type 0 where
  Nothing : Made
  Given : List ℕ → Made
  Again : Made

abbrev pub made_by : Name → Record → Made
made_by class (Loaded name bytes) = if bytes_eq name class then Given bytes else Nothing
made_by class (Redefined name bytes) = if bytes_eq name class then Given bytes else Nothing
made_by class (Retransformed name) = if bytes_eq name class then Again else Nothing
made_by class Started = Nothing
made_by class Inited = Nothing
made_by class Died = Nothing
made_by class (LoadFailed name error) = Nothing
made_by class (ModeSet e kind scope on) = Nothing
made_by class (CapsChanged e caps) = Nothing
made_by class (RulesChosen e set) = Nothing
made_by class (TransformerAdded e set capable) = Nothing
made_by class (TransformerRemoved e set) = Nothing
made_by class (Disposed e) = Nothing
made_by class (BreakSet place) = Nothing
made_by class (BreakCleared place) = Nothing
made_by class (WatchSet field kind on) = Nothing
made_by class (Tagged e object tag) = Nothing
made_by class (PopAsked e thread depth birth) = Nothing
made_by class (SuspendSet thread on) = Nothing
made_by class (Turned e name set k n changed) = Nothing
made_by class (Raised event) = Nothing
made_by class (Replied e call code values) = Nothing

-- the versions that entries make, after those bytes were kept
abbrev pub versions_after : Name → List ℕ → List Entry → List (List ℕ)
versions_after class kept [] = []
versions_after class kept (e ∷ trace) = elim (made_by class e.what) [
  | Nothing ↦ versions_after class kept trace
  | Given bytes ↦ bytes ∷ versions_after class bytes trace
  | Again ↦ kept ∷ versions_after class kept trace
]

-- the bytes of a class's versions, the first one first
abbrev pub versions : List Entry → Name → List (List ℕ)
versions trace class = versions_after class [] trace

abbrev pub last_of : {A : Type 0} → List A → Option A
last_of [] = None
last_of (x ∷ []) = Some x
last_of (x ∷ (y ∷ ys)) = last_of (y ∷ ys)

-- the version of a class that was newest when the trace had a length
abbrev pub version_at : List Entry → Name → ℕ → Option (List ℕ)
version_at trace class length = last_of (versions (take length trace) class)

-- the tree of the version that was newest at a frame's birth
abbrev pub tree_at : List Entry → JavaFrame → Option ClassFile
tree_at trace frame = do
  bytes ← version_at trace frame.class frame.birth
  c ← class_of bytes
  Some (tree_of c)

-- the instructions of a frame's method in a tree
abbrev pub code_in : JavaFrame → ClassFile → Option (List (ℕ × Instr))
code_in frame tree = code_named tree frame.method frame.descriptor >>= listing

-- those in the version that was newest at the frame's birth
abbrev pub code : List Entry → JavaFrame → Option (List (ℕ × Instr))
code trace frame = tree_at trace frame >>= code_in frame

-- ---- the log of an environment

-- what an environment was told. No job has an agent yet, so that it is empty
abbrev pub log : List Entry → ℕ → List (List ℕ)
log trace environment = []
