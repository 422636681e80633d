-- What each event tells (JVM TI, "Event Index"): its kind, and its parts in the order of its line. Its thread, its place, its class and
-- its object follow from them.
use Rattle.std.specs.Prelude.{pos, List, [], ◌∷◌, ◌++◌, Option, Some, None, option_map, codes, decimal}
use Rattle.std.specs.Option.{option_or}
use Rattle.ti_ids.specs.declared.number.ThreadNo.{ThreadNo}
use Rattle.ti_ids.specs.declared.number.ObjNo.{ObjNo}
use Rattle.ti_codes.specs.declared.event.EventKind.{EventKind}
use Rattle.ti_codes.specs.declared.event.EventKind.TheVariants as kinds
use Rattle.jv_names.specs.Names.{Name}
use Rattle.class_tree.specs.Tree.{first_of}
use Rattle.machine_state.specs.Trace.{MethodName, Place, FieldName, Leaving, Returned, Threw, Item, Number, Text}
use Rattle.machine_state.specs.Trace.{Event, VMStart, VMInit, VMDeath, ThreadStart, ThreadEnd, ClassLoad, ClassPrepare, Exception, ExceptionCatch}
use Rattle.machine_state.specs.Trace.{SingleStep, Breakpoint, MethodEntry, MethodExit, FramePop, FieldAccess, FieldModification}
use Rattle.machine_state.specs.Trace.{MonitorWait, MonitorWaited, MonitorContendedEnter, MonitorContendedEntered, VMObjectAlloc}

-- one thing that an event tells
pub data Part : Type 0 where
  OfThread : ThreadNo → Part
  AtPlace : Place → Part
  OfMethod : MethodName → Part
  OfClass : Name → Part
  OfObject : ObjNo → Part
  OfField : FieldName → Part
  Left : Leaving → Part

pub record Told : Type 0 where
  pub kind : EventKind
  pub parts : List Part

-- ---- a row an event

abbrev pub told_by : Event → Told
told_by VMStart = record { kind = kinds.VMStart; parts = [] }
told_by (VMInit t) = record { kind = kinds.VMInit; parts = OfThread t ∷ [] }
told_by VMDeath = record { kind = kinds.VMDeath; parts = [] }
told_by (ThreadStart t) = record { kind = kinds.ThreadStart; parts = OfThread t ∷ [] }
told_by (ThreadEnd t) = record { kind = kinds.ThreadEnd; parts = OfThread t ∷ [] }
told_by (ClassLoad t class) = record { kind = kinds.ClassLoad; parts = OfThread t ∷ OfClass class ∷ [] }
told_by (ClassPrepare t class) = record { kind = kinds.ClassPrepare; parts = OfThread t ∷ OfClass class ∷ [] }
told_by (Exception t place class) = record { kind = kinds.Exception; parts = OfThread t ∷ AtPlace place ∷ OfClass class ∷ [] }
told_by (ExceptionCatch t place class) = record { kind = kinds.ExceptionCatch; parts = OfThread t ∷ AtPlace place ∷ OfClass class ∷ [] }
told_by (SingleStep t place) = record { kind = kinds.SingleStep; parts = OfThread t ∷ AtPlace place ∷ [] }
told_by (Breakpoint t place) = record { kind = kinds.Breakpoint; parts = OfThread t ∷ AtPlace place ∷ [] }
told_by (MethodEntry t method) = record { kind = kinds.MethodEntry; parts = OfThread t ∷ OfMethod method ∷ [] }
told_by (MethodExit t method leaving) = record { kind = kinds.MethodExit; parts = OfThread t ∷ OfMethod method ∷ Left leaving ∷ [] }
told_by (FramePop t method leaving birth) = record { kind = kinds.FramePop; parts = OfThread t ∷ OfMethod method ∷ Left leaving ∷ [] }
told_by (FieldAccess t place field) = record { kind = kinds.FieldAccess; parts = OfThread t ∷ AtPlace place ∷ OfField field ∷ [] }
told_by (FieldModification t place field) = record { kind = kinds.FieldModification; parts = OfThread t ∷ AtPlace place ∷ OfField field ∷ [] }
told_by (MonitorWait t object) = record { kind = kinds.MonitorWait; parts = OfThread t ∷ OfObject object ∷ [] }
told_by (MonitorWaited t object) = record { kind = kinds.MonitorWaited; parts = OfThread t ∷ OfObject object ∷ [] }
told_by (MonitorContendedEnter t object) = record { kind = kinds.MonitorContendedEnter; parts = OfThread t ∷ OfObject object ∷ [] }
told_by (MonitorContendedEntered t object) = record { kind = kinds.MonitorContendedEntered; parts = OfThread t ∷ OfObject object ∷ [] }
told_by (VMObjectAlloc t object class) = record { kind = kinds.VMObjectAlloc; parts = OfThread t ∷ OfObject object ∷ OfClass class ∷ [] }

-- A hook's turn is an event too, and its line is that of the turn. It tells its class, and the thread that acts, if one does.
abbrev pub acting_part : Option ThreadNo → List Part
acting_part None = []
acting_part (Some t) = OfThread t ∷ []

abbrev pub told_by_hook : Option ThreadNo → Name → Told
told_by_hook acting class = record { kind = kinds.ClassFileLoadHook; parts = acting_part acting ++ OfClass class ∷ [] }

-- ---- what follows from the rows

abbrev pub as_thread : Part → Option ThreadNo
as_thread (OfThread t) = Some t
as_thread _ = None

abbrev pub as_place : Part → Option Place
as_place (AtPlace place) = Some place
as_place _ = None

abbrev pub as_method : Part → Option MethodName
as_method (OfMethod method) = Some method
as_method _ = None

abbrev pub as_class : Part → Option Name
as_class (OfClass class) = Some class
as_class _ = None

abbrev pub as_object : Part → Option ObjNo
as_object (OfObject object) = Some object
as_object _ = None

abbrev pub thread_of : Told → Option ThreadNo
thread_of told = first_of as_thread told.parts

abbrev pub place_of : Told → Option Place
place_of told = first_of as_place told.parts

-- that of its place, else its own
abbrev pub method_of : Told → Option MethodName
method_of told = option_or (option_map (λ place. place.method) (place_of told)) (first_of as_method told.parts)

-- that of its method, else the class that it names
abbrev pub class_of : Told → Option Name
class_of told = option_or (option_map (λ method. method.class) (method_of told)) (first_of as_class told.parts)

abbrev pub object_of : Told → Option ObjNo
object_of told = first_of as_object told.parts

-- ---- its parts as items

abbrev pub method_units : MethodName → Name
method_units m = m.class ++ codes "." ++ m.name ++ m.desc

abbrev pub place_units : Place → Name
place_units p = method_units p.method ++ codes "@" ++ decimal p.pc

abbrev pub field_units : FieldName → Name
field_units f = f.class ++ codes "." ++ f.name

abbrev pub leaving_units : Leaving → Name
leaving_units Returned = codes "returned"
leaving_units Threw = codes "threw"

abbrev pub item_of : Part → Item
item_of (OfThread t) = Number (pos t.0)
item_of (AtPlace place) = Text (place_units place)
item_of (OfMethod method) = Text (method_units method)
item_of (OfClass class) = Text class
item_of (OfObject object) = Number (pos object.0)
item_of (OfField field) = Text (field_units field)
item_of (Left leaving) = Text (leaving_units leaving)
