-- The tool calls (JVM TI, "Functions"; `UseRules`, `AddTransformer` and `RemoveTransformer` are this project's own, the last two after
-- `java.lang.instrument`): the name of each, the phases in which it may be made, the capability that it needs, and its arguments.
use Rattle.std.specs.Prelude.{ℕ, Bool, List, [], ◌∷◌, Option, Some, None, find, bytes_eq, codes}
use Rattle.std.specs.List.{list_any}
use Rattle.std.specs.Option.{option_and_then}
use Rattle.ti_codes.specs.declared.phase.Phase.{Phase}
use Rattle.ti_codes.specs.declared.phase.Phase.TheVariants as phases
use Rattle.ti_codes.specs.declared.capability.Capability.{Capability}
use Rattle.ti_codes.specs.declared.capability.Capability.TheVariants as capabilities
use Rattle.ti_codes.specs.declared.call.CallKind.{CallKind}
use Rattle.ti_codes.specs.declared.call.CallKind.TheVariants as calls
use Rattle.ti_codes.specs.declared.event.EventKind.{EventKind}
use Rattle.ti_codes.specs.Phases.{is_same_phase}
use Rattle.ti_codes.specs.Events.{event_needs}
use Rattle.ti_codes.specs.Arguments.{Argument, optional, class, method, desc, field, at, thread, depth, object, tag, tags, filter, write, event, on}
use Rattle.ti_codes.specs.Arguments.{caps, classes, donors, set, capable}

-- what an environment must hold for a call: nothing, a capability, or the one that the call's event needs
pub data Needs : Type 0 where
  Nothing : Needs
  Holding : Capability → Needs
  OfItsEvent : Needs

pub record CallRow : Type 0 where
  -- as agent files and log lines write it
  pub name : List ℕ
  -- the phases in which it may be made
  pub phases : List Phase
  pub needs : Needs
  -- in the order in which they are checked
  pub arguments : List Argument

-- ---- phases of calls

abbrev pub live : List Phase
live = phases.Live ∷ []

abbrev pub started : List Phase
started = phases.Start ∷ phases.Live ∷ []

abbrev pub at_load_or_live : List Phase
at_load_or_live = phases.OnLoad ∷ phases.Live ∷ []

abbrev pub always : List Phase
always = phases.OnLoad ∷ phases.Start ∷ phases.Live ∷ []

-- ---- arguments of several calls

abbrev pub field_of_class : List Argument
field_of_class = class ∷ field ∷ []

abbrev pub method_of_class : List Argument
method_of_class = class ∷ method ∷ desc ∷ []

-- a place in the code of a method
abbrev pub place : List Argument
place = class ∷ method ∷ desc ∷ at ∷ []

abbrev pub heap_walk : List Argument
heap_walk = filter ∷ optional class ∷ optional write ∷ []

-- ---- a row a call

abbrev pub call_row : CallKind → CallRow
call_row calls.AddCapabilities = record { name = codes "AddCapabilities"; phases = at_load_or_live; needs = Nothing; arguments = caps ∷ [] }
call_row calls.RelinquishCapabilities =
    record { name = codes "RelinquishCapabilities"; phases = at_load_or_live; needs = Nothing; arguments = caps ∷ [] }
call_row calls.SetEventNotificationMode =
    record { name = codes "SetEventNotificationMode"; phases = at_load_or_live; needs = OfItsEvent; arguments = on ∷ event ∷ optional thread ∷ [] }
call_row calls.SetBreakpoint = record { name = codes "SetBreakpoint"; phases = live; needs = Holding capabilities.Breakpoint; arguments = place }
call_row calls.ClearBreakpoint = record { name = codes "ClearBreakpoint"; phases = live; needs = Holding capabilities.Breakpoint; arguments = place }
call_row calls.SetFieldAccessWatch =
    record { name = codes "SetFieldAccessWatch"; phases = live; needs = Holding capabilities.FieldAccess; arguments = field_of_class }
call_row calls.ClearFieldAccessWatch =
    record { name = codes "ClearFieldAccessWatch"; phases = live; needs = Holding capabilities.FieldAccess; arguments = field_of_class }
call_row calls.SetFieldModificationWatch =
    record { name = codes "SetFieldModificationWatch"; phases = live; needs = Holding capabilities.FieldModification; arguments = field_of_class }
call_row calls.ClearFieldModificationWatch =
    record { name = codes "ClearFieldModificationWatch"; phases = live; needs = Holding capabilities.FieldModification; arguments = field_of_class }
call_row calls.SetTag = record { name = codes "SetTag"; phases = started; needs = Holding capabilities.Tag; arguments = object ∷ tag ∷ [] }
call_row calls.GetTag = record { name = codes "GetTag"; phases = started; needs = Holding capabilities.Tag; arguments = object ∷ [] }
call_row calls.GetObjectsWithTags =
    record { name = codes "GetObjectsWithTags"; phases = live; needs = Holding capabilities.Tag; arguments = tags ∷ [] }
call_row calls.IterateThroughHeap =
    record { name = codes "IterateThroughHeap"; phases = live; needs = Holding capabilities.Tag; arguments = heap_walk }
call_row calls.SuspendThread = record { name = codes "SuspendThread"; phases = live; needs = Holding capabilities.Suspend; arguments = thread ∷ [] }
call_row calls.ResumeThread = record { name = codes "ResumeThread"; phases = live; needs = Holding capabilities.Suspend; arguments = thread ∷ [] }
call_row calls.GetThreadState = record { name = codes "GetThreadState"; phases = live; needs = Nothing; arguments = thread ∷ [] }
call_row calls.GetAllThreads = record { name = codes "GetAllThreads"; phases = live; needs = Nothing; arguments = [] }
call_row calls.GetFrameCount = record { name = codes "GetFrameCount"; phases = live; needs = Nothing; arguments = thread ∷ [] }
call_row calls.GetStackTrace = record { name = codes "GetStackTrace"; phases = live; needs = Nothing; arguments = thread ∷ [] }
call_row calls.NotifyFramePop =
    record { name = codes "NotifyFramePop"; phases = live; needs = Holding capabilities.FramePop; arguments = thread ∷ depth ∷ [] }
call_row calls.GetLoadedClasses = record { name = codes "GetLoadedClasses"; phases = live; needs = Nothing; arguments = [] }
call_row calls.GetClassStatus = record { name = codes "GetClassStatus"; phases = started; needs = Nothing; arguments = class ∷ [] }
call_row calls.GetBytecodes =
    record { name = codes "GetBytecodes"; phases = started; needs = Holding capabilities.Bytecodes; arguments = method_of_class }
call_row calls.RedefineClasses =
    record { name = codes "RedefineClasses"; phases = live; needs = Holding capabilities.Redefine; arguments = classes ∷ donors ∷ [] }
call_row calls.RetransformClasses =
    record { name = codes "RetransformClasses"; phases = live; needs = Holding capabilities.Retransform; arguments = classes ∷ [] }
call_row calls.UseRules = record { name = codes "UseRules"; phases = always; needs = Nothing; arguments = set ∷ [] }
call_row calls.AddTransformer = record { name = codes "AddTransformer"; phases = always; needs = Nothing; arguments = set ∷ optional capable ∷ [] }
call_row calls.RemoveTransformer =
    record { name = codes "RemoveTransformer"; phases = always; needs = Nothing; arguments = set ∷ optional capable ∷ [] }
call_row calls.GetPhase = record { name = codes "GetPhase"; phases = always; needs = Nothing; arguments = [] }
call_row calls.DisposeEnvironment = record { name = codes "DisposeEnvironment"; phases = always; needs = Nothing; arguments = [] }

abbrev pub all_calls : List CallKind
all_calls =
    calls.AddCapabilities ∷ calls.RelinquishCapabilities ∷ calls.SetEventNotificationMode ∷ calls.SetBreakpoint ∷ calls.ClearBreakpoint
    ∷ calls.SetFieldAccessWatch ∷ calls.ClearFieldAccessWatch ∷ calls.SetFieldModificationWatch ∷ calls.ClearFieldModificationWatch
    ∷ calls.SetTag ∷ calls.GetTag ∷ calls.GetObjectsWithTags ∷ calls.IterateThroughHeap ∷ calls.SuspendThread ∷ calls.ResumeThread
    ∷ calls.GetThreadState ∷ calls.GetAllThreads ∷ calls.GetFrameCount ∷ calls.GetStackTrace ∷ calls.NotifyFramePop
    ∷ calls.GetLoadedClasses ∷ calls.GetClassStatus ∷ calls.GetBytecodes ∷ calls.RedefineClasses ∷ calls.RetransformClasses
    ∷ calls.UseRules ∷ calls.AddTransformer ∷ calls.RemoveTransformer ∷ calls.GetPhase ∷ calls.DisposeEnvironment ∷ []

-- ---- what follows from the rows

abbrev pub call_name : CallKind → List ℕ
call_name call = (call_row call).name

abbrev pub phase_allows : CallKind → Phase → Bool
phase_allows call phase = list_any (is_same_phase phase) (call_row call).phases

abbrev pub call_needs : CallKind → Needs
call_needs call = (call_row call).needs

abbrev pub arguments_of : CallKind → List Argument
arguments_of call = (call_row call).arguments

abbrev pub call_of_name : List ℕ → Option CallKind
call_of_name name = find (λ call. bytes_eq name (call_name call)) all_calls

-- the capability that is needed, for a call with this event, if it has one
abbrev pub needed_of : Needs → Option EventKind → Option Capability
needed_of Nothing kind = None
needed_of (Holding c) kind = Some c
needed_of OfItsEvent kind = option_and_then event_needs kind

abbrev pub needed_for : CallKind → Option EventKind → Option Capability
needed_for call kind = needed_of (call_needs call) kind
