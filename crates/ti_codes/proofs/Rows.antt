-- The tables' rows, one after the other: each is found by its number and by its name, so no two share one.
use Rattle.std.proofs.Common.{◌∙◌, Option, refl, sym, ap}
use Rattle.std.specs.Prelude.{ℕ, find, ◌==◌, ◌∷◌, [], unwrap_or}
use Rattle.ti_codes.specs.declared.phase.Phase.{Phase}
use Rattle.ti_codes.specs.declared.phase.Phase.TheVariants as phases
use Rattle.ti_codes.specs.declared.capability.Capability.TheVariants as capabilities
use Rattle.ti_codes.specs.declared.event.EventKind.TheVariants as kinds
use Rattle.ti_codes.specs.declared.error.ErrorCode.TheVariants as errors
use Rattle.ti_codes.specs.declared.call.CallKind.TheVariants as calls
use Rattle.ti_codes.specs.Phases.{phase_number}
use Rattle.ti_codes.specs.Capabilities.{capability_bit, capability_name, capability_of_bit, capability_of_name}
use Rattle.ti_codes.specs.Events.{event_number, event_name, event_of_number, event_of_name}
use Rattle.ti_codes.specs.Errors.{error_number, error_name, error_of_number, error_of_name}
use Rattle.ti_codes.specs.Calls.{call_name, call_of_name}
use Rattle.ti_codes.specs.Laws.{Differ, IsFound, RowsDiffer, RowsAreListed}

-- what is found by what is said of it differs by that
found_differ : {A B : Type 0} (said : A → B) (find : B → Option A) → IsFound said find → Differ said
found_differ said find found a b same = ap (λ o. unwrap_or o a) (sym (found a) ∙ ap find same ∙ found b)

-- ---- phases

abbrev phase_of : ℕ → Option Phase
phase_of number = find (λ phase. number == phase_number phase) (phases.OnLoad ∷ phases.Primordial ∷ phases.Live ∷ phases.Start ∷ phases.Dead ∷ [])

phase_found : IsFound phase_number phase_of
phase_found phases.OnLoad = refl
phase_found phases.Primordial = refl
phase_found phases.Live = refl
phase_found phases.Start = refl
phase_found phases.Dead = refl

-- ---- capabilities

bit_found : IsFound capability_bit capability_of_bit
bit_found capabilities.Breakpoint = refl
bit_found capabilities.SingleStep = refl
bit_found capabilities.Exception = refl
bit_found capabilities.FramePop = refl
bit_found capabilities.MethodEntry = refl
bit_found capabilities.MethodExit = refl
bit_found capabilities.FieldAccess = refl
bit_found capabilities.FieldModification = refl
bit_found capabilities.Monitor = refl
bit_found capabilities.ObjectAlloc = refl
bit_found capabilities.Tag = refl
bit_found capabilities.Redefine = refl
bit_found capabilities.Retransform = refl
bit_found capabilities.Suspend = refl
bit_found capabilities.Locals = refl
bit_found capabilities.Bytecodes = refl
bit_found capabilities.PopFrame = refl
bit_found capabilities.EarlyReturn = refl

capability_found : IsFound capability_name capability_of_name
capability_found capabilities.Breakpoint = refl
capability_found capabilities.SingleStep = refl
capability_found capabilities.Exception = refl
capability_found capabilities.FramePop = refl
capability_found capabilities.MethodEntry = refl
capability_found capabilities.MethodExit = refl
capability_found capabilities.FieldAccess = refl
capability_found capabilities.FieldModification = refl
capability_found capabilities.Monitor = refl
capability_found capabilities.ObjectAlloc = refl
capability_found capabilities.Tag = refl
capability_found capabilities.Redefine = refl
capability_found capabilities.Retransform = refl
capability_found capabilities.Suspend = refl
capability_found capabilities.Locals = refl
capability_found capabilities.Bytecodes = refl
capability_found capabilities.PopFrame = refl
capability_found capabilities.EarlyReturn = refl

-- ---- events

number_found : IsFound event_number event_of_number
number_found kinds.VMInit = refl
number_found kinds.VMDeath = refl
number_found kinds.ThreadStart = refl
number_found kinds.ThreadEnd = refl
number_found kinds.ClassFileLoadHook = refl
number_found kinds.ClassLoad = refl
number_found kinds.ClassPrepare = refl
number_found kinds.VMStart = refl
number_found kinds.Exception = refl
number_found kinds.ExceptionCatch = refl
number_found kinds.SingleStep = refl
number_found kinds.FramePop = refl
number_found kinds.Breakpoint = refl
number_found kinds.FieldAccess = refl
number_found kinds.FieldModification = refl
number_found kinds.MethodEntry = refl
number_found kinds.MethodExit = refl
number_found kinds.MonitorWait = refl
number_found kinds.MonitorWaited = refl
number_found kinds.MonitorContendedEnter = refl
number_found kinds.MonitorContendedEntered = refl
number_found kinds.VMObjectAlloc = refl

event_found : IsFound event_name event_of_name
event_found kinds.VMInit = refl
event_found kinds.VMDeath = refl
event_found kinds.ThreadStart = refl
event_found kinds.ThreadEnd = refl
event_found kinds.ClassFileLoadHook = refl
event_found kinds.ClassLoad = refl
event_found kinds.ClassPrepare = refl
event_found kinds.VMStart = refl
event_found kinds.Exception = refl
event_found kinds.ExceptionCatch = refl
event_found kinds.SingleStep = refl
event_found kinds.FramePop = refl
event_found kinds.Breakpoint = refl
event_found kinds.FieldAccess = refl
event_found kinds.FieldModification = refl
event_found kinds.MethodEntry = refl
event_found kinds.MethodExit = refl
event_found kinds.MonitorWait = refl
event_found kinds.MonitorWaited = refl
event_found kinds.MonitorContendedEnter = refl
event_found kinds.MonitorContendedEntered = refl
event_found kinds.VMObjectAlloc = refl

-- ---- errors

code_found : IsFound error_number error_of_number
code_found errors.None = refl
code_found errors.InvalidThread = refl
code_found errors.ThreadNotSuspended = refl
code_found errors.ThreadSuspended = refl
code_found errors.ThreadNotAlive = refl
code_found errors.InvalidObject = refl
code_found errors.InvalidClass = refl
code_found errors.InvalidMethod = refl
code_found errors.InvalidLocation = refl
code_found errors.InvalidField = refl
code_found errors.NoMoreFrames = refl
code_found errors.OpaqueFrame = refl
code_found errors.TypeMismatch = refl
code_found errors.InvalidSlot = refl
code_found errors.Duplicate = refl
code_found errors.NotFound = refl
code_found errors.InvalidClassFormat = refl
code_found errors.FailsVerification = refl
code_found errors.MethodAdded = refl
code_found errors.SchemaChanged = refl
code_found errors.HierarchyChanged = refl
code_found errors.MethodDeleted = refl
code_found errors.UnsupportedVersion = refl
code_found errors.NamesDontMatch = refl
code_found errors.ClassModifiersChanged = refl
code_found errors.MethodModifiersChanged = refl
code_found errors.UnmodifiableClass = refl
code_found errors.NotAvailable = refl
code_found errors.MustPossessCapability = refl
code_found errors.InvalidEventType = refl
code_found errors.IllegalArgument = refl
code_found errors.WrongPhase = refl
code_found errors.InvalidEnvironment = refl

error_found : IsFound error_name error_of_name
error_found errors.None = refl
error_found errors.InvalidThread = refl
error_found errors.ThreadNotSuspended = refl
error_found errors.ThreadSuspended = refl
error_found errors.ThreadNotAlive = refl
error_found errors.InvalidObject = refl
error_found errors.InvalidClass = refl
error_found errors.InvalidMethod = refl
error_found errors.InvalidLocation = refl
error_found errors.InvalidField = refl
error_found errors.NoMoreFrames = refl
error_found errors.OpaqueFrame = refl
error_found errors.TypeMismatch = refl
error_found errors.InvalidSlot = refl
error_found errors.Duplicate = refl
error_found errors.NotFound = refl
error_found errors.InvalidClassFormat = refl
error_found errors.FailsVerification = refl
error_found errors.MethodAdded = refl
error_found errors.SchemaChanged = refl
error_found errors.HierarchyChanged = refl
error_found errors.MethodDeleted = refl
error_found errors.UnsupportedVersion = refl
error_found errors.NamesDontMatch = refl
error_found errors.ClassModifiersChanged = refl
error_found errors.MethodModifiersChanged = refl
error_found errors.UnmodifiableClass = refl
error_found errors.NotAvailable = refl
error_found errors.MustPossessCapability = refl
error_found errors.InvalidEventType = refl
error_found errors.IllegalArgument = refl
error_found errors.WrongPhase = refl
error_found errors.InvalidEnvironment = refl

-- ---- calls

call_found : IsFound call_name call_of_name
call_found calls.AddCapabilities = refl
call_found calls.RelinquishCapabilities = refl
call_found calls.SetEventNotificationMode = refl
call_found calls.SetBreakpoint = refl
call_found calls.ClearBreakpoint = refl
call_found calls.SetFieldAccessWatch = refl
call_found calls.ClearFieldAccessWatch = refl
call_found calls.SetFieldModificationWatch = refl
call_found calls.ClearFieldModificationWatch = refl
call_found calls.SetTag = refl
call_found calls.GetTag = refl
call_found calls.GetObjectsWithTags = refl
call_found calls.IterateThroughHeap = refl
call_found calls.SuspendThread = refl
call_found calls.ResumeThread = refl
call_found calls.GetThreadState = refl
call_found calls.GetAllThreads = refl
call_found calls.GetFrameCount = refl
call_found calls.GetStackTrace = refl
call_found calls.NotifyFramePop = refl
call_found calls.GetLoadedClasses = refl
call_found calls.GetClassStatus = refl
call_found calls.GetBytecodes = refl
call_found calls.RedefineClasses = refl
call_found calls.RetransformClasses = refl
call_found calls.UseRules = refl
call_found calls.AddTransformer = refl
call_found calls.RemoveTransformer = refl
call_found calls.GetPhase = refl
call_found calls.DisposeEnvironment = refl

-- ---- the laws

pub rows_differ : RowsDiffer
rows_differ = record {
  phase_numbers = found_differ phase_number phase_of phase_found;
  capability_bits = found_differ capability_bit capability_of_bit bit_found;
  capability_names = found_differ capability_name capability_of_name capability_found;
  event_numbers = found_differ event_number event_of_number number_found;
  event_names = found_differ event_name event_of_name event_found;
  error_numbers = found_differ error_number error_of_number code_found;
  error_names = found_differ error_name error_of_name error_found;
  call_names = found_differ call_name call_of_name call_found;
}

pub rows_are_listed : RowsAreListed
rows_are_listed = record {
  capability_bits = bit_found;
  capability_names = capability_found;
  event_numbers = number_found;
  event_names = event_found;
  error_numbers = code_found;
  error_names = error_found;
  call_names = call_found;
}
