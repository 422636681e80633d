-- Which call a call is, and the object among its arguments.
use Rattle.std.specs.Prelude.{ℕ, Bool, Option, Some, None, bytes_eq}
use Rattle.std.specs.List.{list_any}
use Rattle.ti_codes.specs.declared.call.CallKind.{CallKind}
use Rattle.ti_codes.specs.declared.call.CallKind.TheVariants as calls
use Rattle.ti_codes.specs.Arguments as arguments
use Rattle.ti_codes.specs.Calls.{arguments_of}
use Rattle.agent_types.specs.declared.call.Call.TheVariants as tool_calls
use Rattle.agent_types.specs.declared.call.Call.{Call}
use Rattle.agent_types.specs.declared.call.Call.TheVariants.{SetTag, GetTag}

-- which call it is
abbrev pub kind_of_call : Call → CallKind
kind_of_call (tool_calls.AddCapabilities caps) = calls.AddCapabilities
kind_of_call (tool_calls.RelinquishCapabilities caps) = calls.RelinquishCapabilities
kind_of_call (tool_calls.SetEventNotificationMode on event thread) = calls.SetEventNotificationMode
kind_of_call (tool_calls.SetBreakpoint class method desc at) = calls.SetBreakpoint
kind_of_call (tool_calls.ClearBreakpoint class method desc at) = calls.ClearBreakpoint
kind_of_call (tool_calls.SetFieldAccessWatch class field) = calls.SetFieldAccessWatch
kind_of_call (tool_calls.ClearFieldAccessWatch class field) = calls.ClearFieldAccessWatch
kind_of_call (tool_calls.SetFieldModificationWatch class field) = calls.SetFieldModificationWatch
kind_of_call (tool_calls.ClearFieldModificationWatch class field) = calls.ClearFieldModificationWatch
kind_of_call (tool_calls.SetTag object tag) = calls.SetTag
kind_of_call (tool_calls.GetTag object) = calls.GetTag
kind_of_call (tool_calls.GetObjectsWithTags tags) = calls.GetObjectsWithTags
kind_of_call (tool_calls.IterateThroughHeap filter class write) = calls.IterateThroughHeap
kind_of_call (tool_calls.SuspendThread thread) = calls.SuspendThread
kind_of_call (tool_calls.ResumeThread thread) = calls.ResumeThread
kind_of_call (tool_calls.GetThreadState thread) = calls.GetThreadState
kind_of_call tool_calls.GetAllThreads = calls.GetAllThreads
kind_of_call (tool_calls.GetFrameCount thread) = calls.GetFrameCount
kind_of_call (tool_calls.GetStackTrace thread) = calls.GetStackTrace
kind_of_call (tool_calls.NotifyFramePop thread depth) = calls.NotifyFramePop
kind_of_call tool_calls.GetLoadedClasses = calls.GetLoadedClasses
kind_of_call (tool_calls.GetClassStatus class) = calls.GetClassStatus
kind_of_call (tool_calls.GetBytecodes class method desc) = calls.GetBytecodes
kind_of_call (tool_calls.RedefineClasses classes donors) = calls.RedefineClasses
kind_of_call (tool_calls.RetransformClasses classes) = calls.RetransformClasses
kind_of_call (tool_calls.UseRules set) = calls.UseRules
kind_of_call (tool_calls.AddTransformer set capable) = calls.AddTransformer
kind_of_call (tool_calls.RemoveTransformer set capable) = calls.RemoveTransformer
kind_of_call tool_calls.GetPhase = calls.GetPhase
kind_of_call tool_calls.DisposeEnvironment = calls.DisposeEnvironment

-- ---- its object

-- the object's number, where it has one
abbrev pub object_given : Call → Option ℕ
object_given (SetTag object tag) = Some object
object_given (GetTag object) = Some object
object_given _ = None

-- The same call with the object's number made of the one that it has. A call without an object stays as it is.
abbrev pub with_object : (ℕ → ℕ) → Call → Call
with_object made (SetTag object tag) = SetTag (made object) tag
with_object made (GetTag object) = GetTag (made object)
with_object made call = call

-- whether the row of a call names an object among its arguments
abbrev pub takes_object : CallKind → Bool
takes_object kind = list_any (λ a. bytes_eq a.name arguments.object.name) (arguments_of kind)
