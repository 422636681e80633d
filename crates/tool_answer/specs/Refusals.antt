-- What refuses a tool call before anything is done for it (JVM TI, "Functions", the errors of each): the first of these. The environment
-- was disposed; the call may not be made in this phase; a capability is missing; then the arguments are looked at from left to right, and
-- last what the call alone asks for. What a call asks of phase, capability and arguments is its row in ti_codes. The check of a
-- redefinition comes later, since the turns at the class come first.
use Rattle.std.specs.Prelude.{ℕ, ◌==◌, pos, Bool, true, false, not, ◌&&◌, ◌||◌, if◌then◌else◌, List, [], ◌∷◌, ◌++◌, length, flat_map, slice_get, Option, Some, None, is_none, is_some, bytes_eq}
use Rattle.std.specs.List.{list_any}
use Rattle.std.specs.Ordering.{int_eq}
use Rattle.std.specs.Option.{option_map_or}
use Rattle.ti_ids.specs.Maybe.{◌>>=◌}
use Rattle.ti_ids.specs.declared.number.EnvNo.{EnvNo}
use Rattle.ti_ids.specs.declared.actor.Actor.{Actor}
use Rattle.ti_codes.specs.declared.error.ErrorCode.{ErrorCode}
use Rattle.ti_codes.specs.declared.error.ErrorCode.TheVariants as errors
use Rattle.ti_codes.specs.declared.event.EventKind.{EventKind}
use Rattle.ti_codes.specs.declared.event.EventKind.TheVariants as kinds
use Rattle.ti_codes.specs.Calls.{phase_allows, needed_for}
use Rattle.ti_codes.specs.Events.{event_of_number, is_same_event}
use Rattle.jv_names.specs.Names.{Name}
use Rattle.base_set.specs.BaseSet.{base_set, has_name}
use Rattle.class_tree.specs.Tree.{first_of}
use Rattle.agent_types.specs.declared.call.Call.{Call}
use Rattle.agent_types.specs.declared.call.Call.TheVariants.{AddCapabilities, SetEventNotificationMode, SetBreakpoint, ClearBreakpoint, SetFieldAccessWatch, ClearFieldAccessWatch, SetFieldModificationWatch, ClearFieldModificationWatch, SetTag, GetTag, GetObjectsWithTags, IterateThroughHeap}
use Rattle.agent_types.specs.declared.call.Call.TheVariants.{SuspendThread, ResumeThread, GetThreadState, GetFrameCount, GetStackTrace, NotifyFramePop, GetClassStatus, GetBytecodes, RedefineClasses, RetransformClasses, UseRules, AddTransformer, RemoveTransformer}
use Rattle.agent_types.specs.Calls.{kind_of_call}
use Rattle.capability_set.specs.Held.{has_capability, may_add}
use Rattle.tag_map.specs.Walks.{is_filter}
use Rattle.machine_state.specs.Jobs.{Job}
use Rattle.machine_state.specs.Core.{has_ended}
use Rattle.machine_state.specs.Environments.{is_disposed, capabilities_of, same_environment}
use Rattle.machine_state.specs.Places.{has_breakpoint, is_watched, is_suspended}
use Rattle.machine_state.specs.Chains.{added}
use Rattle.machine_state.specs.Versions.{Turns}
use Rattle.machine_state.specs.Acts.{State}
use Rattle.tool_answer.specs.Naming.{is_java, is_loaded, newest_method, newest_code, has_place, field_named, place_at, is_object, thread_meant, thread_of, is_acting, method_frames}

-- a refusal, if there is one
abbrev pub Refusal : Type 0
Refusal = Option ErrorCode

abbrev pub refused_where : ErrorCode → Bool → Refusal
refused_where code is = if is then Some code else None

-- the first one that there is
abbrev pub first_refusal : List Refusal → Refusal
first_refusal refusals = first_of (λ (r : Refusal). r) refusals

-- ---- SetEventNotificationMode

-- the event of a call, where it has one
abbrev pub event_of_call : Call → Option EventKind
event_of_call (SetEventNotificationMode on event thread) = event_of_number event
event_of_call call = None

-- events that can't be set for one thread
abbrev pub whole_events : List EventKind
whole_events = kinds.VMInit ∷ kinds.VMStart ∷ kinds.VMDeath ∷ kinds.ThreadStart ∷ []

abbrev pub is_whole : EventKind → Bool
is_whole kind = list_any (is_same_event kind) whole_events

abbrev pub hook_in_java : Job → EnvNo → EventKind → Bool
hook_in_java job env kind = is_java job env && is_same_event kind kinds.ClassFileLoadHook

-- ---- the two class calls

abbrev pub is_twice : List Name → Bool
is_twice [] = false
is_twice (n ∷ ns) = list_any (bytes_eq n) ns || is_twice ns

abbrev pub is_none_named : List Name → Bool
is_none_named [] = true
is_none_named (n ∷ ns) = false

-- a class is named twice, or none is
abbrev pub misnames : List Name → Bool
misnames classes = is_none_named classes || is_twice classes

abbrev pub is_base_class : Name → Bool
is_base_class class = list_any (has_name class) base_set

module _ (job : Job) (turns : Turns) (s : State) (env : EnvNo) (actor : Actor) where
  -- ---- one argument each

  abbrev pub class_refusal : Name → Refusal
  class_refusal class = refused_where errors.InvalidClass (not (is_loaded s.core class))

  abbrev pub method_refusals : Name → Name → Name → List Refusal
  method_refusals class method desc =
      class_refusal class ∷ refused_where errors.InvalidMethod (is_none (newest_method job turns s class method desc)) ∷ []

  abbrev pub place_refusals : Name → Name → Name → ℕ → List Refusal
  place_refusals class method desc at =
      method_refusals class method desc ++ refused_where errors.InvalidLocation (not (has_place job turns s class method desc at)) ∷ []

  abbrev pub field_refusals : Name → Name → List Refusal
  field_refusals class field =
      class_refusal class ∷ refused_where errors.InvalidField (is_none (field_named job turns s class field)) ∷ []

  abbrev pub object_refusal : ℕ → Refusal
  object_refusal n = refused_where errors.InvalidObject (not (is_object s.core n))

  abbrev pub thread_refusal : ℕ → Refusal
  thread_refusal n = refused_where errors.InvalidThread (is_none (thread_of s.core actor n))

  -- of a thread that must live
  abbrev pub living_refusals : ℕ → List Refusal
  living_refusals n =
      thread_refusal n ∷ refused_where errors.ThreadNotAlive (option_map_or has_ended (thread_of s.core actor n) false) ∷ []

  -- ---- what calls alone ask for

  abbrev pub break_is_set : Name → Name → Name → ℕ → Bool
  break_is_set class method desc at = has_breakpoint s.trace (place_at class method desc at)

  abbrev pub watch_is_set : EventKind → Name → Name → Bool
  watch_is_set kind class field = option_map_or (λ f. is_watched s.trace f kind) (field_named job turns s class field) false

  abbrev pub suspended : ℕ → Bool
  suspended n = option_map_or (is_suspended s.trace) (thread_meant actor n) false

  -- another thread than the acting one
  abbrev pub is_other : ℕ → Bool
  is_other n = option_map_or (λ t. not (is_acting actor t)) (thread_meant actor n) false

  abbrev pub has_depth : ℕ → ℕ → Bool
  has_depth n depth = option_map_or (λ t. is_some (slice_get (method_frames s.core t) depth)) (thread_meant actor n) false

  abbrev pub is_registered : Name → Bool
  is_registered set = list_any (λ r. same_environment r.env env && bytes_eq r.set set) (added s.trace)

  abbrev pub mode_refusals : Option EventKind → Option ℕ → List Refusal
  mode_refusals None thread = Some errors.InvalidEventType ∷ []
  mode_refusals (Some kind) None = refused_where errors.IllegalArgument (hook_in_java job env kind) ∷ []
  mode_refusals (Some kind) (Some thread) =
      refused_where errors.IllegalArgument (hook_in_java job env kind || is_whole kind) ∷ living_refusals thread

  -- for each class in order that it isn't loaded, and that it can't be replaced
  abbrev pub replaced_refusals : Name → List Refusal
  replaced_refusals class = class_refusal class ∷ refused_where errors.UnmodifiableClass (is_base_class class) ∷ []

  -- ---- a case a call

  abbrev pub own_refusals : Call → List Refusal
  own_refusals (AddCapabilities caps) =
      refused_where errors.NotAvailable (not (may_add s.core.phase (capabilities_of job s.trace env) caps)) ∷ []
  own_refusals (SetEventNotificationMode on event thread) = mode_refusals (event_of_number event) thread
  own_refusals (SetBreakpoint class method desc at) =
      place_refusals class method desc at ++ refused_where errors.Duplicate (break_is_set class method desc at) ∷ []
  own_refusals (ClearBreakpoint class method desc at) =
      place_refusals class method desc at ++ refused_where errors.NotFound (not (break_is_set class method desc at)) ∷ []
  own_refusals (SetFieldAccessWatch class field) =
      field_refusals class field ++ refused_where errors.Duplicate (watch_is_set kinds.FieldAccess class field) ∷ []
  own_refusals (ClearFieldAccessWatch class field) =
      field_refusals class field ++ refused_where errors.NotFound (not (watch_is_set kinds.FieldAccess class field)) ∷ []
  own_refusals (SetFieldModificationWatch class field) =
      field_refusals class field ++ refused_where errors.Duplicate (watch_is_set kinds.FieldModification class field) ∷ []
  own_refusals (ClearFieldModificationWatch class field) =
      field_refusals class field ++ refused_where errors.NotFound (not (watch_is_set kinds.FieldModification class field)) ∷ []
  own_refusals (SetTag object tag) = object_refusal object ∷ []
  own_refusals (GetTag object) = object_refusal object ∷ []
  own_refusals (GetObjectsWithTags tags) = refused_where errors.IllegalArgument (length tags == 0 || list_any (int_eq (pos 0)) tags) ∷ []
  own_refusals (IterateThroughHeap filter class write) =
      refused_where errors.IllegalArgument (not (is_filter filter)) ∷ (class >>= class_refusal) ∷ []
  own_refusals (SuspendThread thread) = living_refusals thread ++ refused_where errors.ThreadSuspended (suspended thread) ∷ []
  own_refusals (ResumeThread thread) = living_refusals thread ++ refused_where errors.ThreadNotSuspended (not (suspended thread)) ∷ []
  own_refusals (GetThreadState thread) = thread_refusal thread ∷ []
  own_refusals (GetFrameCount thread) = living_refusals thread
  own_refusals (GetStackTrace thread) = living_refusals thread
  own_refusals (NotifyFramePop thread depth) =
      living_refusals thread ++ refused_where errors.ThreadNotSuspended (is_other thread && not (suspended thread))
      ∷ refused_where errors.NoMoreFrames (not (has_depth thread depth)) ∷ []
  own_refusals (GetClassStatus class) = class_refusal class ∷ []
  own_refusals (GetBytecodes class method desc) =
      method_refusals class method desc ++ refused_where errors.InvalidLocation (is_none (newest_code job turns s class method desc)) ∷ []
  own_refusals (RedefineClasses classes donors) =
      refused_where errors.IllegalArgument (misnames classes || not (length classes == length donors)) ∷ flat_map replaced_refusals classes
  own_refusals (RetransformClasses classes) =
      refused_where errors.IllegalArgument (misnames classes) ∷ flat_map replaced_refusals classes
  own_refusals (UseRules set) = refused_where errors.IllegalArgument (is_java job env) ∷ []
  own_refusals (AddTransformer set capable) = refused_where errors.IllegalArgument (not (is_java job env)) ∷ []
  own_refusals (RemoveTransformer set capable) =
      refused_where errors.IllegalArgument (not (is_java job env)) ∷ refused_where errors.NotFound (not (is_registered set)) ∷ []
  own_refusals call = []

  -- ---- all of them, in order

  abbrev pub lacks_capability : Call → Bool
  lacks_capability call = option_map_or
      (λ wanted. not (has_capability wanted (capabilities_of job s.trace env))) (needed_for (kind_of_call call) (event_of_call call)) false

  abbrev pub refusal_of : Call → Refusal
  refusal_of call = first_refusal (
      refused_where errors.InvalidEnvironment (is_disposed s.trace env)
      ∷ refused_where errors.WrongPhase (not (phase_allows (kind_of_call call) s.core.phase))
      ∷ refused_where errors.MustPossessCapability (lacks_capability call)
      ∷ own_refusals call)
