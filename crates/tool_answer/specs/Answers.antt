-- What a tool call answers: its code, its values and its records. A call does what it does by its records alone.
use Rattle.std.specs.Prelude.{ℕ, ℤ, Bool, true, false, List, [], ◌∷◌, map, slice_get, Option, Some, None}
use Rattle.std.specs.Option.{option_map_or}
use Rattle.ti_ids.specs.Maybe.{◌>>=◌}
use Rattle.ti_ids.specs.declared.number.ThreadNo.{ThreadNo}
use Rattle.ti_ids.specs.declared.number.ObjNo.{ObjNo}
use Rattle.ti_ids.specs.declared.number.EnvNo.{EnvNo}
use Rattle.ti_ids.specs.declared.actor.Actor.{Actor}
use Rattle.ti_codes.specs.declared.error.ErrorCode.TheVariants as errors
use Rattle.ti_codes.specs.declared.event.EventKind.{EventKind}
use Rattle.ti_codes.specs.declared.event.EventKind.TheVariants as kinds
use Rattle.ti_codes.specs.Events.{event_of_number}
use Rattle.jv_names.specs.Names.{Name}
use Rattle.agent_types.specs.declared.call.Call.{Call}
use Rattle.agent_types.specs.declared.call.Call.TheVariants.{AddCapabilities, RelinquishCapabilities, SetEventNotificationMode, SetBreakpoint, ClearBreakpoint, SetFieldAccessWatch, ClearFieldAccessWatch, SetFieldModificationWatch, ClearFieldModificationWatch, SetTag, IterateThroughHeap}
use Rattle.agent_types.specs.declared.call.Call.TheVariants.{SuspendThread, ResumeThread, NotifyFramePop, RedefineClasses, RetransformClasses, UseRules, AddTransformer, RemoveTransformer, DisposeEnvironment}
use Rattle.capability_set.specs.Held.{with_capabilities, without_capabilities}
use Rattle.machine_state.specs.Jobs.{Job}
use Rattle.machine_state.specs.Trace.{Record, CapsChanged, ModeSet, BreakSet, BreakCleared, WatchSet, Tagged, PopAsked, SuspendSet, RulesChosen, TransformerAdded, TransformerRemoved, Disposed}
use Rattle.machine_state.specs.Environments.{capabilities_of}
use Rattle.machine_state.specs.Versions.{Turns}
use Rattle.machine_state.specs.Acts.{State, Notes}
use Rattle.machine_steps.specs.World.{Answer, CallRefusals, CallAnswers}
use Rattle.tool_answer.specs.Naming.{field_named, place_at, thread_meant, method_frames}
use Rattle.tool_answer.specs.Refusals.{refusal_of}
use Rattle.tool_answer.specs.Values.{values_of, visited}
use Rattle.tool_answer.specs.Redefining.{Outcome, redefines, retransforms}

-- ---- records

-- the scope of a setting: one thread, or all where none is given
abbrev pub scope_meant : Actor → Option ℕ → Option ThreadNo
scope_meant actor thread = thread >>= thread_meant actor

abbrev pub mode_set : EnvNo → Bool → Option EventKind → Option ThreadNo → List Record
mode_set env on None scope = []
mode_set env on (Some kind) scope = ModeSet env kind scope on ∷ []

abbrev pub suspends : Bool → Option ThreadNo → List Record
suspends on None = []
suspends on (Some t) = SuspendSet t on ∷ []

-- the frame at a depth is asked for by its birth
abbrev pub asks_pop : State → EnvNo → ℕ → Option ThreadNo → List Record
asks_pop s env depth None = []
asks_pop s env depth (Some t) = option_map_or (λ f. PopAsked env t depth f.pin.birth ∷ []) (slice_get (method_frames s.core t) depth) []

-- a tag is written to each object that was visited
abbrev pub tags_all : EnvNo → List ObjNo → Option ℤ → List Record
tags_all env objects None = []
tags_all env objects (Some tag) = map (λ o. Tagged env o tag) objects

module _ (job : Job) (turns : Turns) (s : State) (env : EnvNo) (actor : Actor) where
  abbrev pub watch_set : Name → Name → EventKind → Bool → List Record
  watch_set class field kind on = option_map_or (λ f. WatchSet f kind on ∷ []) (field_named job turns s class field) []

  -- a case a call, but for the two class calls
  abbrev pub records_of : Call → List Record
  records_of (AddCapabilities caps) = CapsChanged env (with_capabilities (capabilities_of job s.trace env) caps) ∷ []
  records_of (RelinquishCapabilities caps) = CapsChanged env (without_capabilities (capabilities_of job s.trace env) caps) ∷ []
  records_of (SetEventNotificationMode on event thread) = mode_set env on (event_of_number event) (scope_meant actor thread)
  records_of (SetBreakpoint class method desc at) = BreakSet (place_at class method desc at) ∷ []
  records_of (ClearBreakpoint class method desc at) = BreakCleared (place_at class method desc at) ∷ []
  records_of (SetFieldAccessWatch class field) = watch_set class field kinds.FieldAccess true
  records_of (ClearFieldAccessWatch class field) = watch_set class field kinds.FieldAccess false
  records_of (SetFieldModificationWatch class field) = watch_set class field kinds.FieldModification true
  records_of (ClearFieldModificationWatch class field) = watch_set class field kinds.FieldModification false
  records_of (SetTag object tag) = Tagged env (record { 0 = object }) tag ∷ []
  records_of (IterateThroughHeap filter class write) = tags_all env (visited job turns s env filter class) write
  records_of (SuspendThread thread) = suspends true (thread_meant actor thread)
  records_of (ResumeThread thread) = suspends false (thread_meant actor thread)
  records_of (NotifyFramePop thread depth) = asks_pop s env depth (thread_meant actor thread)
  records_of (UseRules set) = RulesChosen env set ∷ []
  records_of (AddTransformer set capable) = TransformerAdded env set capable ∷ []
  records_of (RemoveTransformer set capable) = TransformerRemoved env set ∷ []
  records_of DisposeEnvironment = Disposed env ∷ []
  records_of call = []

  -- ---- answers

  abbrev pub of_outcome : Outcome → Answer
  of_outcome o = record { code = o.code; values = []; acts = o.acts }

  abbrev pub answer_of : Call → Answer
  answer_of (RedefineClasses classes donors) = of_outcome (redefines job turns s actor classes donors)
  answer_of (RetransformClasses classes) = of_outcome (retransforms job turns s actor classes)
  answer_of call = record { code = errors.None; values = values_of job turns s env call actor; acts = map Notes (records_of call) }

-- ---- as the machine's world has them

abbrev pub calls_refuse : Job → Turns → CallRefusals
calls_refuse job turns s env call actor = refusal_of job turns s env actor call

abbrev pub calls_answer : Job → Turns → CallAnswers
calls_answer job turns s env call actor = answer_of job turns s env actor call
