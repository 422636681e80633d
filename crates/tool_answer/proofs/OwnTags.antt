-- The records of a call that isn't a class call: its environment tags its own objects alone, and no class is loaded or redefined.
use Rattle.std.proofs.Common.{◌≡◌, ℕ, ℤ, Bool, true, false, List, [], ◌∷◌, map, Option, Some, None, refl}
use Rattle.std.specs.Prelude.{slice_get}
use Rattle.std.specs.Option.{option_map_or}
use Rattle.std.specs.List.{AllByRecursion}
use Rattle.jv_names.specs.Names.{Name}
use Rattle.ti_ids.specs.declared.number.EnvNo.{EnvNo}
use Rattle.ti_ids.specs.declared.number.ObjNo.{ObjNo}
use Rattle.ti_ids.specs.declared.number.ThreadNo.{ThreadNo}
use Rattle.ti_ids.specs.declared.actor.Actor.{Actor}
use Rattle.ti_codes.specs.declared.event.EventKind.{EventKind}
use Rattle.ti_codes.specs.declared.event.EventKind.TheVariants as kinds
use Rattle.ti_codes.specs.Events.{event_of_number}
use Rattle.agent_types.specs.declared.call.Call.{Call}
use Rattle.agent_types.specs.declared.call.Call.TheVariants as calls
use Rattle.machine_state.specs.Jobs.{Job}
use Rattle.machine_state.specs.Core.{MethodFrame}
use Rattle.machine_state.specs.Trace.{Record, FieldName, WatchSet, PopAsked, Tagged, Loaded, Redefined}
use Rattle.machine_state.specs.Versions.{Turns}
use Rattle.machine_state.specs.Acts.{State, Act, Notes}
use Rattle.tool_answer.specs.Naming.{field_named, thread_meant, method_frames}
use Rattle.tool_answer.specs.Values.{visited}
use Rattle.tool_answer.specs.Redefining.{with_donors, retransforming}
use Rattle.tool_answer.specs.Answers.{scope_meant, mode_set, suspends, asks_pop, tags_all, watch_set, records_of}
use Rattle.tool_answer.specs.Laws.{TagsAs, TagsItsOwn}
use Rattle.tool_answer.proofs.OnlyRecords.{OfRecords, OfTurns, noted, all_noted}

abbrev pub OfCall : EnvNo → Record → Type 0
OfCall env (Tagged of object tag) = of ≡ env
OfCall env (Loaded class bytes) = ⊥
OfCall env (Redefined class bytes) = ⊥
OfCall env r = Unit {0}

pub held : (P : Act → Type 0) (env : EnvNo) → ((r : Record) → OfCall env r → P (Notes r)) → (records : List Record)
    → AllByRecursion (OfCall env) records → OfRecords P records
held P env holds [] all = tt
held P env holds (r ∷ rs) all = (holds r all.0, held P env holds rs all.1)

module _ (env : EnvNo) where
  abbrev Own : List Record → Type 0
  Own records = AllByRecursion (OfCall env) records

  turned : OfTurns (TagsAs env)
  turned of class set k n has_changed = tt

  tags_as : (r : Record) → OfCall env r → TagsAs env (Notes r)
  tags_as (Tagged of object tag) h = h
  tags_as r h = tt

  mode_own : (on : Bool) (kind : Option EventKind) (scope : Option ThreadNo) → Own (mode_set env on kind scope)
  mode_own on None scope = tt
  mode_own on (Some kind) scope = (tt, tt)

  suspends_own : (on : Bool) (thread : Option ThreadNo) → Own (suspends on thread)
  suspends_own on None = tt
  suspends_own on (Some t) = (tt, tt)

  pop_own : (t : ThreadNo) (depth : ℕ) (f : Option MethodFrame) → Own (option_map_or (λ f. PopAsked env t depth f.pin.birth ∷ []) f [])
  pop_own t depth None = tt
  pop_own t depth (Some f) = (tt, tt)

  asks_own : (s : State) (depth : ℕ) (thread : Option ThreadNo) → Own (asks_pop s env depth thread)
  asks_own s depth None = tt
  asks_own s depth (Some t) = pop_own t depth (slice_get (method_frames s.core t) depth)

  each_own : (objects : List ObjNo) (tag : ℤ) → Own (tags_all env objects (Some tag))
  each_own [] tag = tt
  each_own (o ∷ os) tag = (refl, each_own os tag)

  tags_own : (objects : List ObjNo) (tag : Option ℤ) → Own (tags_all env objects tag)
  tags_own objects None = tt
  tags_own objects (Some tag) = each_own objects tag

  field_own : (field : Option FieldName) (kind : EventKind) (on : Bool) → Own (option_map_or (λ f. WatchSet f kind on ∷ []) field [])
  field_own None kind on = tt
  field_own (Some f) kind on = (tt, tt)

  module _ (job : Job) (turns : Turns) (s : State) (actor : Actor) where
    watch_own : (class field : Name) (kind : EventKind) (on : Bool) → Own (watch_set job turns s env actor class field kind on)
    watch_own class field kind on = field_own (field_named job turns s class field) kind on

    pub records_own : (call : Call) → Own (records_of job turns s env actor call)
    records_own (calls.AddCapabilities caps) = (tt, tt)
    records_own (calls.RelinquishCapabilities caps) = (tt, tt)
    records_own (calls.SetEventNotificationMode on event thread) = mode_own on (event_of_number event) (scope_meant actor thread)
    records_own (calls.SetBreakpoint class method desc at) = (tt, tt)
    records_own (calls.ClearBreakpoint class method desc at) = (tt, tt)
    records_own (calls.SetFieldAccessWatch class field) = watch_own class field kinds.FieldAccess true
    records_own (calls.ClearFieldAccessWatch class field) = watch_own class field kinds.FieldAccess false
    records_own (calls.SetFieldModificationWatch class field) = watch_own class field kinds.FieldModification true
    records_own (calls.ClearFieldModificationWatch class field) = watch_own class field kinds.FieldModification false
    records_own (calls.SetTag object tag) = (refl, tt)
    records_own (calls.GetTag object) = tt
    records_own (calls.GetObjectsWithTags tags) = tt
    records_own (calls.IterateThroughHeap filter class write) = tags_own (visited job turns s env filter class) write
    records_own (calls.SuspendThread thread) = suspends_own true (thread_meant actor thread)
    records_own (calls.ResumeThread thread) = suspends_own false (thread_meant actor thread)
    records_own (calls.GetThreadState thread) = tt
    records_own calls.GetAllThreads = tt
    records_own (calls.GetFrameCount thread) = tt
    records_own (calls.GetStackTrace thread) = tt
    records_own (calls.NotifyFramePop thread depth) = asks_own s depth (thread_meant actor thread)
    records_own calls.GetLoadedClasses = tt
    records_own (calls.GetClassStatus class) = tt
    records_own (calls.GetBytecodes class method desc) = tt
    records_own (calls.RedefineClasses classes donors) = tt
    records_own (calls.RetransformClasses classes) = tt
    records_own (calls.UseRules set) = (tt, tt)
    records_own (calls.AddTransformer set capable) = (tt, tt)
    records_own (calls.RemoveTransformer set capable) = (tt, tt)
    records_own calls.GetPhase = tt
    records_own calls.DisposeEnvironment = (tt, tt)

    redefined_own : (classes : List Name) (donors : List ℕ) → OfRecords (TagsAs env) (map (λ r. r.makes) (with_donors job turns s actor classes donors))
    redefined_own [] donors = tt
    redefined_own (class ∷ classes) [] = tt
    redefined_own (class ∷ classes) (donor ∷ donors) = (tt, redefined_own classes donors)

    retransformed_own : (classes : List Name) → OfRecords (TagsAs env) (map (λ r. r.makes) (map (retransforming job turns s actor) classes))
    retransformed_own [] = tt
    retransformed_own (class ∷ classes) = (tt, retransformed_own classes)

pub tags_its_own : TagsItsOwn
tags_its_own job turns s env (calls.RedefineClasses classes donors) actor =
    all_noted (TagsAs env) job turns s actor (turned env) (with_donors job turns s actor classes donors) (redefined_own env job turns s actor classes donors)
tags_its_own job turns s env (calls.RetransformClasses classes) actor =
    all_noted (TagsAs env) job turns s actor (turned env) (map (retransforming job turns s actor) classes) (retransformed_own env job turns s actor classes)
tags_its_own job turns s env call actor =
    noted (TagsAs env) (records_of job turns s env actor call)
    (held (TagsAs env) env (tags_as env) (records_of job turns s env actor call) (records_own env job turns s actor call))
