-- The laws of the state: what a frame runs, the tags, masks and logs of environments change only so. And those of calls.
use Rattle.std.specs.Prelude.{◌≡◌, ℕ, ◌≤◌, ◌<◌, ℤ, pos, ◌==◌, Bool, true, false, not, ◌&&◌, ◌||◌}
use Rattle.std.specs.Prelude.{List, [], ◌∷◌, ◌++◌, length, map, option_map, is_some, Some, None, IsSome}
use Rattle.std.specs.List.{AllByRecursion}
use Rattle.ti_ids.specs.declared.number.ClassNo.{ClassNo}
use Rattle.ti_ids.specs.declared.number.EnvNo.{EnvNo}
use Rattle.ti_ids.specs.declared.number.ObjNo.{ObjNo}
use Rattle.ti_ids.specs.declared.number.ThreadNo.{ThreadNo}
use Rattle.ti_codes.specs.declared.capability.Capability.{Capability}
use Rattle.ti_codes.specs.declared.event.EventKind.{EventKind}
use Rattle.ti_codes.specs.Events.{is_same_event}
use Rattle.jv_names.specs.Names.{Name}
use Rattle.event_mask.specs.Settings.{Scope, same_scope, suffices}
use Rattle.agent_types.specs.declared.call.Call.{Call}
use Rattle.machine_state.specs.Jobs.{Job}
use Rattle.agent_types.specs.Calls.{kind_of_call, object_given, with_object, takes_object}
use Rattle.machine_state.specs.Core.{CoreClass, MethodFrame}
use Rattle.machine_state.specs.Trace.{Record, Entry, Trace, ModeSet, CapsChanged, Tagged, Disposed, Raised, Turned, Replied}
use Rattle.machine_state.specs.Environments.{same_environment, setting, mask}
use Rattle.machine_state.specs.Tags.{tag}
use Rattle.machine_state.specs.Logs.{is_addressed, line_text, line_of, log}
use Rattle.machine_state.specs.Versions.{Turns}
use Rattle.machine_state.specs.FrameCode.{code}

abbrev pub names_of : List CoreClass → List Name
names_of classes = map (λ c. c.name) classes

-- A class has this number.
abbrev pub IsThere : List CoreClass → ClassNo → Type 0
IsThere classes n = (0 < n.0) × (n.0 ≤ length classes)

-- The frame was born in this trace, of classes that are there.
pub record IsBorn (trace : Trace) (classes : List CoreClass) (f : MethodFrame) : Type 0 where
  pub birth : f.pin.birth ≤ length trace
  pub class : IsThere classes f.class
  pub method : IsThere classes f.method.class

-- Whatever happens, and whichever classes are added or go on: a frame that was born runs the code that it ran.
abbrev pub KeepsCode : Type 0
KeepsCode = (job : Job) (turns : Turns) (trace more : Trace) (classes new after : List CoreClass) (f : MethodFrame)
    → IsBorn trace classes f → names_of after ≡ names_of classes → code job turns (trace ++ more) (new ++ after) f ≡ code job turns trace classes f

-- ---- tags

-- a record sets the tag of an object in an environment, or ends all tags of the environment
abbrev pub sets_tag : EnvNo → ObjNo → Record → Bool
sets_tag env object (Tagged of to new) = same_environment of env && to.0 == object.0
sets_tag env object (Disposed of) = same_environment of env
sets_tag env object _ = false

-- A tag changes only by a record of its own environment that sets it, or by the environment's end.
abbrev pub TagsStay : Type 0
TagsStay = (trace : Trace) (e : Entry) (env : EnvNo) (object : ObjNo) → sets_tag env object e.what ≡ false
    → tag (trace ++ e ∷ []) env object ≡ tag trace env object

-- no entry of these does so
abbrev pub NoneDoes : (Record → Bool) → Trace → Type 0
NoneDoes does entries = AllByRecursion (λ e. does e.what ≡ false) entries

-- A tag is the one that was set last. It is 0 from the environment's end on, and where none was set.
pub record TagsAsSet : Type 0 where
  pub set : (before after : Trace) (e : Entry) (env : EnvNo) (object : ObjNo) (new : ℤ) → e.what ≡ Tagged env object new
      → NoneDoes (sets_tag env object) after → tag (before ++ e ∷ after) env object ≡ new
  pub ended : (before after : Trace) (e : Entry) (env : EnvNo) (object : ObjNo) → e.what ≡ Disposed env → NoneDoes (sets_tag env object) after
      → tag (before ++ e ∷ after) env object ≡ pos 0
  pub unset : (trace : Trace) (env : EnvNo) (object : ObjNo) → NoneDoes (sets_tag env object) trace → tag trace env object ≡ pos 0

-- ---- masks

-- a record sets an event of an environment for a scope, takes the capability that the event needs, or ends the environment
abbrev pub sets_mode : EnvNo → EventKind → Scope → Record → Bool
sets_mode env kind scope (ModeSet of what for on) = same_environment of env && (is_same_event what kind && same_scope for scope)
sets_mode env kind scope (CapsChanged of caps) = same_environment of env && not (suffices caps kind)
sets_mode env kind scope (Disposed of) = same_environment of env
sets_mode env kind scope _ = false

-- A setting is what the last record that speaks of it says: what was set, or off by the loss of the capability or by the end. It is off
-- where no record speaks of it. An event is on for a thread where the setting for all or that of the thread is.
pub record MasksAsSet : Type 0 where
  pub set : (before after : Trace) (e : Entry) (env : EnvNo) (kind : EventKind) (scope : Scope) (on : Bool) → e.what ≡ ModeSet env kind scope on
      → NoneDoes (sets_mode env kind scope) after → setting (before ++ e ∷ after) env kind scope ≡ on
  pub lost : (before after : Trace) (e : Entry) (env : EnvNo) (kind : EventKind) (scope : Scope) (caps : List Capability)
      → e.what ≡ CapsChanged env caps → suffices caps kind ≡ false → NoneDoes (sets_mode env kind scope) after
      → setting (before ++ e ∷ after) env kind scope ≡ false
  pub ended : (before after : Trace) (e : Entry) (env : EnvNo) (kind : EventKind) (scope : Scope) → e.what ≡ Disposed env
      → NoneDoes (sets_mode env kind scope) after → setting (before ++ e ∷ after) env kind scope ≡ false
  pub unset : (trace : Trace) (env : EnvNo) (kind : EventKind) (scope : Scope) → NoneDoes (sets_mode env kind scope) trace
      → setting trace env kind scope ≡ false
  pub for_all : (trace : Trace) (env : EnvNo) (kind : EventKind) → mask trace env kind None ≡ setting trace env kind None
  pub for_thread : (trace : Trace) (env : EnvNo) (kind : EventKind) (t : ThreadNo)
      → mask trace env kind (Some t) ≡ (setting trace env kind None || setting trace env kind (Some t))

-- ---- logs

-- What may put a line into an environment's log: an event that the environment is told of, its own turn, or its own reply.
abbrev pub MayBeLogged : Trace → EnvNo → Record → Type 0
MayBeLogged before env (Raised event) = is_addressed before env event ≡ true
MayBeLogged before env (Turned of class set k n has_changed) = same_environment of env ≡ true
MayBeLogged before env (Replied of call code values) = same_environment of env ≡ true
MayBeLogged before env _ = ⊥

-- A log goes on by the line of the record that was added, if it has one. What may be logged has one, and nothing else has.
pub record LogsGrow : Type 0 where
  pub grown : (job : Job) (trace : Trace) (e : Entry) (env : EnvNo) → log job (trace ++ e ∷ []) env ≡ log job trace env ++ line_of job trace env e
  pub only : (job : Job) (trace : Trace) (what : Record) (env : EnvNo) (text : List ℕ) → line_text job trace env what ≡ Some text
      → MayBeLogged trace env what
  pub all : (job : Job) (trace : Trace) (what : Record) (env : EnvNo) → MayBeLogged trace env what → IsSome (line_text job trace env what)

-- ---- calls

-- A call has an object exactly where its row names one. Where another number takes its place, the call stays what it is, and has that one.
pub record ObjectsAreGiven : Type 0 where
  pub named : (call : Call) → is_some (object_given call) ≡ takes_object (kind_of_call call)
  pub replaced : (made : ℕ → ℕ) (call : Call) → object_given (with_object made call) ≡ option_map made (object_given call)
  pub same_call : (made : ℕ → ℕ) (call : Call) → kind_of_call (with_object made call) ≡ kind_of_call call
