-- What an agent's file says that has no fault.
use Rattle.std.specs.Prelude.{ℕ, ℤ, pos, negsuc, Bool, false, List, [], map, Option, Some, None, option_map, unwrap_or, bytes_eq, codes, Result, Ok, Err, if◌then◌else◌}
use Rattle.std.specs.List.{filter_map}
use Rattle.std.specs.Option.{option_map_or}
use Rattle.std.specs.Str.{is_utf8}
use Rattle.ti_ids.specs.Maybe.{◌>>=◌}
use Rattle.jv_names.specs.Names.{Name}
use Rattle.toml.specs.Data.{Data, string, integer, Members, get_member, as_str, as_integer, as_bool}
use Rattle.toml.specs.Parse.{parse_document}
use Rattle.ti_codes.specs.declared.capability.Capability.{Capability}
use Rattle.ti_codes.specs.declared.event.EventKind.{EventKind}
use Rattle.ti_codes.specs.declared.call.CallKind.{CallKind}
use Rattle.ti_codes.specs.declared.call.CallKind.TheVariants as calls
use Rattle.ti_codes.specs.Events.{event_number, event_of_name}
use Rattle.agent_types.specs.declared.agent.Agent as agent_type
use Rattle.agent_types.specs.declared.agent.AgentKind.{AgentKind}
use Rattle.agent_types.specs.declared.agent.AgentKind.TheVariants.{Native, Java}
use Rattle.agent_types.specs.declared.agent.Callback.{Callback}
use Rattle.agent_types.specs.declared.agent.ScriptCall.{ScriptCall}
use Rattle.agent_types.specs.declared.call.Call.{Call}
use Rattle.agent_types.specs.declared.call.Call.TheVariants as call
use Rattle.agent_types.specs.declared.rule.Edit.{Edit}
use Rattle.agent_types.specs.declared.rule.Edit.TheVariants as edits
use Rattle.agent_types.specs.declared.rule.Rule.{Rule}
use Rattle.job_words.specs.Options.{units_of}
use Rattle.job_words.specs.declared.agent_fault.AgentFault.{AgentFault}
use Rattle.job_words.specs.declared.agent_fault.AgentFault.TheVariants.{Syntax}
use Rattle.rule_file.specs.Keys.{RuleKind, File, Body, Add, Entry, Redirect, Constant, items_of, capability_of_name, rule_named, call_named, has_place}
use Rattle.rule_file.specs.Faults.{tables_in, sets_in, document_fault}

-- ---- the values of keys. What is missing, or of another kind, is read as nothing: a file with such a fault says no agent.

abbrev pub texts_in : List Data → List (List ℕ)
texts_in ds = filter_map as_str ds

abbrev pub natural : ℤ → ℕ
natural (pos n) = n
natural (negsuc n) = 0

module _ (ms : Members) where
  abbrev pub bytes_at : List ℕ → List ℕ
  bytes_at name = unwrap_or (get_member name ms >>= as_str) []

  abbrev pub text_at : List ℕ → Name
  text_at name = units_of (bytes_at name)

  abbrev pub text_if : List ℕ → Option Name
  text_if name = option_map units_of (get_member name ms >>= as_str)

  abbrev pub int_if : List ℕ → Option ℤ
  int_if name = get_member name ms >>= as_integer

  abbrev pub int_at : List ℕ → ℤ
  int_at name = unwrap_or (int_if name) (pos 0)

  abbrev pub number_if : List ℕ → Option ℕ
  number_if name = option_map natural (int_if name)

  abbrev pub number_at : List ℕ → ℕ
  number_at name = natural (int_at name)

  abbrev pub truth_at : List ℕ → Bool
  truth_at name = unwrap_or (get_member name ms >>= as_bool) false

  abbrev pub items_at : List ℕ → List Data
  items_at name = unwrap_or (get_member name ms >>= items_of) []

  abbrev pub texts_at : List ℕ → List Name
  texts_at name = map units_of (texts_in (items_at name))

  abbrev pub ints_at : List ℕ → List ℤ
  ints_at name = filter_map as_integer (items_at name)

  abbrev pub capabilities_at : List ℕ → List Capability
  capabilities_at name = filter_map capability_of_name (texts_in (items_at name))

  -- an event by its name, or by any number
  abbrev pub event_in : Data → ℕ
  event_in (string name) = option_map_or event_number (event_of_name name) 0
  event_in (integer z) = natural z
  event_in d = 0

  abbrev pub event_at : ℕ
  event_at = option_map_or event_in (get_member (codes "event") ms) 0

  -- ---- calls

  abbrev pub class : Name
  class = text_at (codes "class")

  abbrev pub method : Name
  method = text_at (codes "method")

  abbrev pub desc : Name
  desc = text_at (codes "desc")

  abbrev pub thread : ℕ
  thread = number_at (codes "thread")

  abbrev pub call_said : CallKind → Call
  call_said calls.AddCapabilities = call.AddCapabilities (capabilities_at (codes "caps"))
  call_said calls.RelinquishCapabilities = call.RelinquishCapabilities (capabilities_at (codes "caps"))
  call_said calls.SetEventNotificationMode = call.SetEventNotificationMode (truth_at (codes "on")) event_at (number_if (codes "thread"))
  call_said calls.SetBreakpoint = call.SetBreakpoint class method desc (number_at (codes "at"))
  call_said calls.ClearBreakpoint = call.ClearBreakpoint class method desc (number_at (codes "at"))
  call_said calls.SetFieldAccessWatch = call.SetFieldAccessWatch class (text_at (codes "field"))
  call_said calls.ClearFieldAccessWatch = call.ClearFieldAccessWatch class (text_at (codes "field"))
  call_said calls.SetFieldModificationWatch = call.SetFieldModificationWatch class (text_at (codes "field"))
  call_said calls.ClearFieldModificationWatch = call.ClearFieldModificationWatch class (text_at (codes "field"))
  call_said calls.SetTag = call.SetTag (number_at (codes "object")) (int_at (codes "tag"))
  call_said calls.GetTag = call.GetTag (number_at (codes "object"))
  call_said calls.GetObjectsWithTags = call.GetObjectsWithTags (ints_at (codes "tags"))
  call_said calls.IterateThroughHeap =
      call.IterateThroughHeap (number_at (codes "filter")) (text_if (codes "class")) (int_if (codes "write"))
  call_said calls.SuspendThread = call.SuspendThread thread
  call_said calls.ResumeThread = call.ResumeThread thread
  call_said calls.GetThreadState = call.GetThreadState thread
  call_said calls.GetAllThreads = call.GetAllThreads
  call_said calls.GetFrameCount = call.GetFrameCount thread
  call_said calls.GetStackTrace = call.GetStackTrace thread
  call_said calls.NotifyFramePop = call.NotifyFramePop thread (number_at (codes "depth"))
  call_said calls.GetLoadedClasses = call.GetLoadedClasses
  call_said calls.GetClassStatus = call.GetClassStatus class
  call_said calls.GetBytecodes = call.GetBytecodes class method desc
  call_said calls.RedefineClasses = call.RedefineClasses (texts_at (codes "classes")) (map natural (ints_at (codes "donors")))
  call_said calls.RetransformClasses = call.RetransformClasses (texts_at (codes "classes"))
  call_said calls.UseRules = call.UseRules (text_at (codes "set"))
  call_said calls.AddTransformer = call.AddTransformer (text_at (codes "set")) (truth_at (codes "capable"))
  call_said calls.RemoveTransformer = call.RemoveTransformer (text_at (codes "set")) (truth_at (codes "capable"))
  call_said calls.GetPhase = call.GetPhase
  call_said calls.DisposeEnvironment = call.DisposeEnvironment

  abbrev pub call_in : Option Call
  call_in = option_map call_said (call_named ms)

  -- the `at` of a breakpoint's call is the place alone
  abbrev pub script_at : CallKind → ℕ
  script_at kind = if has_place kind then 0 else number_at (codes "at")

  abbrev pub script_call_in : Option ScriptCall
  script_call_in = option_map (λ kind. record { at = script_at kind; call = call_said kind }) (call_named ms)

  -- ---- rules

  abbrev pub edit_said : RuleKind → Edit
  edit_said File = edits.File (number_at (codes "donor"))
  edit_said Body = edits.Body method desc (number_at (codes "donor"))
  edit_said Add = edits.Add method desc (number_at (codes "donor"))
  edit_said Entry = edits.Entry method desc (text_at (codes "to_class")) (text_at (codes "to_method"))
  edit_said Redirect =
      edits.Redirect (text_at (codes "from_class")) (text_at (codes "from_method")) desc (text_at (codes "to_class")) (text_at (codes "to_method"))
  edit_said Constant = edits.Constant method desc (int_at (codes "from")) (int_at (codes "to"))

  abbrev pub rule_in : Option Rule
  rule_in = option_map (λ kind. record { set = text_at (codes "set"); class = class; edit = edit_said kind }) (rule_named ms)

  -- ---- the kind of the agent

  abbrev pub kind_said : AgentKind
  kind_said = if bytes_eq (bytes_at (codes "kind")) (codes "java") then Java else Native

-- ---- callbacks

abbrev pub callback_of : Members → EventKind → Callback
callback_of ms kind = record {
  event = kind;
  class = text_if ms (codes "class");
  thread = number_if ms (codes "thread");
  calls = filter_map call_in (tables_in (codes "calls") ms);
}

abbrev pub callback_in : Members → Option Callback
callback_in ms = option_map (callback_of ms) (get_member (codes "event") ms >>= as_str >>= event_of_name)

-- ---- the agent

abbrev pub agent_said : Members → agent_type.Agent
agent_said ms = record {
  name = bytes_at ms (codes "name");
  kind = kind_said ms;
  sets = map units_of (sets_in ms);
  rules = filter_map rule_in (tables_in (codes "rule") ms);
  load = filter_map call_in (tables_in (codes "load") ms);
  script = filter_map script_call_in (tables_in (codes "script") ms);
  callbacks = filter_map callback_in (tables_in (codes "on") ms);
}

-- ---- a file of these bytes, where a job has so many donors

-- TOML is UTF-8
abbrev pub document_of : List ℕ → Option Members
document_of bytes = if is_utf8 bytes then parse_document bytes else None

abbrev pub said_by : ℕ → Members → Option AgentFault → Result agent_type.Agent AgentFault
said_by donors ms (Some fault) = Err fault
said_by donors ms None = Ok (agent_said ms)

abbrev pub read_agent : List ℕ → ℕ → Result agent_type.Agent AgentFault
read_agent bytes donors = elim (document_of bytes) [ None ↦ Err Syntax | Some ms ↦ said_by donors ms (document_fault donors ms) ]
