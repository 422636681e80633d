-- The log of an environment, as the trace has it: its events, its turns and its replies. A line begins with the number of the step.
use Rattle.std.specs.Prelude.{ℕ, ◌/◌, ◌%◌, Bool, true, false, ◌&&◌, ◌==◌, List, [], ◌∷◌, ◌++◌, length, take, map, flat_map}
use Rattle.std.specs.Prelude.{Option, Some, None, codes, decimal, if◌then◌else◌}
use Rattle.std.specs.List.{list_any}
use Rattle.std.specs.Fmt.{signed_decimal}
use Rattle.ti_ids.specs.declared.number.ThreadNo.{ThreadNo}
use Rattle.ti_ids.specs.declared.number.EnvNo.{EnvNo}
use Rattle.ti_codes.specs.declared.call.CallKind.{CallKind}
use Rattle.ti_codes.specs.declared.error.ErrorCode.{ErrorCode}
use Rattle.ti_codes.specs.declared.event.EventKind.TheVariants as kinds
use Rattle.ti_codes.specs.Events.{event_name}
use Rattle.ti_codes.specs.Errors.{error_number}
use Rattle.ti_codes.specs.Calls.{call_name}
use Rattle.jv_names.specs.Names.{Name, printed, hex_digit}
use Rattle.agent_types.specs.declared.agent.Agent as agent_type
use Rattle.agent_types.specs.declared.agent.AgentKind.{AgentKind}
use Rattle.agent_types.specs.declared.agent.AgentKind.TheVariants.{Native, Java}
use Rattle.machine_state.specs.Jobs.{Job, agent_at}
use Rattle.machine_state.specs.Trace.{Event, FramePop, Item, Number, Text, Bytes, Numbers, Texts, Reply}
use Rattle.machine_state.specs.Trace.{Record, Entry, Trace, PopAsked, Turned, Raised, Replied}
use Rattle.machine_state.specs.Events.{Told, told_by, thread_of, item_of}
use Rattle.machine_state.specs.Environments.{same_environment, mask}

-- ---- which environments are told of an event

-- an environment asked for the pop of a thread's frame of this birth
abbrev pub asks : EnvNo → ThreadNo → ℕ → Record → Bool
asks env t birth (PopAsked of thread depth born) = same_environment of env && thread.0 == t.0 && born == birth
asks env t birth _ = false

abbrev pub was_asked : Trace → EnvNo → Event → Bool
was_asked trace env (FramePop t method leaving birth) = list_any (λ e. asks env t birth e.what) trace
was_asked trace env event = true

abbrev pub is_on : Trace → EnvNo → Told → Bool
is_on trace env told = mask trace env told.kind (thread_of told)

-- the event is on for the environment, and a FramePop was asked for
abbrev pub is_addressed : Trace → EnvNo → Event → Bool
is_addressed trace env event = is_on trace env (told_by event) && was_asked trace env event

-- ---- lines

-- texts with one space before each
abbrev pub spaced : List (List ℕ) → List ℕ
spaced [] = []
spaced (text ∷ texts) = codes " " ++ text ++ spaced texts

-- two lower-case hexadecimal digits
abbrev pub hex_byte : ℕ → List ℕ
hex_byte byte = hex_digit (byte / 16) ∷ hex_digit (byte % 16) ∷ []

-- how many items of a list, or bytes of a code, a line shows
abbrev pub shown : ℕ
shown = 20

-- How an item is printed: bytes by their number and the first of them, a list by its length and its first items. Here texts are escaped.
abbrev pub item_texts : Item → List (List ℕ)
item_texts (Number n) = signed_decimal n ∷ []
item_texts (Text units) = printed units ∷ []
item_texts (Bytes bytes) = decimal (length bytes) ∷ flat_map hex_byte (take shown bytes) ∷ []
item_texts (Numbers ns) = decimal (length ns) ∷ map signed_decimal (take shown ns)
item_texts (Texts texts) = decimal (length texts) ∷ map printed (take shown texts)

abbrev pub told_line : Told → List ℕ
told_line told = event_name told.kind ++ spaced (flat_map (λ part. item_texts (item_of part)) told.parts)

abbrev pub event_line : Event → List ℕ
event_line event = told_line (told_by event)

abbrev pub reply_line : CallKind → ErrorCode → Reply → List ℕ
reply_line call code items = call_name call ++ spaced (decimal (error_number code) ∷ flat_map item_texts items)

-- a set by its name; `-` stands for none
abbrev pub set_text : Option Name → List ℕ
set_text None = codes "-"
set_text (Some set) = printed set

-- a turn is a hook's event in a native environment, and in one of `java.lang.instrument` the turn of a transformer
abbrev pub turn_name_in : AgentKind → List ℕ
turn_name_in Native = event_name kinds.ClassFileLoadHook
turn_name_in Java = codes "Transform"

abbrev pub turn_name : Option agent_type.Agent → List ℕ
turn_name None = []
turn_name (Some agent) = turn_name_in agent.kind

abbrev pub changed_text : Bool → List ℕ
changed_text true = codes "changed"
changed_text false = codes "kept"

abbrev pub turn_line : Option agent_type.Agent → Name → Option Name → ℕ → ℕ → Bool → List ℕ
turn_line agent class set k n changed =
    turn_name agent ++ spaced (printed class ∷ set_text set ∷ (decimal k ++ codes "/" ++ decimal n) ∷ changed_text changed ∷ [])

-- ---- the log

-- the line of a record behind these in an environment's log, if it has one
abbrev pub line_text : Job → Trace → EnvNo → Record → Option (List ℕ)
line_text job before env (Raised event) = if is_addressed before env event then Some (event_line event) else None
line_text job before env (Turned of class set k n changed) =
    if same_environment of env then Some (turn_line (agent_at job of) class set k n changed) else None
line_text job before env (Replied of call code values) = if same_environment of env then Some (reply_line call code values) else None
line_text job before env _ = None

abbrev pub line_of : Job → Trace → EnvNo → Entry → List (List ℕ)
line_of job before env e = elim (line_text job before env e.what) [ None ↦ [] | Some text ↦ (decimal e.step ++ codes " " ++ text) ∷ [] ]

abbrev pub log_from : Job → Trace → EnvNo → Trace → List (List ℕ)
log_from job before env [] = []
log_from job before env (e ∷ rest) = line_of job before env e ++ log_from job (before ++ e ∷ []) env rest

abbrev pub log : Job → Trace → EnvNo → List (List ℕ)
log job trace env = log_from job [] env trace
