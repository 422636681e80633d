-- Agents' files, and what they say: one with all lists, and for each fault files that have it.
use Rattle.std.specs.Prelude.{◌≡◌, ℕ, pos, true, List, [], ◌∷◌, ◌++◌, None, flat_map, codes, replicate, Result, Ok, Err}
use Rattle.std.specs.List.{AllByRecursion, concat}
use Rattle.ti_codes.specs.declared.capability.Capability.TheVariants as capabilities
use Rattle.ti_codes.specs.declared.event.EventKind.TheVariants as events
use Rattle.ti_codes.specs.Events.{event_number}
use Rattle.agent_types.specs.declared.agent.Agent as agent_type
use Rattle.agent_types.specs.declared.agent.AgentKind.TheVariants.{Native}
use Rattle.agent_types.specs.declared.call.Call.TheVariants as call
use Rattle.agent_types.specs.declared.rule.Edit.TheVariants as edits
use Rattle.job_words.specs.declared.agent_fault.AgentFault.{AgentFault}
use Rattle.job_words.specs.declared.agent_fault.AgentFault.TheVariants as faults
use Rattle.rule_file.specs.Saying.{read_agent}

abbrev pub lines : List (List ℕ) → List ℕ
lines texts = flat_map (λ text. text ++ 10 ∷ []) texts

-- ---- an agent that retransforms a class while it runs

abbrev pub one_text : List ℕ
one_text = lines (
    codes "name = \"one\""
    ∷ codes "kind = \"native\""
    ∷ codes "set = [{ name = \"nine\" }, { name = \"plain\" }]"
    ∷ codes "load = ["
    ∷ codes "  { call = \"AddCapabilities\", caps = [\"retransform\", \"breakpoint\"] },"
    ∷ codes "  { call = \"SetEventNotificationMode\", event = \"ClassFileLoadHook\", on = true },"
    ∷ codes "  { call = \"SetEventNotificationMode\", event = \"ClassPrepare\", on = true },"
    ∷ codes "  { call = \"SetEventNotificationMode\", event = \"Breakpoint\", on = true } ]"
    ∷ codes "[[rule]]"
    ∷ codes "set = \"nine\""
    ∷ codes "kind = \"constant\""
    ∷ codes "class = \"Loop\""
    ∷ codes "method = \"f\""
    ∷ codes "desc = \"()V\""
    ∷ codes "from = 7"
    ∷ codes "to = 9"
    ∷ codes "[[on]]"
    ∷ codes "event = \"ClassPrepare\""
    ∷ codes "calls = [{ call = \"SetBreakpoint\", class = \"Loop\", method = \"f\", desc = \"()V\", at = 0 }]"
    ∷ codes "[[on]]"
    ∷ codes "event = \"Breakpoint\""
    ∷ codes "calls = [{ call = \"UseRules\", set = \"nine\" }, { call = \"RetransformClasses\", classes = [\"Loop\"] }]"
    ∷ [])

abbrev pub one : agent_type.Agent
one = record {
  name = codes "one";
  kind = Native;
  sets = codes "nine" ∷ codes "plain" ∷ [];
  rules = record { set = codes "nine"; class = codes "Loop"; edit = edits.Constant (codes "f") (codes "()V") (pos 7) (pos 9) } ∷ [];
  load =
      call.AddCapabilities (capabilities.Retransform ∷ capabilities.Breakpoint ∷ [])
      ∷ call.SetEventNotificationMode true (event_number events.ClassFileLoadHook) None
      ∷ call.SetEventNotificationMode true (event_number events.ClassPrepare) None
      ∷ call.SetEventNotificationMode true (event_number events.Breakpoint) None
      ∷ [];
  script = [];
  callbacks =
      record { event = events.ClassPrepare; class = None; thread = None; calls = call.SetBreakpoint (codes "Loop") (codes "f") (codes "()V") 0 ∷ [] }
      ∷ record { event = events.Breakpoint; class = None; thread = None; calls = call.UseRules (codes "nine") ∷ call.RetransformClasses (codes "Loop" ∷ []) ∷ [] }
      ∷ [];
}

abbrev pub SaysOne : Type 0
SaysOne = ◌≡◌ {A = Result agent_type.Agent AgentFault} (read_agent one_text 0) (Ok one)

-- ---- faults

-- a file that has one, in a job of one donor
pub record Case : Type 0 where
  pub text : List ℕ
  pub fault : AgentFault

abbrev pub IsRefused : Case → Type 0
IsRefused c = ◌≡◌ {A = Result agent_type.Agent AgentFault} (read_agent c.text 1) (Err c.fault)

-- an agent with these lines besides
abbrev pub named : List (List ℕ) → List ℕ
named more = lines (codes "name = \"a\"" ∷ codes "kind = \"native\"" ∷ more)

abbrev pub with_line : List ℕ → AgentFault → Case
with_line more fault = record { text = named (more ∷ []); fault = fault }

-- a list of so many empty tables, of this key
abbrev pub many : List ℕ → ℕ → List ℕ
many key n = key ++ codes " = [" ++ concat (replicate n (codes "{},")) ++ codes "]"

-- of the top table
abbrev pub top_cases : List Case
top_cases =
    record { text = codes "name = "; fault = faults.Syntax }
    ∷ record { text = lines (codes "zz = 1" ∷ codes "aa = 1" ∷ []); fault = faults.Unknown (codes "aa") }
    ∷ record { text = lines (codes "kind = \"java\"" ∷ []); fault = faults.Missing (codes "name") }
    ∷ record { text = lines (codes "name = \"a\"" ∷ codes "kind = \"jvm\"" ∷ []); fault = faults.Kind (codes "kind") }
    ∷ record { text = lines (codes "name = \"a b\"" ∷ codes "kind = \"jvm\"" ∷ []); fault = faults.Kind (codes "name") }
    ∷ with_line (many (codes "set") 65) (faults.TooMany (codes "set"))
    ∷ with_line (many (codes "load") 65) (faults.TooMany (codes "load"))
    ∷ with_line (many (codes "rule") 257) (faults.TooMany (codes "rule"))
    ∷ with_line (many (codes "script") 1025) (faults.TooMany (codes "script"))
    ∷ with_line (many (codes "on") 65) (faults.TooMany (codes "on"))
    ∷ []

-- of sets and of rules
abbrev pub rule_cases : List Case
rule_cases =
    with_line (codes "set = [{ name = \"x\", zz = 1 }]") (faults.Unknown (codes "zz"))
    ∷ with_line (codes "set = [{}]") (faults.Missing (codes "name"))
    ∷ with_line (codes "set = [{ name = \"x\" }, { name = \"x\" }]") (faults.Kind (codes "name"))
    ∷ with_line (codes "rule = [{ kind = \"file\", donor = 2, zz = 1 }]") (faults.Unknown (codes "zz"))
    ∷ with_line (codes "rule = [{ kind = \"file\", donor = 2 }]") (faults.Missing (codes "set"))
    ∷ with_line (codes "rule = [{ zz = 1 }]") (faults.Missing (codes "kind"))
    ∷ with_line (codes "rule = [{ set = \"x\", kind = \"no\" }]") (faults.Kind (codes "set"))
    ∷ with_line (codes "set = [{ name = \"x\" }]\nrule = [{ set = \"x\", kind = \"file\", class = \"A\", donor = 2 }]") (faults.Kind (codes "donor"))
    ∷ []

-- a rule of this kind, with these keys besides those that every rule has
abbrev pub with_rule : List ℕ → AgentFault → Case
with_rule own = with_line (codes "set = [{ name = \"x\" }]\nrule = [{ set = \"x\", class = \"A\", kind = " ++ own ++ codes " }]")

-- of each kind of rule, and a number past those that an int has
abbrev pub kind_cases : List Case
kind_cases =
    with_rule (codes "\"file\"") (faults.Missing (codes "donor"))
    ∷ with_rule (codes "\"body\", method = \"f\", desc = \"()V\"") (faults.Missing (codes "donor"))
    ∷ with_rule (codes "\"add\", donor = 1") (faults.Missing (codes "method"))
    ∷ with_rule (codes "\"entry\", method = \"f\", desc = \"()V\"") (faults.Missing (codes "to_class"))
    ∷ with_rule (codes "\"redirect\", desc = \"()V\"") (faults.Missing (codes "from_class"))
    ∷ with_rule (codes "\"constant\", method = \"f\", desc = \"()V\", from = 1") (faults.Missing (codes "to"))
    ∷ with_rule (codes "\"constant\", method = \"f\", desc = \"()V\", from = 1, to = 2147483648") (faults.Kind (codes "to"))
    ∷ []

-- of calls at load, of calls of a script, of callbacks and of their calls
abbrev pub call_cases : List Case
call_cases =
    with_line (codes "load = [{ call = \"GetPhase\", zz = 1 }]") (faults.Unknown (codes "zz"))
    ∷ with_line (codes "load = [{ call = \"SetTag\", tag = 1 }]") (faults.Missing (codes "object"))
    ∷ with_line (codes "load = [{ call = \"Get\", zz = 1 }]") (faults.Kind (codes "call"))
    ∷ with_line (codes "load = [{ call = \"RedefineClasses\", classes = [\"A\"], donors = [2] }]") (faults.Kind (codes "donors"))
    ∷ with_line (codes "script = [{ call = \"GetPhase\", zz = 1, at = 1 }]") (faults.Unknown (codes "zz"))
    ∷ with_line (codes "script = [{ at = 1 }]") (faults.Missing (codes "call"))
    ∷ with_line (codes "script = [{ call = \"GetPhase\", at = 4294967296 }]") (faults.Kind (codes "at"))
    ∷ with_line (codes "on = [{ event = \"VMInit\", zz = 1 }]") (faults.Unknown (codes "zz"))
    ∷ with_line (codes "on = [{ event = \"VMInit\" }]") (faults.Missing (codes "calls"))
    ∷ with_line (codes "on = [{ event = \"VMInit\", calls = [] }]") (faults.Kind (codes "calls"))
    ∷ with_line (codes "on = [{ event = \"VMInit\", " ++ many (codes "calls") 17 ++ codes " }]") (faults.TooMany (codes "calls"))
    ∷ with_line (codes "on = [{ event = \"VMInit\", calls = [{ call = \"GetPhase\", at = 1 }] }]") (faults.Unknown (codes "at"))
    ∷ with_line (codes "on = [{ event = \"VMInit\", calls = [{ call = \"SetTag\", tag = 1 }] }]") (faults.Missing (codes "object"))
    ∷ with_line (codes "on = [{ event = \"VMInit\", calls = [{ call = \"Get\" }] }]") (faults.Kind (codes "call"))
    ∷ []

pub record FaultsTold : Type 0 where
  pub top : AllByRecursion IsRefused top_cases
  pub rules : AllByRecursion IsRefused rule_cases
  pub kinds : AllByRecursion IsRefused kind_cases
  pub calls : AllByRecursion IsRefused call_cases
