-- The limits of what a call is given, and the lines of refusals.
use Rattle.std.specs.Prelude.{ℕ, List, ◌∷◌, ◌++◌, Bool, true, false, codes, decimal}
use Rattle.jv_names.specs.Names.{printed}
use Rattle.classfile_items.specs.FaultTexts.{fault_text}
use Rattle.report_text.specs.Texts.{line}
use Rattle.job_words.specs.declared.input_limit.InputLimit.{InputLimit}
use Rattle.job_words.specs.declared.input_limit.InputLimit.TheVariants.{Classes, Donors, Agents, ClassBytes, AgentBytes, ScheduleBytes, TotalBytes}
use Rattle.job_words.specs.declared.agent_fault.AgentFault.{AgentFault}
use Rattle.job_words.specs.declared.agent_fault.AgentFault.TheVariants.{Syntax, Missing, Unknown, Kind, TooMany}
use Rattle.job_words.specs.declared.refusal.Refusal.{Refusal}
use Rattle.job_words.specs.declared.refusal.Refusal.TheVariants.{Usage, Absent, ReadFault, TooLarge, BadClass, BadAgent, BadText, BadEntry}

-- how many there may be
abbrev pub most : InputLimit → ℕ
most Classes = 256
most Donors = 64
most Agents = 16
most ClassBytes = 1048576
most AgentBytes = 65536
most ScheduleBytes = 134217728
most TotalBytes = 33554432

-- ---- lines

abbrev pub limit_text : InputLimit → List ℕ
limit_text Classes = codes "classes"
limit_text Donors = codes "donors"
limit_text Agents = codes "agents"
limit_text ClassBytes = codes "class-bytes"
limit_text AgentBytes = codes "agent-bytes"
limit_text ScheduleBytes = codes "schedule-bytes"
limit_text TotalBytes = codes "total-bytes"

-- words behind each other, with a space between two
abbrev pub spaced : List ℕ → List ℕ → List ℕ
spaced front back = front ++ 32 ∷ back

abbrev pub agent_fault_text : AgentFault → List ℕ
agent_fault_text Syntax = codes "syntax"
agent_fault_text (Missing key) = spaced (codes "missing") (printed key)
agent_fault_text (Unknown key) = spaced (codes "unknown") (printed key)
agent_fault_text (Kind key) = spaced (codes "kind") (printed key)
agent_fault_text (TooMany key) = spaced (codes "too-many") (printed key)

abbrev pub cause_text : Refusal → List ℕ
cause_text Usage = codes "usage"
cause_text (Absent place) = spaced (codes "absent") (decimal place)
cause_text (ReadFault place) = spaced (codes "read") (decimal place)
cause_text (TooLarge limit n) = spaced (codes "too-large") (spaced (limit_text limit) (decimal n))
cause_text (BadClass place fault) = spaced (codes "class") (spaced (decimal place) (fault_text fault))
cause_text (BadAgent place fault) = spaced (codes "agent") (spaced (decimal place) (agent_fault_text fault))
cause_text BadText = codes "schedule text"
cause_text (BadEntry before) = spaced (codes "schedule") (decimal before)

-- the line of a refusal
abbrev pub refusal_text : Refusal → List ℕ
refusal_text refusal = line (spaced (codes "refused") (cause_text refusal))

-- ---- keys

-- whether the fault is told with a key, which may be of any length
abbrev pub has_key : AgentFault → Bool
has_key Syntax = false
has_key _ = true

-- whether the line of the refusal has the key of an agent file
abbrev pub names_key : Refusal → Bool
names_key (BadAgent place fault) = has_key fault
names_key _ = false
