-- Calls that are refused for a fault of an agent file, whatever reads these files.
use Rattle.std.specs.Prelude.{◌≡◌, ℕ, List, [], ◌∷◌, ◌++◌, Some, codes, Result, Err}
use Rattle.agent_types.specs.declared.agent.Agent.{Agent}
use Rattle.job_words.specs.Options.{Word}
use Rattle.job_words.specs.declared.agent_fault.AgentFault.{AgentFault}
use Rattle.job_words.specs.declared.agent_fault.AgentFault.TheVariants.{Syntax, Missing, Unknown, Kind, TooMany}
use Rattle.job_words.specs.Fetches.{Files}
use Rattle.machine_steps.specs.World.{AgentReading}
use Rattle.machine_steps.specs.Results.{result_of}
use Rattle.machine_rows.specs.RefusedRows.{line_of, stored, file, run_add, class, each, whole}

-- an agent file, and two calls with it: without a donor, and with two
abbrev pub agent_text : List ℕ
agent_text = codes "kind = \"native\"\n"

abbrev pub with_agent : List Word
with_agent = run_add ++ (each (codes "--agent") (codes "a.toml" ∷ []) ++ class (codes "Add.class"))

abbrev pub with_donors : List Word
with_donors = with_agent ++ each (codes "--donor") (codes "Add.class" ∷ codes "Add.class" ∷ [])

abbrev pub agent_files : Files
agent_files = stored (whole ++ file (codes "a.toml") agent_text)

-- Where a reader finds this fault in the file, being told of so many donors, the words are refused with this line.
abbrev pub IsAgentRefused : List Word → ℕ → AgentFault → List ℕ → Type 0
IsAgentRefused words donors fault text =
    (read_agent : AgentReading) → read_agent agent_text donors ≡ Err fault → line_of (result_of read_agent words agent_files) ≡ Some text

pub record AgentsRefused : Type 0 where
  pub no_toml : IsAgentRefused with_agent 0 Syntax (codes "refused agent 1 syntax\n")
  pub without_name : IsAgentRefused with_agent 0 (Missing (codes "name")) (codes "refused agent 1 missing name\n")
  -- a key is printed as a name is
  pub unknown_key : IsAgentRefused with_agent 0 (Unknown (codes "é x")) (codes "refused agent 1 unknown \\u00e9\\u0020x\n")
  pub other_kind : IsAgentRefused with_agent 0 (Kind (codes "kind")) (codes "refused agent 1 kind kind\n")
  pub too_many : IsAgentRefused with_agent 0 (TooMany (codes "load")) (codes "refused agent 1 too-many load\n")
  -- the reader is told of the number of donors
  pub donors_told : IsAgentRefused with_donors 2 Syntax (codes "refused agent 1 syntax\n")
