-- What a run is given: class files, agents and limits.
use Rattle.std.specs.Prelude.{ℕ, List, zero, suc, Option, None, slice_get, find, bytes_eq, option_map}
use Rattle.ti_ids.specs.declared.number.EnvNo.{EnvNo}
use Rattle.ti_ids.specs.declared.limits.Limits.{Limits}
use Rattle.jv_names.specs.Names.{Name}
use Rattle.agent_types.specs.declared.agent.Agent.{Agent}

-- ---- jobs

-- a class file that was accepted: the name of its class, and its bytes
pub record File : Type 0 where
  pub name : Name
  pub bytes : List ℕ

pub record Job : Type 0 where
  -- the class of which `main` is run
  pub main : Name
  -- no two have one name, and none has a base class's
  pub files : List File
  -- bytes that rules and redefinitions take, number 1 first
  pub donors : List (List ℕ)
  -- environment 1 first
  pub agents : List Agent
  pub limits : Limits

-- the bytes of the file of a class
abbrev pub bytes_of : Job → Name → Option (List ℕ)
bytes_of job name = option_map (λ f. f.bytes) (find (λ f. bytes_eq f.name name) job.files)

-- what has a number, counted from 1
abbrev pub at_number : {A : Type 0} → List A → ℕ → Option A
at_number list zero = None
at_number list (suc place) = slice_get list place

abbrev pub agent_at : Job → EnvNo → Option Agent
agent_at job env = at_number job.agents env.0
