-- What is to be run.
use Rattle.std.specs.Prelude.{◌≤◌, ℕ, ℤ, List, Option, Some, None, Bool, false, bytes_eq, find}
use Rattle.ti_ids.specs.declared.limits.Limits.{Limits}
use Rattle.ti_codes.specs.declared.call.CallKind.{CallKind}
use Rattle.jv_names.specs.Names.{Name}
use Rattle.ti_ids.specs.Maybe.{◌>>=◌}
use Rattle.first_form.specs.ClassFiles.{ClassFile, tree_of}
use Rattle.first_form.specs.Reading.{class_of}

-- what a tool call is given
pub data Argument : Type 0 where
  Number : ℤ → Argument
  Numbers : List ℤ → Argument
  Text : Name → Argument
  Texts : List Name → Argument
  Switch : Bool → Argument

-- a tool call, with its arguments in their order
pub record Call : Type 0 where
  pub kind : CallKind
  pub arguments : List Argument

-- an agent: its name, the calls that it makes at load, and those of its script. No job has one yet; what else an agent's file says comes with the first.
pub record Agent : Type 0 where
  pub name : List ℕ
  pub load : List Call
  pub script : List Call

-- the main class's name, the bytes of the class files and the donors, the agents and the limits
pub record Job : Type 0 where
  pub main : Name
  pub classes : List (List ℕ)
  pub donors : List (List ℕ)
  pub agents : List Agent
  pub limits : Limits

-- each limit is in its range; steps, lines of logs, bytes of output, heap words, steps in a row
pub record AreInRange (limits : Limits) : Type 0 where
  pub some_steps : 1 ≤ limits.steps
  pub few_steps : limits.steps ≤ 4000000
  pub some_lines : 1 ≤ limits.lines
  pub few_lines : limits.lines ≤ 100000
  pub some_output : 1 ≤ limits.output
  pub little_output : limits.output ≤ 16777216
  pub some_heap : 64 ≤ limits.heap
  pub small_heap : limits.heap ≤ 16000000
  pub some_slice : 1 ≤ limits.slice
  pub short_slice : limits.slice ≤ 1000000

-- the bytes are a class file of that name
abbrev pub is_file_of : Name → List ℕ → Bool
is_file_of name bytes = elim (class_of bytes) [ None ↦ false | Some c ↦ bytes_eq c.name name ]

-- the first class file of that name
abbrev pub file_of : Job → Name → Option (List ℕ)
file_of job name = find (is_file_of name) job.classes

-- the tree of the main class's file
abbrev pub main_tree : Job → Option ClassFile
main_tree job = do
  bytes ← file_of job job.main
  c ← class_of bytes
  Some (tree_of c)
