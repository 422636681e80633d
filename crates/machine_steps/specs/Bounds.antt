-- What accepted words and files are: each number is bounded by the option that gives it, and so are the numbers of files; each class file is
-- of a class of its own.
use Rattle.std.specs.Prelude.{◌≡◌, ℕ, ◌≤◌, Bool, true, false, ◌&&◌, nat_le, List, length, find, map, Some, bytes_eq, codes, Result, Ok}
use Rattle.std.specs.List.{AllByRecursion, IsDistinct}
use Rattle.std.specs.Option.{option_map_or}
use Rattle.class_tree.specs.Trees.{Tree}
use Rattle.machine_state.specs.Linked.{tree_of}
use Rattle.base_set.specs.BaseSet.{is_base}
use Rattle.machine_state.specs.Jobs.{File, Job}
use Rattle.job_words.specs.Contents.{own_name}
use Rattle.machine_steps.specs.World.{AgentReading}
use Rattle.job_words.specs.declared.input_limit.InputLimit.TheVariants.{Classes, Donors, Agents}
use Rattle.job_words.specs.Options.{Word, Form, ClassName, FileName, NumberIn, choices}
use Rattle.job_words.specs.Refusals.{most}
use Rattle.job_words.specs.Fetches.{Files}
use Rattle.machine_steps.specs.Results.{Task, RunTask, ReplayTask, MakeTask, result_of}

abbrev pub has_number : Form → ℕ → Bool
has_number ClassName n = false
has_number FileName n = false
has_number (NumberIn least most) n = nat_le least n && nat_le n most

-- the option may have this number
abbrev pub allows : Word → ℕ → Bool
allows option n = option_map_or (λ choice. has_number choice.form n) (find (λ choice. bytes_eq choice.name option) choices) false

-- what its world knows of a job (the slice is no part of that) is within its bounds
pub record IsBounded (job : Job) : Type 0 where
  pub steps : allows (codes "--steps") job.limits.steps ≡ true
  pub lines : allows (codes "--lines") job.limits.lines ≡ true
  pub output : allows (codes "--output") job.limits.output ≡ true
  pub heap : allows (codes "--heap") job.limits.heap ≡ true
  pub files : length job.files ≤ most Classes
  pub donors : length job.donors ≤ most Donors
  pub agents : length job.agents ≤ most Agents

-- the number and the size of `make` too
abbrev pub IsBoundedTask : Task → Type 0
IsBoundedTask (RunTask job workers) = IsBounded job × (allows (codes "--slice") job.limits.slice ≡ true) × (allows (codes "--workers") workers ≡ true)
IsBoundedTask (ReplayTask job schedule) = IsBounded job
IsBoundedTask (MakeTask number size) = (allows (codes "--number") number ≡ true) × (allows (codes "--size") size ≡ true)

-- What is accepted is within its bounds.
abbrev pub TasksAreBounded : Type 0
TasksAreBounded =
    (read_agent : AgentReading) (words : List Word) (files : Files) (task : Task)
    → result_of read_agent words files ≡ Ok task → IsBoundedTask task

-- ---- class files

-- the bytes are a class, which has this name and isn't one of the base set
pub record IsClassFile (f : File) : Type 0 where
  pub tree : Tree
  pub read : tree_of f.bytes ≡ Some tree
  pub named : own_name tree ≡ f.name
  pub own : is_base f.name ≡ false

-- so are those of each file of a job, and no two files are of one class
pub record HasOwnFiles (job : Job) : Type 0 where
  pub classes : AllByRecursion IsClassFile job.files
  pub distinct : IsDistinct bytes_eq (map (λ f. f.name) job.files)

abbrev pub HasOwnFilesOfTask : Task → Type 0
HasOwnFilesOfTask (RunTask job workers) = HasOwnFiles job
HasOwnFilesOfTask (ReplayTask job schedule) = HasOwnFiles job
HasOwnFilesOfTask (MakeTask number size) = Unit {0}

-- What is accepted has class files of its own.
abbrev pub TasksHaveOwnFiles : Type 0
TasksHaveOwnFiles =
    (read_agent : AgentReading) (words : List Word) (files : Files) (task : Task)
    → result_of read_agent words files ≡ Ok task → HasOwnFilesOfTask task
