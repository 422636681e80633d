-- Calls of the program that are refused before anything is run: words, files, and the line that tells of the refusal.
use Rattle.std.specs.Prelude.{◌≡◌, ◌<◌, ℕ, List, [], ◌∷◌, ◌++◌, length, flat_map, take, drop, replicate, find, bytes_eq, ◌==◌, if◌then◌else◌, Option, Some, None, option_map, codes, Result, Ok, Err}
use Rattle.agent_types.specs.declared.agent.Agent.{Agent}
use Rattle.job_words.specs.Options.{Word}
use Rattle.job_words.specs.declared.agent_fault.AgentFault.{AgentFault}
use Rattle.job_words.specs.Refusals.{refusal_text}
use Rattle.job_words.specs.Fetches.{Admitted, Failed, Files, steady}
use Rattle.machine_steps.specs.Results.{Task, RunTask, ReplayTask, MakeTask, result_of}
use Rattle.machine_steps.specs.World.{AgentReading}
use Rattle.machine_steps.specs.Written.{replay_refusal}
use Rattle.machine_rows.specs.Rows.{add_add, world_of}

-- a file of a name
pub record Stored : Type 0 where
  pub name : Word
  pub bytes : List ℕ

-- a store that never fails, and has these files
abbrev pub stored : List Stored → Files
stored files = steady (λ name. option_map (λ f. f.bytes) (find (λ f. bytes_eq f.name name) files))

abbrev pub file : Word → List ℕ → List Stored
file name bytes = record { name = name; bytes = bytes } ∷ []

-- a store in which each fetch fails
abbrev pub failing : Files
failing place name = Failed

-- one in which the fetch at a place fails, and any other tells what these do
abbrev pub failing_at : ℕ → Files → Files
failing_at failed files place name = if place == failed then Failed else files place name

-- the line of a refusal
abbrev pub line_of : {A : Type 0} → Admitted A → Option (List ℕ)
line_of (Ok x) = None
line_of (Err refusal) = Some (refusal_text refusal)

-- These words are refused with this line, whatever reads agent files.
abbrev pub IsRefused : List Word → Files → List ℕ → Type 0
IsRefused words files text = (read_agent : AgentReading) → line_of (result_of read_agent words files) ≡ Some text

-- ---- words

abbrev pub run_add : List Word
run_add = codes "run" ∷ codes "--main" ∷ codes "Add" ∷ []

-- an option and each of these values
abbrev pub each : Word → List Word → List Word
each option values = flat_map (λ value. option ∷ value ∷ []) values

abbrev pub class : Word → List Word
class name = codes "--class" ∷ name ∷ []

abbrev pub replay_add : Word → List Word
replay_add schedule = codes "replay" ∷ codes "--main" ∷ codes "Add" ∷ class (codes "Add.class") ++ codes "--schedule" ∷ schedule ∷ []

-- ---- files

abbrev pub whole : List Stored
whole = file (codes "Add.class") add_add

-- the first 40 bytes of the class
abbrev pub cut : List Stored
cut = file (codes "Add_cut.class") (take 40 add_add)

-- with a byte behind its end
abbrev pub long : List Stored
long = file (codes "Add_long.class") (add_add ++ 0 ∷ [])

-- with `fadd` in place of `iadd`
abbrev pub floating : List Stored
floating = file (codes "Add_fadd.class") (take 233 add_add ++ 98 ∷ drop 234 add_add)

-- `Add` with the magic number of no class, and with a major version that isn't accepted
abbrev pub other_magic : List Stored
other_magic = file (codes "Add.class") (203 ∷ drop 1 add_add)

abbrev pub newer : List Stored
newer = file (codes "Add.class") (take 7 add_add ++ 53 ∷ drop 8 add_add)

-- with the name of a base class
abbrev pub base_named : List Stored
base_named = file (codes "Thread.class") (take 11 add_add ++ (0 ∷ 16 ∷ codes "java/lang/Thread") ++ drop 16 add_add)

-- ---- rows

pub record WordsRefused : Type 0 where
  pub none : IsRefused [] (stored []) (codes "refused usage\n")
  pub no_class : IsRefused run_add (stored []) (codes "refused usage\n")

pub record FetchesRefused : Type 0 where
  pub absent : IsRefused (run_add ++ class (codes "missing.class")) (stored []) (codes "refused absent 1\n")
  -- a file's name may be empty, and no file has it
  pub unnamed : IsRefused (run_add ++ codes "--class=" ∷ []) (stored whole) (codes "refused absent 1\n")
  -- classes are fetched before donors, wherever their options stand
  pub donor_absent : IsRefused (run_add ++ (each (codes "--donor") (codes "no.class" ∷ []) ++ class (codes "Add.class"))) (stored whole) (codes "refused absent 2\n")
  -- all fetches come before a class file is looked at, and those of agents and of the schedule come last
  pub agent_absent :
      IsRefused (run_add ++ (each (codes "--agent") (codes "no.toml" ∷ []) ++ (class (codes "Add_cut.class") ++ each (codes "--donor") (codes "Add_cut.class" ∷ [])))) (stored cut) (codes "refused absent 3\n")
  pub schedule_absent : IsRefused (replay_add (codes "no.txt")) (stored whole) (codes "refused absent 2\n")
  pub unreadable : IsRefused (run_add ++ class (codes "Add.class")) failing (codes "refused read 1\n")
  -- the first fetch of the name is granted
  pub unreadable_again : IsRefused (run_add ++ (class (codes "Add.class") ++ class (codes "Add.class"))) (failing_at 2 (stored whole)) (codes "refused read 2\n")

-- `Add`, of a file that may be too long
abbrev pub of_class : List Word
of_class = run_add ++ class (codes "big")

abbrev pub big : List ℕ → Files
big bytes = stored (whole ++ file (codes "big") bytes)

-- files that are too long, whatever their bytes are
pub record LengthsRefused : Type 0 where
  pub class_too_large : (bytes : List ℕ) → 1048576 < length bytes → IsRefused of_class (big bytes) (codes "refused too-large class-bytes 1\n")
  -- one that just fits is fetched, and the next file is absent
  pub class_just_fits : (bytes : List ℕ) → length bytes ≡ 1048576 → IsRefused (of_class ++ class (codes "no.class")) (big bytes) (codes "refused absent 2\n")
  pub donor_too_large : (bytes : List ℕ) → 1048576 < length bytes → IsRefused (run_add ++ (class (codes "Add.class") ++ each (codes "--donor") (codes "big" ∷ []))) (big bytes) (codes "refused too-large class-bytes 2\n")
  pub agent_too_large : (bytes : List ℕ) → 65536 < length bytes → IsRefused (run_add ++ (class (codes "Add.class") ++ each (codes "--agent") (codes "big" ∷ []))) (big bytes) (codes "refused too-large agent-bytes 2\n")
  pub schedule_too_large : (bytes : List ℕ) → 134217728 < length bytes → IsRefused (replay_add (codes "big")) (big bytes) (codes "refused too-large schedule-bytes 2\n")
  -- 32 files of 1048576 bytes are as much as there may be
  pub total_too_large : (bytes : List ℕ) → length bytes ≡ 1048576 → IsRefused (run_add ++ each (codes "--class") (replicate 33 (codes "big"))) (big bytes) (codes "refused too-large total-bytes 33\n")
  pub total_just_fits : (bytes : List ℕ) → length bytes ≡ 1048576 → IsRefused (run_add ++ (each (codes "--class") (replicate 32 (codes "big")) ++ class (codes "no.class"))) (big bytes) (codes "refused absent 33\n")

-- the numbers of files come before any fetch: classes, donors, agents
pub record CountsRefused : Type 0 where
  pub classes : IsRefused (run_add ++ each (codes "--class") (replicate 257 (codes "a"))) (stored []) (codes "refused too-large classes 257\n")
  pub donors : IsRefused (run_add ++ (class (codes "a") ++ (each (codes "--agent") (replicate 17 (codes "a")) ++ each (codes "--donor") (replicate 65 (codes "a"))))) (stored []) (codes "refused too-large donors 65\n")
  pub agents : IsRefused (run_add ++ (class (codes "a") ++ each (codes "--agent") (replicate 17 (codes "a")))) (stored []) (codes "refused too-large agents 17\n")
  -- as many as there may be are fetched
  pub most : IsRefused (run_add ++ (class (codes "a") ++ each (codes "--agent") (replicate 16 (codes "a")))) (stored []) (codes "refused absent 1\n")

pub record ClassesRefused : Type 0 where
  pub empty : IsRefused (run_add ++ class (codes "empty.class")) (stored (file (codes "empty.class") [])) (codes "refused class 1 truncated 0\n")
  pub cut_off : IsRefused (run_add ++ class (codes "Add_cut.class")) (stored cut) (codes "refused class 1 truncated 40\n")
  pub trailing_byte : IsRefused (run_add ++ class (codes "Add_long.class")) (stored long) (codes "refused class 1 trailing 244\n")
  pub floating_opcode : IsRefused (run_add ++ class (codes "Add_fadd.class")) (stored floating) (codes "refused class 1 floating 233\n")
  pub magic_number : IsRefused (run_add ++ class (codes "Add.class")) (stored other_magic) (codes "refused class 1 magic 0\n")
  pub version : IsRefused (run_add ++ class (codes "Add.class")) (stored newer) (codes "refused class 1 version 6\n")
  -- the second file of one class, at the index of its name; a fault of its own comes before
  pub twice : IsRefused (run_add ++ each (codes "--class") (codes "Add.class" ∷ codes "Add.class" ∷ [])) (stored whole) (codes "refused class 2 duplicate 196\n")
  pub of_a_base_class : IsRefused (run_add ++ class (codes "Thread.class")) (stored base_named) (codes "refused class 1 duplicate 209\n")
  pub twice_and_floating : IsRefused (run_add ++ each (codes "--class") (codes "Add.class" ∷ codes "Add_fadd.class" ∷ [])) (stored (whole ++ floating)) (codes "refused class 2 floating 233\n")

-- ---- schedules

-- the line of a replay that can't be performed: that of its first refusal, before the run or with it
abbrev pub replay_line : Admitted Task → Option (List ℕ)
replay_line (Ok (ReplayTask job schedule)) = option_map refusal_text (replay_refusal (world_of job) schedule)
replay_line (Ok (RunTask job workers)) = None
replay_line (Ok (MakeTask number size)) = None
replay_line (Err refusal) = Some (refusal_text refusal)

abbrev pub scheduled : List ℕ → Files
scheduled text = stored (whole ++ file (codes "schedule.txt") text)

abbrev pub IsReplayRefused : List ℕ → List ℕ → Type 0
IsReplayRefused schedule text = (read_agent : AgentReading) → replay_line (result_of read_agent (replay_add (codes "schedule.txt")) (scheduled schedule)) ≡ Some text

pub record SchedulesRefused : Type 0 where
  -- two neighbouring runs of one actor
  pub text : IsRefused (replay_add (codes "schedule.txt")) (scheduled (codes "schedule v:2 v:1\n")) (codes "refused schedule text\n")
  pub no_line : IsRefused (replay_add (codes "schedule.txt")) (scheduled (codes "Schedule v:2\n")) (codes "refused schedule text\n")
  -- no second thread is there
  pub cannot_be_performed : IsReplayRefused (codes "schedule v:2 t1:13 t2:1 v:1\n") (codes "refused schedule 15\n")
  -- the run is over after 17 steps
  pub after_the_end : IsReplayRefused (codes "schedule v:2 t1:13 v:3\n") (codes "refused schedule 17\n")
