-- What words and files ask for: a job, or the first refusal. The words are `run --main NAME --class FILE`.
use Rattle.std.specs.Prelude.{ℕ, List, [], ◌∷◌, length, Option, Some, None, Bool, true, not, ◌&&◌, nat_lt, ◌==◌, if◌then◌else◌, Ok, Err, codes, bytes_eq}
use Rattle.ti_ids.specs.declared.limits.Limits.{Limits}
use Rattle.ti_ids.specs.declared.actor.End.{End}
use Rattle.jv_names.specs.Names.{is_class_name}
use Rattle.class_tree.specs.Trees.{Tree}
use Rattle.classfile_items.specs.declared.fault.ReadClassFault.{ReadClassFault}
use Rattle.classfile_items.specs.declared.fault.ReadClassFault.TheVariants.{Unsupported}
use Rattle.classfile_items.specs.Reading.{Checked}
use Rattle.classfile_read.specs.ClassReading as grammar
use Rattle.job_words.specs.declared.input_limit.InputLimit.TheVariants.{ClassBytes}
use Rattle.job_words.specs.declared.refusal.Refusal.{Refusal}
use Rattle.job_words.specs.declared.refusal.Refusal.TheVariants.{Usage, Absent, TooLarge, BadClass}
use Rattle.job_words.specs.Refusals.{most, refusal_text}
use Rattle.first_form.specs.ClassFiles.{MainClass}
use Rattle.first_form.specs.Reading as form
use Rattle.machine_model.specs.Jobs.{Job}
use Rattle.machine_model.specs.Rules.{end}
use Rattle.machine_model.specs.Replay.{state}
use Rattle.machine_model.specs.Picks.{picked}
use Rattle.machine_model.specs.Reports.{report}

pub data Result : Type 0 where
  Refused : Refusal → Result
  Accepted : Job → Result

-- ---- the words

-- a value does not begin with `-`
abbrev pub is_value : List ℕ → Bool
is_value [] = true
is_value (byte ∷ bytes) = not (byte == 45)

-- what the words ask for
pub record Request : Type 0 where
  -- the main class's name, byte by byte; a class that is accepted has a name of ASCII, whose bytes are its units
  pub main : List ℕ
  -- the name of the class file
  pub file : List ℕ

abbrev pub is_run : List ℕ → List ℕ → List ℕ → List ℕ → List ℕ → Bool
is_run run main name class file =
    bytes_eq run (codes "run") && bytes_eq main (codes "--main") && bytes_eq class (codes "--class") && is_value name && is_value file && is_class_name name

abbrev pub request_of : List (List ℕ) → Option Request
request_of (run ∷ main ∷ name ∷ class ∷ file ∷ []) = if is_run run main name class file then Some (record { main = name; file = file }) else None
request_of _ = None

-- ---- the file, which is the only one, and so has place 1

abbrev pub default_limits : Limits
default_limits = record { steps = 1000000; lines = 10000; output = 1048576; heap = 1000000; slice = 1000 }

abbrev pub job_of : List ℕ → List ℕ → Job
job_of main bytes = record { main = main; classes = bytes ∷ []; donors = []; agents = []; limits = default_limits }

-- what is told of a class file that can't be run yet
abbrev pub not_yet : ReadClassFault
not_yet = Unsupported 0

-- so far a class runs only if it is in the first form, and has the main class's name
abbrev pub result_of_first : List ℕ → List ℕ → Option MainClass → Result
result_of_first main bytes None = Refused (BadClass 1 not_yet)
result_of_first main bytes (Some c) = if bytes_eq c.name main then Accepted (job_of main bytes) else Refused (BadClass 1 not_yet)

-- the grammar's fault comes first
abbrev pub result_of_class : List ℕ → List ℕ → Checked Tree → Option MainClass → Result
result_of_class main bytes (Err fault) first = Refused (BadClass 1 fault)
result_of_class main bytes (Ok tree) first = result_of_first main bytes first

abbrev pub result_of_file : List ℕ → Option (List ℕ) → Result
result_of_file main None = Refused (Absent 1)
result_of_file main (Some bytes) =
    if nat_lt (most ClassBytes) (length bytes) then Refused (TooLarge ClassBytes 1)
    else result_of_class main bytes (grammar.class_of bytes) (form.class_of bytes)

abbrev pub result_of_request : Option Request → (List ℕ → Option (List ℕ)) → Result
result_of_request None files = Refused Usage
result_of_request (Some request) files = result_of_file request.main (files request.file)

-- the first refusal, or the job
abbrev pub result_of : List (List ℕ) → (List ℕ → Option (List ℕ)) → Result
result_of words files = result_of_request (request_of words) files

-- ---- what is written

-- the end of the one worker's run
abbrev pub picked_end : Job → Option End
picked_end job = end job (state job (picked job))

abbrev pub result_text : Result → List ℕ
result_text (Refused r) = refusal_text r
result_text (Accepted job) = report job (picked job) (picked_end job)
