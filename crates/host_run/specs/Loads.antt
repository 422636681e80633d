-- What loading a job tells.
use Rattle.std.specs.Prelude.{◌≡◌, ◌≢◌, ℕ, List, Option, Ok, Err, IsOk}
use Rattle.std.specs.Prelude as std
use Rattle.class_tree.specs.Trees.{Tree}
use Rattle.classfile_items.specs.declared.fault.ReadClassFault.TheVariants.{Memory}
use Rattle.classfile_items.specs.Reading.{Checked}
use Rattle.job_words.specs.declared.refusal.Refusal.{Refusal}
use Rattle.job_words.specs.declared.refusal.Refusal.TheVariants.{ReadFault, BadClass}
use Rattle.machine_model.specs.Jobs.{Job}
use Rattle.machine_model.specs.Results.{Result, Refused, Accepted}
use Rattle.host_run.specs.declared.load.JobFault.{JobFault}
use Rattle.host_run.specs.declared.load.JobFault.TheVariants as faults
use Rattle.host_run.specs.Counts.{FetchFailed, NoFetchFailed}

-- the refusal is the result, unless the fetch of the only file failed
abbrev pub IsRefusal : Refusal → Result → Type 0
IsRefusal (ReadFault place) asked = place ≡ 1
IsRefusal refusal asked = asked ≡ Refused refusal

-- the job or the refusal is the result, unless a fetch failed or memory ran out
abbrev pub Loads : std.Result Job JobFault → Result → Type 0
Loads (Ok job) asked = asked ≡ Accepted job
Loads (Err (faults.Refused refusal)) asked = IsRefusal refusal asked
Loads (Err faults.Memory) asked = Unit {0}

-- only a failed fetch counts
abbrev pub LoadCounts : List (List ℕ) → std.Result Job JobFault → ℕ → ℕ → Option (List ℕ) → Option (List ℕ) → Type 0
LoadCounts words (Err (faults.Refused (ReadFault place))) before now first last = FetchFailed words before now last
LoadCounts words _ before now first last = NoFetchFailed before now first last

-- a fault of the only class file, which want of memory is none of
abbrev pub IsClassFault : Refusal → Type 0
IsClassFault (BadClass place fault) = (place ≡ 1) × (fault ≢ Memory)
IsClassFault refusal = ⊥

-- what a fault says of a class file that was found
abbrev pub IsOfClass : std.Result Job JobFault → Type 0
IsOfClass (Ok job) = Unit {0}
IsOfClass (Err (faults.Refused refusal)) = IsClassFault refusal
IsOfClass (Err faults.Memory) = Unit {0}

-- the refusal is for the fault that was found
abbrev pub IsFound : Refusal → Checked Tree → Type 0
IsFound (BadClass place fault) found = (place ≡ 1) × (found ≡ Err fault) × (fault ≢ Memory)
IsFound refusal found = ⊥

-- a class file was found, or has the fault, unless memory ran out
abbrev pub Checks : std.Result (Unit {0}) JobFault → Checked Tree → Type 0
Checks (Ok nothing) found = IsOk found
Checks (Err (faults.Refused refusal)) found = IsFound refusal found
Checks (Err faults.Memory) found = Unit {0}
