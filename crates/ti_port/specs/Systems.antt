-- What is counted of the system's own files and writers.
use Rattle.std.specs.Prelude.{ℕ, List, take, Option, Some, Result, Ok, Err}
use Rattle.std.specs.Io.KnownBytes.{Keeps, Appends}
use Rattle.std.specs.declared.alloc.AllocError.{AllocError}
use Rattle.ti_port.specs.Port.{next_count}
use Rattle.ti_port.specs.declared.store.Fetched.{Fetched}
use Rattle.ti_port.specs.declared.store.Fetched.TheVariants.{Found, Absent, TooLong, Failed}
use Rattle.ti_port.specs.declared.sink.Put.{Put}
use Rattle.ti_port.specs.declared.sink.Put.TheVariants as puts

-- the fetches that failed, and the name of the last of them
pub record FileCounts : Type 0 where
  pub faults : ℕ
  pub failed : Option (List ℕ)

-- the counts after a fetch of this name with this answer
abbrev pub counts_after_fetch : FileCounts → List ℕ → Result Fetched AllocError → FileCounts
counts_after_fetch counts name (Ok (Found v)) = counts
counts_after_fetch counts name (Ok Absent) = counts
counts_after_fetch counts name (Ok TooLong) = counts
counts_after_fetch counts name (Ok Failed) = record { faults = next_count counts.faults; failed = Some name }
counts_after_fetch counts name (Err e) = counts

-- what a writer holds, where it is known, and the puts that failed
pub record Written : Type 0 where
  pub contents : Option (List ℕ)
  pub faults : ℕ

-- a put writes the front of the piece that it took, behind what was there, and nothing where it fails
abbrev pub WritesFront : Put → List ℕ → Option (List ℕ) → Option (List ℕ) → Type 0
WritesFront (puts.Took n) piece before now = Appends before now (take n piece)
WritesFront puts.Failed piece before now = Keeps before now

-- the count of failed puts after a put with this answer
abbrev pub next_faults : ℕ → Put → ℕ
next_faults faults (puts.Took n) = faults
next_faults faults puts.Failed = next_count faults
