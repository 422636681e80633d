-- The counts of failed fetches and failed puts after each status.
use Rattle.std.specs.Prelude.{◌≡◌, ◌≤◌, ◌⊎◌, ℕ, List, Option, Some}
use Rattle.ti_port.specs.Port.{Rose}
use Rattle.machine_model.specs.Results.{Request, request_of}
use Rattle.job_words.specs.declared.status.Status.{Status}
use Rattle.job_words.specs.declared.status.Status.TheVariants.{ReadFault, WriteFault}

-- the fetch of the file that the words name failed: the store's count rose, and it keeps that name as the last failed one's
pub record FetchFailed (words : List (List ℕ)) (before now : ℕ) (last : Option (List ℕ)) : Type 0 where
  pub request : Request
  pub asked : request_of words ≡ Some request
  pub rose : Rose before now
  pub grew : before ≤ now
  pub named : last ≡ Some request.file

-- no fetch failed: count and name are as before
pub record NoFetchFailed (before now : ℕ) (first last : Option (List ℕ)) : Type 0 where
  pub count : now ≡ before
  pub name : last ≡ first

-- a read fault is a failed fetch's, and a write fault may come behind one
abbrev pub StoreCounts : List (List ℕ) → Status → ℕ → ℕ → Option (List ℕ) → Option (List ℕ) → Type 0
StoreCounts words ReadFault before now first last = FetchFailed words before now last
StoreCounts words WriteFault before now first last = FetchFailed words before now last ⊎ NoFetchFailed before now first last
StoreCounts words _ before now first last = NoFetchFailed before now first last

-- a write fault is a failed put's, and no other status comes behind one
abbrev pub SinkCounts : Status → ℕ → ℕ → Type 0
SinkCounts WriteFault before now = Rose before now × (before ≤ now)
SinkCounts _ before now = now ≡ before
