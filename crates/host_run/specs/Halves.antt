-- What each half of a call tells: of a run and its report, and of a refusal's line.
use Rattle.std.specs.Prelude.{◌≡◌, ◌⊎◌, ℕ, List, Some, true}
use Rattle.job_words.specs.declared.refusal.Refusal.{Refusal}
use Rattle.job_words.specs.declared.status.Status.{Status}
use Rattle.job_words.specs.declared.status.Status.TheVariants.{WriteFault, OutOfMemory}
use Rattle.job_words.specs.Refusals.{refusal_text, names_key}
use Rattle.job_words.specs.Statuses.{refusal_status}
use Rattle.machine_model.specs.Jobs.{Job}
use Rattle.machine_model.specs.Results.{Accepted, result_text}
use Rattle.host_run.specs.Puts.{Grew, GrewInPart}
use Rattle.host_run.specs.Statuses.{status_of}

abbrev pub RunAnswers : Job → Status → Type 0
RunAnswers job status = (status ≡ WriteFault) ⊎ (status ≡ OutOfMemory) ⊎ (status_of (Accepted job) ≡ Some status)

abbrev pub RunWrites : Job → Status → List ℕ → List ℕ → Type 0
RunWrites job WriteFault = GrewInPart (result_text (Accepted job))
RunWrites job OutOfMemory = λ before now. now ≡ before
RunWrites job _ = Grew (result_text (Accepted job))

-- memory can run out only where the line has a key
abbrev pub RefusalAnswers : Refusal → Status → Type 0
RefusalAnswers refusal status = (status ≡ WriteFault) ⊎ (status ≡ refusal_status refusal) ⊎ ((status ≡ OutOfMemory) × (names_key refusal ≡ true))

abbrev pub RefusalWrites : Refusal → Status → List ℕ → List ℕ → Type 0
RefusalWrites refusal WriteFault = GrewInPart (refusal_text refusal)
RefusalWrites refusal OutOfMemory = λ before now. now ≡ before
RefusalWrites refusal _ = Grew (refusal_text refusal)
