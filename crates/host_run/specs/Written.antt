-- What the sink holds after each status.
use Rattle.std.specs.Prelude.{◌≡◌, ◌⊎◌, ℕ, List}
use Rattle.ti_port.specs.Port.{Rose}
use Rattle.job_words.specs.declared.refusal.Refusal.TheVariants as refusals
use Rattle.job_words.specs.declared.status.Status.{Status}
use Rattle.job_words.specs.declared.status.Status.TheVariants.{ReadFault, WriteFault, OutOfMemory}
use Rattle.job_words.specs.Refusals.{refusal_text}
use Rattle.machine_model.specs.Results.{Result, result_text}
use Rattle.host_run.specs.Puts.{Grew, GrewInPart}

-- the line of a fetch that failed, which is that of the only file
abbrev pub read_text : List ℕ
read_text = refusal_text (refusals.ReadFault 1)

-- after a failed put: a front of the result's text, or of the line of a failed fetch, where the store's count rose from `faults` to `faults'`
abbrev pub WritesInPart : Result → ℕ → ℕ → List ℕ → List ℕ → Type 0
WritesInPart asked faults faults' before now = GrewInPart (result_text asked) before now ⊎ (Rose faults faults' × GrewInPart read_text before now)

-- nothing after want of memory; all of the result's text after each status that is no fault's
abbrev pub Writes : Result → ℕ → ℕ → Status → List ℕ → List ℕ → Type 0
Writes asked faults faults' ReadFault = Grew read_text
Writes asked faults faults' WriteFault = WritesInPart asked faults faults'
Writes asked faults faults' OutOfMemory = λ before now. now ≡ before
Writes asked faults faults' _ = Grew (result_text asked)
