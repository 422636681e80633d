-- What is written of a refusal: the text of the result, or the line of a failed fetch.
use Rattle.std.proofs.Common.{◌≡◌, ℕ, List, Option, Some, None, Err, inl, inr, sym, subst}
use Rattle.std.specs.Prelude.{IfSome}
use Rattle.std.proofs.lemmas.Bool.{false≢true}
use Rattle.ti_port.specs.Port.{Told, Rose}
use Rattle.job_words.specs.declared.refusal.Refusal.{Refusal}
use Rattle.job_words.specs.declared.refusal.Refusal.TheVariants as refusals
use Rattle.job_words.specs.declared.status.Status.{Status}
use Rattle.job_words.specs.declared.status.Status.TheVariants.{ReadFault, WriteFault, OutOfMemory}
use Rattle.job_words.specs.Refusals.{refusal_text}
use Rattle.job_words.specs.Statuses.{refusal_status}
use Rattle.machine_model.specs.Results.{Result, Refused, result_of, result_text}
use Rattle.host_run.specs.declared.load.JobFault.{JobFault}
use Rattle.host_run.specs.declared.load.JobFault.TheVariants as job_faults
use Rattle.host_run.specs.Puts.{Grew, GrewInPart}
use Rattle.host_run.specs.Loads.{IsRefusal, Loads, LoadCounts}
use Rattle.host_run.specs.Written.{Writes}
use Rattle.host_run.specs.Halves.{RefusalAnswers, RefusalWrites}
use Rattle.host_run.proofs.Promises.{Files, told_map}

-- what a status says of the refusal's line it says of the result's text, or of that of a failed fetch
abbrev WritesSo : Refusal → Result → ℕ → ℕ → Status → Type 0
WritesSo refusal asked count count' status = (before now : List ℕ) → RefusalWrites refusal status before now → Writes asked count count' status before now

-- of a failed fetch
read_so : (place : ℕ) (asked : Result) (status : Status) (count count' : ℕ) → place ≡ 1 → Rose count count'
    → RefusalAnswers (refusals.ReadFault place) status → WritesSo (refusals.ReadFault place) asked count count' status
read_so place asked status count count' one rose (inl is) =
    subst (λ (s : Status). WritesSo (refusals.ReadFault place) asked count count' s) (sym is)
    (λ before now h. inr (rose, subst (λ (p : ℕ). GrewInPart (refusal_text (refusals.ReadFault p)) before now) one h))
read_so place asked status count count' one rose (inr (inl is)) =
    subst (λ (s : Status). WritesSo (refusals.ReadFault place) asked count count' s) (sym is)
    (λ before now h. subst (λ (p : ℕ). Grew (refusal_text (refusals.ReadFault p)) before now) one h)
read_so place asked status count count' one rose (inr (inr is)) = absurd (false≢true is.1)

-- of any other refusal
other_so : (refusal : Refusal) (asked : Result) (status : Status) (count count' : ℕ) → (refusal_status refusal ≡ ReadFault → ⊥) → asked ≡ Refused refusal
    → RefusalAnswers refusal status → WritesSo refusal asked count count' status
other_so refusal asked ReadFault count count' other whole (inl is) = absurd cc
other_so refusal asked ReadFault count count' other whole (inr (inl is)) = absurd (other (sym is))
other_so refusal asked ReadFault count count' other whole (inr (inr is)) = let never : ReadFault ≡ OutOfMemory = is.0 in absurd cc
other_so refusal asked WriteFault count count' other whole answers = λ before now h. inl (subst (λ (r : Result). GrewInPart (result_text r) before now) (sym whole) h)
other_so refusal asked OutOfMemory count count' other whole answers = λ before now h. h
other_so refusal asked _ count count' other whole answers = λ before now h. subst (λ (r : Result). Grew (result_text r) before now) (sym whole) h

refused_so : (refusal : Refusal) (asked : Result) (words : List (List ℕ)) (status : Status) (count count' : ℕ) (first last : Option (List ℕ)) → IsRefusal refusal asked
    → LoadCounts words (Err (job_faults.Refused refusal)) count count' first last → RefusalAnswers refusal status → WritesSo refusal asked count count' status
refused_so (refusals.ReadFault place) asked words status count count' first last is counts answers = read_so place asked status count count' is counts.rose answers
refused_so refusal asked words status count count' first last is counts answers = other_so refusal asked status count count' (λ e. cc) is answers

-- what was written of a refusal is what the result's text tells
pub refused_told : (fault : JobFault) (refusal : Refusal) (words : List (List ℕ)) (files : Option Files) (status : Status) (count count' : ℕ) (first last a b : Option (List ℕ))
    → fault ≡ job_faults.Refused refusal → IfSome files (λ f. Loads (Err fault) (result_of words f)) → LoadCounts words (Err fault) count count' first last
    → RefusalAnswers refusal status → Told (RefusalWrites refusal status) a b → IfSome files (λ f. Told (Writes (result_of words f) count count' status) a b)
refused_told fault refusal words None status count count' first last a b is loads counts answers told = tt
refused_told fault refusal words (Some f) status count count' first last a b is loads counts answers told =
    let loads' : Loads (Err (job_faults.Refused refusal)) (result_of words f) = subst (λ (x : JobFault). Loads (Err x) (result_of words f)) is loads in
    let counts' : LoadCounts words (Err (job_faults.Refused refusal)) count count' first last = subst (λ (x : JobFault). LoadCounts words (Err x) count count' first last) is counts in
    told_map (RefusalWrites refusal status) (Writes (result_of words f) count count' status) a b
    (refused_so refusal (result_of words f) words status count count' first last loads' counts' answers) told
