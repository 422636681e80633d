-- What the status of a run rules out, and what that leaves of the top call's promises.
use Rattle.std.proofs.Common.{◌≡◌, ℕ, List, Option, Some, None, Ok, inl, inr}
use Rattle.std.specs.Prelude.{IfSome, option_map}
use Rattle.ti_ids.specs.declared.actor.End.{End}
use Rattle.ti_ids.specs.declared.actor.End.TheVariants as ends
use Rattle.ti_port.specs.Port.{Told}
use Rattle.machine_model.specs.Jobs.{Job}
use Rattle.machine_model.specs.Results.{Accepted, result_of}
use Rattle.job_words.specs.declared.status.Status.{Status}
use Rattle.job_words.specs.declared.status.Status.TheVariants.{Usage, ReadFault, WriteFault, OutOfMemory}
use Rattle.host_run.specs.Statuses.{status_of_end}
use Rattle.host_run.specs.Written.{Writes}
use Rattle.host_run.specs.Counts.{NoFetchFailed, StoreCounts}
use Rattle.host_run.specs.Loads.{Loads}
use Rattle.host_run.specs.Halves.{RunAnswers, RunWrites}

-- a status that no end has is not that of a run
of_no_end : (end : Option End) (status : Status) → ((e : End) → status_of_end e ≡ status → ⊥) → option_map status_of_end end ≡ Some status → ⊥
of_no_end None status never h = cc
of_no_end (Some e) status never h = never e cc

never_read : (e : End) → status_of_end e ≡ ReadFault → ⊥
never_read ends.Dead h = cc
never_read ends.Stuck h = cc
never_read ends.StepLimit h = cc
never_read ends.LineLimit h = cc
never_read ends.OutputLimit h = cc

never_usage : (e : End) → status_of_end e ≡ Usage → ⊥
never_usage ends.Dead h = cc
never_usage ends.Stuck h = cc
never_usage ends.StepLimit h = cc
never_usage ends.LineLimit h = cc
never_usage ends.OutputLimit h = cc

run_not_read : (job : Job) → RunAnswers job ReadFault → ⊥
run_not_read job (inl h) = cc
run_not_read job (inr (inl h)) = cc
run_not_read job (inr (inr h)) = of_no_end _ ReadFault never_read h

-- a run is no refusal of the words
pub run_not_usage : (job : Job) (status : Status) → RunAnswers job status → status ≡ Usage → ⊥
run_not_usage job status (inl h) is = cc
run_not_usage job status (inr (inl h)) is = cc
run_not_usage job status (inr (inr h)) is = of_no_end _ status (λ e k. never_usage e (let whole : status_of_end e ≡ Usage = cc in whole)) h

-- a run fetches nothing more
pub run_store_counts : (job : Job) (words : List (List ℕ)) (status : Status) (before now : ℕ) (first last : Option (List ℕ))
    → RunAnswers job status → NoFetchFailed before now first last → StoreCounts words status before now first last
run_store_counts job words ReadFault before now first last answers none = absurd (run_not_read job answers)
run_store_counts job words WriteFault before now first last answers none = inr none
run_store_counts job words OutOfMemory before now first last answers none = none
run_store_counts job words _ before now first last answers none = none

pub told_map : (P Q : List ℕ → List ℕ → Type 0) (a b : Option (List ℕ)) → ((x y : List ℕ) → P x y → Q x y) → Told P a b → Told Q a b
told_map P Q (Some x) (Some y) f h = f x y h
told_map P Q (Some x) None f h = absurd h
told_map P Q None (Some y) f h = absurd h
told_map P Q None None f h = tt

run_writes : (job : Job) (status : Status) (faults faults' : ℕ) (before now : List ℕ) → RunAnswers job status → RunWrites job status before now → Writes (Accepted job) faults faults' status before now
run_writes job ReadFault faults faults' before now answers h = absurd (run_not_read job answers)
run_writes job WriteFault faults faults' before now answers h = inl h
run_writes job OutOfMemory faults faults' before now answers h = h
run_writes job _ faults faults' before now answers h = h

abbrev pub Files : Type 0
Files = List ℕ → Option (List ℕ)

-- what the run of an accepted job wrote is what the result's text tells
pub run_told : (job : Job) (words : List (List ℕ)) (files : Option Files) (status : Status) (faults faults' : ℕ) (a b : Option (List ℕ))
    → IfSome files (λ f. Loads (Ok job) (result_of words f)) → RunAnswers job status → Told (RunWrites job status) a b
    → IfSome files (λ f. Told (Writes (result_of words f) faults faults' status) a b)
run_told job words None status faults faults' a b loaded answers h = tt
run_told job words (Some f) status faults faults' a b loaded answers h =
    rw loaded (told_map (RunWrites job status) (Writes (Accepted job) faults faults' status) a b (λ x y. run_writes job status faults faults' x y answers) h)
