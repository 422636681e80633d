-- The status that a call of the program ends with.
use Rattle.std.specs.Prelude.{◌≡◌, ◌⊎◌, Option, Some, option_map}
use Rattle.ti_ids.specs.declared.actor.End.{End}
use Rattle.ti_ids.specs.declared.actor.End.TheVariants as ends
use Rattle.job_words.specs.declared.status.Status.{Status}
use Rattle.job_words.specs.declared.status.Status.TheVariants.{Done, ReadFault, WriteFault, OutOfMemory, Stuck, Limit}
use Rattle.job_words.specs.Statuses.{refusal_status}
use Rattle.machine_model.specs.Results.{Result, Refused, Accepted, picked_end}

-- of a run with this end; no thread ends by an exception yet
abbrev pub status_of_end : End → Status
status_of_end ends.Dead = Done
status_of_end ends.Stuck = Stuck
status_of_end ends.StepLimit = Limit
status_of_end ends.LineLimit = Limit
status_of_end ends.OutputLimit = Limit

-- of a refusal, or of the one worker's run of a job; it is there, since that run has an end
abbrev pub status_of : Result → Option Status
status_of (Refused refusal) = Some (refusal_status refusal)
status_of (Accepted job) = option_map status_of_end (picked_end job)

-- a fetch failed, a put failed, or memory ran out
abbrev pub IsFault : Status → Type 0
IsFault status = (status ≡ ReadFault) ⊎ (status ≡ WriteFault) ⊎ (status ≡ OutOfMemory)

-- each status but a fault's is exactly that of the result of the words and the files
abbrev pub Answers : Result → Status → Type 0
Answers asked status = IsFault status ⊎ (status_of asked ≡ Some status)
