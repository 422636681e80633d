-- What the text that was written says of the run.
use Rattle.std.specs.Prelude.{◌≡◌, ◌++◌, ◌⊎◌, ℕ, List, Some}
use Rattle.ti_ids.specs.declared.actor.Actor.{Actor}
use Rattle.ti_ids.specs.declared.actor.End.{End}
use Rattle.report_text.specs.Stated.{stated}
use Rattle.machine_model.specs.Jobs.{Job}
use Rattle.machine_model.specs.Rules as rules
use Rattle.machine_model.specs.Replay.{Runs, state}
use Rattle.machine_model.specs.Picks.{picked}
use Rattle.machine_model.specs.Reports.{report}
use Rattle.job_words.specs.declared.status.Status.{Status}
use Rattle.host_run.specs.Statuses.{status_of_end, IsFault}

-- what was written is the report of the job's run by the schedule that the text itself states
pub record IsReport (job : Job) (status : Status) (before now : List ℕ) : Type 0 where
  -- what was written
  pub text : List ℕ
  -- the schedule that this text states
  pub schedule : List Actor
  -- how the run is over
  pub end : End
  -- it stands behind all that the sink held
  pub grew : now ≡ before ++ text
  -- whoever reads the text finds the schedule in it
  pub states : stated text ≡ Some schedule
  -- each of its actors was enabled at its place
  pub legal : Runs job schedule
  -- it is the one worker's
  pub alone : schedule ≡ picked job
  -- it goes up to the end of the run
  pub ended : rules.end job (state job schedule) ≡ Some end
  -- every line of the text is that of the state after the schedule
  pub reported : text ≡ report job schedule (Some end)
  -- and so is the status
  pub status_is : status ≡ status_of_end end

-- a report was written, unless there was a fault
abbrev pub Headline : Job → Status → List ℕ → List ℕ → Type 0
Headline job status before now = IsFault status ⊎ IsReport job status before now
