-- What follows of the definitions of what is written: that a schedule is refused where it can't be run, that a run's
-- report is one by the headline, and that a replay writes it again.
use Rattle.std.specs.Prelude.{◌≡◌, ◌↔◌, ℕ, List, Some, None, Result}
use Rattle.ti_ids.specs.declared.actor.Actor.{Actor}
use Rattle.report_text.specs.Stated.{stated}
use Rattle.machine_state.specs.Jobs.{Job}
use Rattle.machine_steps.specs.World.{World, Meaning, unsliced, world_of}
use Rattle.machine_steps.specs.Replay.{CanRun}
use Rattle.machine_steps.specs.Picks.{picked}
use Rattle.job_words.specs.Options.{Word}
use Rattle.job_words.specs.Fetches.{Files}
use Rattle.machine_steps.specs.Results.{ReplayTask}
use Rattle.machine_steps.specs.Bounds.{IsBounded}
use Rattle.machine_steps.specs.Written.{barred_at, IsBarred, Written, reported, IsReported, IsWritten, written_of, written}

-- A schedule is refused with the place of its first entry that can't be performed, and isn't refused exactly where it can be run.
pub record BarredExactly : Type 0 where
  pub there : (w : World) (schedule : List Actor) (n : ℕ) → barred_at w schedule ≡ Some n ↔ IsBarred w schedule n
  pub nowhere : (w : World) (schedule : List Actor) → barred_at w schedule ≡ None ↔ CanRun w schedule

-- The report of the schedule that one worker picks is one by the headline, for every job within its bounds.
abbrev pub PickedIsReported : Type 0
PickedIsReported = (slice : ℕ) (w : World) → IsBounded w.job → IsReported w (reported w (picked slice w))

-- Where there is no choice, what is written is what may be written.
abbrev pub WrittenIsWritten : Type 0
WrittenIsWritten =
    (meaning : Meaning) (words : List Word) (files : Files) (it : Written)
    → written meaning words files ≡ Some it → IsWritten meaning words files it

-- A replay of the schedule that the report of a run states writes the report again, with its status: whichever workers made the run, and
-- also for a job with another slice.
abbrev pub ReplaysSame : Type 0
ReplaysSame =
    (meaning : Meaning) (job other : Job) (schedule : List Actor) (it : Written) → unsliced other ≡ unsliced job
    → IsReported (world_of meaning job) it → stated it.text ≡ Some schedule → written_of meaning (ReplayTask other schedule) ≡ Some it
