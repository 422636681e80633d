-- The made job of the number 0 and the size 2: the schedule that one worker picks, how it ends, and what is written of it.
use Rattle.std.specs.Prelude.{◌≡◌, ℕ, List, [], ◌∷◌, ◌++◌, Option, Some, codes, replicate}
use Rattle.ti_ids.specs.declared.actor.Actor.{Actor}
use Rattle.ti_ids.specs.declared.actor.Actor.TheVariants.{Vm}
use Rattle.ti_ids.specs.declared.actor.End.TheVariants.{Dead}
use Rattle.job_words.specs.declared.status.Status.TheVariants.{Done}
use Rattle.machine_steps.specs.World.{World}
use Rattle.machine_steps.specs.Ends.{end}
use Rattle.machine_steps.specs.Replay.{state}
use Rattle.machine_steps.specs.Picks.{picked}
use Rattle.machine_steps.specs.MadeJob.{made_job}
use Rattle.machine_steps.specs.Written.{made_by}
use Rattle.machine_rows.specs.Lines.{lines}
use Rattle.machine_rows.specs.Rows.{world_of, thread}

abbrev pub made : World
made = world_of (made_job 0 2)

-- 17 steps, and 9 for each method that `main` calls
abbrev pub made_schedule : List Actor
made_schedule = Vm ∷ Vm ∷ replicate 31 (thread 1) ++ Vm ∷ Vm ∷ []

abbrev pub made_text : List ℕ
made_text = lines (codes "made 0 2" ∷ codes "steps 35" ∷ codes "end dead" ∷ codes "output 11" ∷ codes "last -303524203" ∷ [])

pub record MadePrintsLast : Type 0 where
  pub picks : picked made.job.limits.slice made ≡ made_schedule
  pub ends : end made (state made made_schedule) ≡ Some Dead
  pub writes : made_by made 0 2 made_schedule (Some Dead) ≡ record { status = Done; text = made_text }
