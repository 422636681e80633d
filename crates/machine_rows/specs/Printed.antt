-- Programs by javac, and what `java` prints of them.
use Rattle.std.specs.Prelude.{◌≡◌, ℕ, zero, suc, List, length, true, if◌then◌else◌}
use Rattle.std.specs.List.{list_all}
use Rattle.ti_ids.specs.declared.actor.Actor.{Actor}
use Rattle.ti_ids.specs.declared.actor.Actor.TheVariants.{Vm}
use Rattle.machine_state.specs.Core.{has_ended}
use Rattle.machine_state.specs.Acts.{State}
use Rattle.machine_steps.specs.World.{World}
use Rattle.machine_steps.specs.Replay.{opening, step, state}
use Rattle.machine_rows.specs.Rows.{thread}

-- thread 1 goes on until every thread has ended, for so many steps at most
abbrev pub gone_on : ℕ → World → State → State
gone_on zero w s = s
gone_on (suc most) w s = if list_all has_ended s.core.threads then s else gone_on most w (step w s (thread 1))

-- the machine starts, and thread 1 runs
abbrev pub ran : World → State
ran w = gone_on 1000 w (step w (step w (opening w.job) Vm) Vm)

-- It runs to its end, and this is its output.
pub record Prints (w : World) (output : List ℕ) : Type 0 where
  pub ended : list_all has_ended (ran w).core.threads ≡ true
  pub printed : (ran w).core.output ≡ output

-- ---- several threads

-- Each entry of this schedule makes a step, all threads end along it, and this is the output.
pub record PrintsAlong (w : World) (schedule : List Actor) (output : List ℕ) : Type 0 where
  pub taken : (state w schedule).steps ≡ length schedule
  pub ended : list_all has_ended (state w schedule).core.threads ≡ true
  pub printed : (state w schedule).core.output ≡ output
