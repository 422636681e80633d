-- What a run wrote.
use Rattle.std.specs.Prelude.{◌≡◌, ℕ, List, Bool, Some, is_some}
use Rattle.ti_ids.specs.declared.actor.End.{End}
use Rattle.report_text.specs.Stated.{stated}
use Rattle.machine_model.specs.Jobs.{Job}
use Rattle.machine_model.specs.Rules as rules
use Rattle.machine_model.specs.Replay.{Runs}
use Rattle.machine_model.specs.Picks.{picked}
use Rattle.machine_model.specs.Reports.{report}
use Rattle.machine_model.specs.Results.{picked_end}
use Rattle.machine_core.specs.MachineValue.{MachineValue}
use Rattle.machine_core.specs.Machines.{state_in}

-- no step is left
abbrev pub is_ended : MachineValue → Bool
is_ended machine = is_some (rules.end machine.job (state_in machine))

-- the machine after the steps of its job's one worker
abbrev pub after_picked : MachineValue → MachineValue
after_picked machine = record machine { schedule = picked machine.job }

-- the text is the report of the job's one worker, up to this end
pub record IsPickedReport (job : Job) (text : List ℕ) (end : End) : Type 0 where
  pub legal : Runs job (picked job)
  pub ended : picked_end job ≡ Some end
  pub reported : text ≡ report job (picked job) (Some end)
  pub states : stated text ≡ Some (picked job)
