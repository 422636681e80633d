-- The report of a machine after the picked steps.
use Rattle.std.proofs.Common.{◌≡◌, ◌∙◌, ◌≤◌, ◌<◌, ◌^◌, ℕ, List, [], length, Some, false, refl, sym, ap, subst, arith}
use Rattle.ti_ids.specs.declared.actor.Actor.{Actor}
use Rattle.ti_ids.specs.declared.actor.End.{End}
use Rattle.report_text.specs.declared.parts.ReportParts.{ReportParts}
use Rattle.report_text.specs.Named.{AllNamed}
use Rattle.report_text.specs.Runs.{runs_of}
use Rattle.report_text.specs.Stated.{stated}
use Rattle.report_text.specs.Texts.{report_text}
use Rattle.machine_model.specs.Jobs.{Job}
use Rattle.machine_model.specs.Rules as rules
use Rattle.machine_model.specs.Replay.{Runs}
use Rattle.machine_model.specs.Picks.{picked}
use Rattle.machine_model.specs.Reports.{report_parts}
use Rattle.machine_core.specs.MachineValue.{MachineValue}
use Rattle.machine_core.specs.Machines.{state_in}
use Rattle.host_run.specs.Runs.{IsPickedReport, after_picked}

-- what a machine tells of its report, and a text that is made of it
pub record IsTold (m : MachineValue) (parts : ReportParts) (text : List ℕ) : Type 0 where
  pub told : m.spent ≡ false → parts ≡ report_parts m.job m.schedule (rules.end m.job (state_in m))
  pub legal : Runs m.job m.schedule
  pub named : AllNamed m.schedule
  pub few : length m.schedule ≤ 4000000
  pub written : text ≡ report_text parts
  pub states : (schedule : List Actor) → parts.runs ≡ runs_of schedule → AllNamed schedule → length schedule < 10 ^ 9 → stated text ≡ Some schedule

told_picked : (job : Job) (parts : ReportParts) (text : List ℕ) (end : End) → IsTold (record { job = job; schedule = picked job; spent = false }) parts text → parts.end ≡ Some end → IsPickedReport job text end
told_picked job parts text end t is =
    let told = t.told refl in
    let ended = sym (ap (λ (p : ReportParts). p.end) told) ∙ is in record {
      legal = t.legal;
      ended = ended;
      reported = t.written ∙ ap report_text told ∙ ap (λ (e : _). report_text (report_parts job (picked job) e)) ended;
      states = t.states (picked job) (ap (λ (p : ReportParts). p.runs) told) t.named (omega (arith, t.few));
    }

pub picked_told : (job : Job) (first m : MachineValue) (parts : ReportParts) (text : List ℕ) (end : End) → first ≡ record { job = job; schedule = []; spent = false } → m ≡ after_picked first
    → IsTold m parts text → parts.end ≡ Some end → IsPickedReport job text end
picked_told job first m parts text end new run t is =
    let whole : m ≡ record { job = job; schedule = picked job; spent = false } = run ∙ ap after_picked new in
    told_picked job parts text end (subst (λ (x : MachineValue). IsTold x parts text) whole t) is
