use Rattle.std.proofs.Common.{◌-◌, arith, Result, Ok, Err}
use Rattle.std.specs.Prelude.{OnOk}
use Rattle.machine_model.specs.declared.ThreadRule.TheVariants as rules
use Rattle.machine_core.proofs.Stepped.{at_number}
use Rattle.machine_core.proofs.Performed.{execute_stands}
use Rattle.machine_core.proofs.parts.Parts.execute.Goals as goal

on_ok : {T E P Q : Type 0} (r : Result T E) → OnOk r P → (P → Q) → OnOk r Q
on_ok (Ok x) h f = f h
on_ok (Err e) h f = tt

pub returns : goal.returns
returns c =
    on_ok c.print_done.result c.print_done.ensures (λ text s h.
    at_number c.args.job.now s _ rules.Execute c.args.number (c.args.number - 1) (omega arith)
    (execute_stands c.args.job.now c.args.self.now s (c.args.number - 1) c.file.result.now c.in_ok-done.done c.run_thread.new.threads c.print_done.new.output h c.file.ensures.tree c.in_ok-done.ensures text))
