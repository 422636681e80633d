use Rattle.std.proofs.Common.{◌-◌, ℕ, Some, arith}
use Rattle.ti_ids.specs.declared.state.InitState.TheVariants as states
use Rattle.machine_model.specs.declared.ThreadRule.TheVariants as rules
use Rattle.machine_core.specs.declared.parts.Parts.{Parts}
use Rattle.machine_core.proofs.Stepped.{at_number_by, begin_init_stands}
use Rattle.machine_core.proofs.parts.Parts.begin_init.Goals as goal

pub returns : goal.returns
returns c = λ job s h.
    at_number_by job s (λ (k : ℕ). let q : Parts = record c.args.self.now { threads = c.push_frame.new.threads; class = Some (states.InProgress (record { 0 = k })) } in q) rules.BeginInit c.args.number (c.args.number - 1) (omega arith)
    (begin_init_stands job c.args.self.now s (c.args.number - 1) c.push_frame.new.threads h c.in_ok-push_frame.ensures)
