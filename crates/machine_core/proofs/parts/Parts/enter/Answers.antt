use Rattle.std.proofs.Common.{◌-◌, refl, arith}
use Rattle.machine_model.specs.declared.ThreadRule.TheVariants as rules
use Rattle.machine_core.proofs.Stepped.{at_number}
use Rattle.machine_core.proofs.Performed.{enter_stands}
use Rattle.machine_core.proofs.parts.Parts.enter.Goals as goal

pub returns : goal.returns
returns c = λ job s h.
    at_number job s _ rules.Enter c.args.number (c.args.number - 1) (omega arith)
    (enter_stands job c.args.self.now s (c.args.number - 1) c.in_ok-frame.frame _ c.enter_method.new.threads h refl c.in_ok-frame.ensures c.in_ok-enter_method.ensures)
