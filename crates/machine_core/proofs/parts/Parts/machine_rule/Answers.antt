use Rattle.std.proofs.Common.{◌∙◌}
use Rattle.machine_core.proofs.Seen.{machine_told}
use Rattle.machine_core.proofs.parts.Parts.machine_rule.Goals as goal

pub returns : goal.returns
returns c = λ job s h. c.own_rule.ensures ∙ machine_told job c.args.self.now s h
