use Rattle.std.proofs.Common.{◌∙◌}
use Rattle.machine_core.proofs.Seen.{any_told}
use Rattle.machine_core.proofs.parts.Parts.any_ready.Goals as goal

pub returns : goal.returns
returns c = λ job s h. c.any_rule.ensures ∙ any_told job c.args.self.now s h
