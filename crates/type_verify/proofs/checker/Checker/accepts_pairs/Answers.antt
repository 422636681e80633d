use Rattle.std.proofs.Common.{◌∙◌}
use Rattle.type_verify.proofs.Mapped.{all_mapped}
use Rattle.type_verify.proofs.checker.Checker.accepts_pairs.Goals as goal

pub returns : goal.returns
returns c = c.accepts_each.ensures ∙ all_mapped _ _ c.args.pairs.now
