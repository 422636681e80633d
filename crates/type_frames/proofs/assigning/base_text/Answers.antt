use Rattle.std.proofs.Common.{◌∙◌, rules, arith}
use Rattle.type_frames.proofs.Bases.{base_behind_at}
use Rattle.type_frames.proofs.assigning.base_text.Goals as goal

pub returns : goal.returns
returns c = c.plain_base.ensures ∙ base_behind_at c.args.text.now c.split_at.result.1.now c.dimensions-count.result c.dimensions-count.ensures.value (search rules) (omega arith)
