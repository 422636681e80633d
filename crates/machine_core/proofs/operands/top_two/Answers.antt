use Rattle.std.proofs.Common.{reverse}
use Rattle.machine_core.proofs.Stacks.{two_off}
use Rattle.machine_core.proofs.operands.top_two.Goals as goal

pub returns : goal.returns
returns c =
    (reverse c.in_ok-lower.field-0-1.now, two_off c.args.stack.now c.in_ok-upper.others.now c.in_ok-lower.field-0-1.now c.in_ok-upper.upper.now c.in_ok-lower.lower.now c.in_ok-upper.ensures.cases.0 c.in_ok-lower.ensures.cases.0)
