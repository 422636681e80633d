use Rattle.std.proofs.Common.{below_more}
use Rattle.type_verify.proofs.verify.check_class.Goals as goal

pub loop-method-preserved : goal.loop-method-preserved
loop-method-preserved c = below_more _ _ c.loop-method.invariant c.in_ok-check_method.ensures
