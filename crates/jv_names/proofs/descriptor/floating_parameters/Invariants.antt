use Rattle.std.proofs.Common.{length}
use Rattle.jv_names.proofs.DescriptorFlaws.{AreRead}
use Rattle.jv_names.proofs.descriptor.floating_parameters.Given as goal

abbrev pub invariant-loop-after : goal.invariant-loop-after
invariant-loop-after l = AreRead l.units l.floating l.rest

abbrev pub decreases-loop-after : goal.decreases-loop-after
decreases-loop-after l = length l.rest
