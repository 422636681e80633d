use Rattle.std.proofs.Common.{length}
use Rattle.jv_names.specs.DescriptorReading.{AreTypes}
use Rattle.jv_names.proofs.descriptor.parameters_at.Given as goal

abbrev pub invariant-loop-after : goal.invariant-loop-after
invariant-loop-after l = AreTypes l.units l.parameters l.rest

abbrev pub decreases-loop-after : goal.decreases-loop-after
decreases-loop-after l = length l.rest
