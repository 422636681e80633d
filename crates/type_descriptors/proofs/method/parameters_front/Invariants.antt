use Rattle.std.proofs.Common.{length}
use Rattle.type_descriptors.proofs.MethodTexts.{AreSeen}
use Rattle.type_descriptors.proofs.method.parameters_front.Given as goal

abbrev pub invariant-loop-behind : goal.invariant-loop-behind
invariant-loop-behind l = AreSeen l.text l.types.items l.rest

abbrev pub decreases-loop-behind : goal.decreases-loop-behind
decreases-loop-behind l = length l.rest
