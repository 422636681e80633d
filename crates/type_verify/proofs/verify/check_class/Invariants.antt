use Rattle.std.proofs.Common.{ℕ, ◌<◌}
use Rattle.type_frames.specs.TypeChecks.{Passes}
use Rattle.type_verify.proofs.verify.check_class.Given as goal

abbrev pub invariant-loop-method : goal.invariant-loop-method
invariant-loop-method l = (k : ℕ) → k < l.method → Passes l.hierarchy l.tree k
