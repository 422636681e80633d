use Rattle.std.proofs.Common.{◌≡◌, take}
use Rattle.type_frames.specs.Stated.{final_signatures}
use Rattle.type_frames.proofs.stated.final_methods.Given as goal

abbrev pub invariant-loop-method : goal.invariant-loop-method
invariant-loop-method l = l.listed ≡ final_signatures l.tree (take l.method-index l.methods)
