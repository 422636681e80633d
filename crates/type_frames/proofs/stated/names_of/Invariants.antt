use Rattle.std.proofs.Common.{◌≡◌, take}
use Rattle.type_frames.specs.Stated.{names_at}
use Rattle.type_frames.proofs.stated.names_of.Given as goal

abbrev pub invariant-loop-index : goal.invariant-loop-index
invariant-loop-index l = l.names ≡ names_at l.tree (take l.index-index l.indices)
