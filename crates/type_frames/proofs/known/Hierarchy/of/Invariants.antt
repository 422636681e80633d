use Rattle.std.proofs.Common.{◌≡◌, take}
use Rattle.type_frames.specs.Stated.{stated}
use Rattle.type_frames.proofs.known.Hierarchy.of.Given as goal

abbrev pub invariant-loop-tree : goal.invariant-loop-tree
invariant-loop-tree l = l.known ≡ stated (take l.tree-index l.trees)
