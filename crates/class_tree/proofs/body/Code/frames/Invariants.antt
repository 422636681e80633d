use Rattle.std.proofs.Common.{◌≡◌, drop}
use Rattle.class_tree.specs.Tree.{frames_of}
use Rattle.class_tree.proofs.body.Code.frames.Given as goal

abbrev pub invariant-loop-attr : goal.invariant-loop-attr
invariant-loop-attr l = frames_of (drop l.attr-index l.attr-items) ≡ frames_of l.self.attrs
