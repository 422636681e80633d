use Rattle.std.proofs.Common.{◌≡◌, drop}
use Rattle.class_tree.specs.Tree.{constant_of}
use Rattle.class_tree.proofs.members.Member.constant.Given as goal

abbrev pub invariant-loop-attr : goal.invariant-loop-attr
invariant-loop-attr l = constant_of (drop l.attr-index l.attr-items) ≡ constant_of l.self.attrs
