use Rattle.std.proofs.Common.{◌≡◌, drop}
use Rattle.class_tree.specs.Tree.{code_of}
use Rattle.class_tree.proofs.members.Member.code.Given as goal

abbrev pub invariant-loop-attr : goal.invariant-loop-attr
invariant-loop-attr l = code_of (drop l.attr-index l.attr-items) ≡ code_of l.self.attrs
