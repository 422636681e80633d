use Rattle.std.proofs.Common.{◌≡◌, take}
use Rattle.class_tree.proofs.copies.ItemsCloneIn.clone_in.Given as goal

abbrev pub invariant-loop-item : goal.invariant-loop-item
invariant-loop-item g l = l.copies.items ≡ take l.item-index l.item-items
