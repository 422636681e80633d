use Rattle.std.proofs.Common.{◌≡◌, ◌≤◌, ◌++◌, length, drop}
use Rattle.bytecode_local.proofs.change.push_all.Given as goal

abbrev pub invariant-loop-left : goal.invariant-loop-left
invariant-loop-left l = (l.left ≤ length l.values) × (l.stack ≡ record { entries = drop l.left l.values ++ l.fn.stack.entries; room = l.fn.stack.room })

abbrev pub decreases-loop-left : goal.decreases-loop-left
decreases-loop-left l = l.left
