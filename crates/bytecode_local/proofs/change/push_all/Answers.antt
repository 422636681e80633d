use Rattle.bytecode_local.proofs.OperandCounts.{room_for_next}
use Rattle.bytecode_local.proofs.change.push_all.Goals as goal

pub push-requires : goal.push-requires
push-requires c = room_for_next c.args.values.now c.args.stack.now c.loop-left.stack c.loop-left.left _ c.loop-left-test.true c.loop-left.invariant.0 c.loop-left.invariant.1 c.requires
