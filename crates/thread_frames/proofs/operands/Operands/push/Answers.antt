use Rattle.std.proofs.Common.{sym, arith}
use Rattle.thread_frames.proofs.OperandWords.{fewer_than_room}
use Rattle.thread_frames.proofs.operands.Operands.push.Goals as goal

pub push_reserved-requires : goal.push_reserved-requires
push_reserved-requires c = omega (arith, fewer_than_room c.self.inside.values.items c.self.inside.room c.args.self.now c.args.value (sym c.self.view_is) c.requires)
