use Rattle.std.proofs.Common.{◌≡◌}
use Rattle.thread_frames.specs.Arguments.{without_topmost}
use Rattle.thread_frames.proofs.operands.Operands.drop_top.Given as goal

abbrev pub invariant-loop-dropped : goal.invariant-loop-dropped
invariant-loop-dropped l = l.self ≡ without_topmost l._dropped l.fn.self
