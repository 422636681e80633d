use Rattle.std.proofs.Common.{◌≡◌, take}
use Rattle.thread_frames.specs.Operands.{words_of}
use Rattle.thread_frames.specs.Arguments.{topmost}
use Rattle.thread_frames.proofs.operands.Operands.words_of_top.Given as goal

abbrev pub invariant-loop-value : goal.invariant-loop-value
invariant-loop-value l = l.words ≡ words_of (take l.value-index (topmost l.fn.count l.fn.self))
