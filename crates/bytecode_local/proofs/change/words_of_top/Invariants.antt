use Rattle.std.proofs.Common.{◌≡◌, ◌≤◌, ◌*◌, take}
use Rattle.thread_frames.specs.Operands.{words_of}
use Rattle.bytecode_local.proofs.change.words_of_top.Given as goal

abbrev pub invariant-loop-depth : goal.invariant-loop-depth
invariant-loop-depth l = (l.words ≡ words_of (take l.depth l.stack.entries)) × (l.words ≤ 2 * l.depth)
