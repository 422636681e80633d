use Rattle.std.proofs.Common.{◌≡◌, ◌≤◌, ◌*◌, take}
use Rattle.thread_frames.specs.Operands.{words_of}
use Rattle.bytecode_local.proofs.change.words_of.Given as goal

abbrev pub invariant-loop-value : goal.invariant-loop-value
invariant-loop-value l = (l.words ≡ words_of (take l.value-index l.values)) × (l.words ≤ 2 * l.value-index)
