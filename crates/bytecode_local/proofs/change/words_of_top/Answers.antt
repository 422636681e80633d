use Rattle.std.proofs.Common.{sym, arith}
use Rattle.bytecode_local.proofs.OperandCounts.{words_of_more, words_at_most_two}
use Rattle.bytecode_local.proofs.change.words_of_top.Goals as goal

pub loop-depth-preserved : goal.loop-depth-preserved
loop-depth-preserved c =
    let more = words_of_more c.args.stack.now.entries c.loop-depth.depth c.in-Some.value (sym c.in-Some.ensures) in
    let two = words_at_most_two c.in-Some.value in
    (omega (arith, more, c.value_words.ensures, c.loop-depth.invariant.0), omega (arith, two, c.value_words.ensures, c.loop-depth.invariant.1))
