use Rattle.std.proofs.Common.{◌<◌, length, arith}
use Rattle.std.proofs.lemmas.List.{length-set}
use Rattle.bytecode_local.proofs.OperandCounts.{copied_more}
use Rattle.bytecode_local.proofs.change.Pushed.new.Goals as goal

pub loop-place-preserved : goal.loop-place-preserved
loop-place-preserved c =
    let held = c.loop-place.held in
    let place = c.loop-place.place in
    let room : place < length held = omega arith in
    (simp length-set c.loop-place.invariant.0, copied_more held c.args.values.now place _ room c.loop-place-test.true c.loop-place.invariant.1)
