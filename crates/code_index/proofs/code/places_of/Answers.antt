use Rattle.std.proofs.Common.{refl, arith}
use Rattle.std.specs.Prelude.{slice_index_or}
use Rattle.code_index.proofs.Placing.{below_set, one_more}
use Rattle.code_index.proofs.code.places_of.Goals as goal

pub loop-place-preserved : goal.loop-place-preserved
loop-place-preserved c =
    let instrs = c.args.instrs.now in
    let places = c.loop-place.places.items in
    let k = c.loop-place.place in
    let own = c.index-instrs-place.result in
    let below = c.loop-place.invariant.0 in (
      below_set instrs places (slice_index_or instrs k own).0 k below,
      one_more instrs places k (slice_index_or instrs k own).0 own c.requires (omega arith) refl (below k own (omega arith)) c.loop-place.invariant.1,
    )
