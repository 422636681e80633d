use Rattle.std.proofs.Common.{◌≡◌, ◌<◌, ◌∙◌, ℕ, List, sym, ap, length, get_or, arith}
use Rattle.std.proofs.lemmas.List.{length-map, get_or-map}
use Rattle.class_tree.specs.declared.frames.VerificationType.{VerificationType}
use Rattle.class_tree.specs.declared.pool.Const.{Const}
use Rattle.type_frames.specs.declared.vtype.VType.{VType}
use Rattle.type_frames.specs.Types.{type_words}
use Rattle.type_frames.specs.StackMaps.{type_listed, types_listed}
use Rattle.type_frames.proofs.Fitting.{fits_more, fits_not}
use Rattle.type_states.proofs.reading.fits.Goals as goal

there : (pool : List Const) (listed : List VerificationType) (k : ℕ) (d : VerificationType) (e : VType) → k < length listed → type_listed pool (get_or listed k d) ≡ get_or (types_listed pool listed) k e
there pool listed k d e lt = sym (get_or-map (type_listed pool) listed k d e lt)

pub returns-then-left-need : goal.returns-then-left-need
returns-then-left-need c =
    let all = length-map c.args.types.now (type_listed c.args.pool.now) in
    let test = c.loop-listed-test.true in
    sym (fits_not (types_listed c.args.pool.now c.args.types.now) c.loop-listed.listed-index c.width-need.result c.loop-listed.left _ (omega arith)
    (there c.args.pool.now c.args.types.now c.loop-listed.listed-index _ _ test)
    (c.width-need.ensures ∙ ap (λ (t : VType). length (type_words t)) c.type_ref.ensures) c.if-left-need.true)
    ∙ c.loop-listed.invariant

pub loop-listed-preserved : goal.loop-listed-preserved
loop-listed-preserved c =
    let all = length-map c.args.types.now (type_listed c.args.pool.now) in
    let test = c.loop-listed-test.true in
    fits_more (types_listed c.args.pool.now c.args.types.now) c.loop-listed.listed-index c.width-need.result c.loop-listed.left _ (omega arith)
    (there c.args.pool.now c.args.types.now c.loop-listed.listed-index _ _ test)
    (c.width-need.ensures ∙ ap (λ (t : VType). length (type_words t)) c.type_ref.ensures) c.if-left-need.false
    ∙ c.loop-listed.invariant
