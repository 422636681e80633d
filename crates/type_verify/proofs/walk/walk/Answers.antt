use Rattle.std.proofs.Common.{◌∙◌, refl, ap, arith}
use Rattle.std.proofs.lemmas.Option.{slice_get_read}
use Rattle.type_handlers.specs.Coverage.{Coverage}
use Rattle.type_verify.specs.Checkers.{checked_of}
use Rattle.type_verify.proofs.Offsets.{reached_later}
use Rattle.type_verify.proofs.Walked.{walk_more, walk_offends}
use Rattle.type_verify.proofs.walk.walk.Goals as goal

pub step-requires-clause-reached : goal.step-requires-clause-reached
step-requires-clause-reached c =
    let instrs = c.args.checker.now.method.instrs.now in
    let here = slice_get_read instrs _ c.loop-place.place c.entry-item.result refl c.loop-place-test.true c.entry-item.is in
    λ x e. c.loop-place.invariant.reached x e c.loop-place.place c.entry-item.result (omega arith) here

pub returns-in-Err-Refused : goal.returns-in-Err-Refused
returns-in-Err-Refused c =
    let instrs = c.args.checker.now.method.instrs.now in
    let here = slice_get_read instrs _ c.loop-place.place c.entry-item.result refl c.loop-place-test.true c.entry-item.is in
    walk_offends (checked_of c.args.checker.now) c.loop-place.place c.loop-place.state c.entry-item.result c.loop-place.invariant.walked here (rw c.in-Err-Refused.field-0-is at c.in-Err-Refused.ensures.left)

pub loop-place-preserved : goal.loop-place-preserved
loop-place-preserved c =
    let instrs = c.args.checker.now.method.instrs.now in
    let here = slice_get_read instrs _ c.loop-place.place c.entry-item.result refl c.loop-place-test.true c.entry-item.is in
    record {
      walked = walk_more (checked_of c.args.checker.now) c.args.checker.now.map c.loop-place.place c.loop-place.state c.step.new.state c.entry-item.result refl c.requires.ready.rooms c.loop-place.invariant.walked here c.in-Ok.ensures.left;
      handlers = ap (λ (v : Coverage). v.handlers) c.in-Ok.ensures.covering ∙ c.loop-place.invariant.handlers;
      reached = λ x e k p le at. reached_later instrs c.loop-place.place c.entry-item.result c.step.new.covering.reached c.requires.ready.rising here (ap (λ (v : Coverage). v.reached) c.in-Ok.ensures.covering) x e k p (omega arith) at;
    }
