use Rattle.std.proofs.Common.{◌∙◌, refl, sym, ap, Some}
use Rattle.std.proofs.lemmas.Option.{slice_get_read}
use Rattle.type_verify.specs.Checkers.{checked_of}
use Rattle.type_verify.proofs.Gathering.{sought_here, sought_more}
use Rattle.type_verify.proofs.again.one_frame.Goals as goal

pub returns-then-entry-at : goal.returns-then-entry-at
returns-then-entry-at c =
    let m = checked_of c.args.checker.now in
    let p = c.entry-item.result in
    let place = c.loop-place.place in
    let here = slice_get_read c.args.checker.now.method.instrs.now _ place p refl c.loop-place-test.true c.entry-item.is in
    ap Some c.in_ok-held_in.ensures ∙ sym (sought_here m place p c.loop-place.state here c.enter_again.new.state c.in_ok-enter_again.ensures.state c.args.state c.args.at c.loop-place.invariant c.if-entry-at.true)

pub loop-place-preserved : goal.loop-place-preserved
loop-place-preserved c =
    let m = checked_of c.args.checker.now in
    let p = c.entry-item.result in
    let place = c.loop-place.place in
    let here = slice_get_read c.args.checker.now.method.instrs.now _ place p refl c.loop-place-test.true c.entry-item.is in
    sought_more m place p c.loop-place.state here c.enter_again.new.state c.in_ok-enter_again.ensures.state c.leave_again.new.state c.in_ok-leave_again.ensures.state
    (c.in_ok-leave_again.ensures.room ∙ c.in_ok-enter_again.ensures.room) c.args.state c.args.at c.loop-place.invariant c.if-entry-at.false
