use Rattle.std.proofs.Common.{◌∙◌, ◌+◌, ◌++◌, ◌∷◌, [], List, refl, sym, ap, subst}
use Rattle.std.proofs.lemmas.Option.{slice_get_read}
use Rattle.type_frames.specs.declared.frame.MapFrame.{MapFrame}
use Rattle.type_verify.specs.Checkers.{checked_of}
use Rattle.type_verify.proofs.Gathering.{Gathered, gathered_more}
use Rattle.type_verify.proofs.again.all_frames.Goals as goal

pub loop-place-preserved : goal.loop-place-preserved
loop-place-preserved c =
    let m = checked_of c.args.checker.now in
    let p = c.entry-item.result in
    let place = c.loop-place.place in
    let old = c.loop-place.frames.items in
    let here = slice_get_read c.args.checker.now.method.instrs.now _ place p refl c.loop-place-test.true c.entry-item.is in
    let more = gathered_more m place p c.loop-place.state here c.enter_again.new.state c.in_ok-enter_again.ensures.state c.leave_again.new.state c.in_ok-leave_again.ensures.state
    (c.in_ok-leave_again.ensures.room ∙ c.in_ok-enter_again.ensures.room) c.args.state old c.loop-place.invariant in
    let items = c.in_ok-push.ensures.items ∙ ap (λ (f : MapFrame). old ++ f ∷ []) c.in_ok-held_in.ensures in
    subst (λ (fs : List MapFrame). Gathered m c.args.state (place + 1) c.leave_again.new.state fs) (sym {A = List MapFrame} items) more
