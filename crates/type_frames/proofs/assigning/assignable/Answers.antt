use Rattle.std.proofs.Common.{◌≡◌, ap, subst, sym, ◌∙◌, Bool}
use Rattle.std.specs.Bool.{Decides}
use Rattle.type_frames.specs.Assignable.{is_assignable, IsAssignable}
use Rattle.type_frames.specs.Seen.{type_seen}
use Rattle.type_frames.proofs.Standing.{assignable_decides}
use Rattle.type_frames.proofs.assigning.assignable.Goals as goal

pub returns-clause-exact : goal.returns-clause-exact
returns-clause-exact c =
    let h = c.args.hierarchy.now in
    let same : c.stands_for.result ≡ is_assignable h c.args.from.now c.args.to.now =
    c.stands_for.ensures ∙ ap (λ t. is_assignable h t (type_seen c.seen-2.result)) c.seen.ensures ∙ ap (is_assignable h c.args.from.now) c.seen-2.ensures in
    subst (λ (b : Bool). Decides b (IsAssignable h c.args.from.now c.args.to.now)) (sym same) (assignable_decides h c.args.from.now c.args.to.now)
