use Rattle.std.proofs.Common.{◌≡◌, ◌∙◌, List, subst}
use Rattle.std.specs.Prelude.{◌==◌, IfOk, find}
use Rattle.type_frames.specs.declared.frame.MapFrame.{MapFrame}
use Rattle.type_verify.proofs.Passing.{frames_are}
use Rattle.type_verify.proofs.typed.TypedCode.frame_at.Goals as goal

pub returns-in-Some : goal.returns-in-Some
returns-in-Some c =
    let h = c.self.inside.hierarchy.now in
    let t = c.self.inside.tree.now in
    subst (λ (fs : List MapFrame). IfOk c.code_frame.result (λ f. f ≡ find (λ x. x.at == c.args.at) fs))
    (frames_are h t c.self.inside.method c.in-Some.member.now c.in-Some.code.now c.in-Some.ensures ∙ c.self.view_is) c.code_frame.ensures
