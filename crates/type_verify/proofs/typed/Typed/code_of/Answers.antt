use Rattle.std.proofs.Common.{◌∙◌, List, Option, sym, ap}
use Rattle.std.specs.Prelude.{slice_get}
use Rattle.type_frames.specs.declared.frame.MapFrame.{MapFrame}
use Rattle.type_verify.proofs.Passing.{entry_within, entry_none, passes_typed}
use Rattle.type_verify.proofs.typed.Typed.code_of.Goals as goal

pub invariant_of-result : goal.invariant_of-result
invariant_of-result c =
    let h = c.self.inside.hierarchy.now in
    let t = c.self.inside.tree.now in
    passes_typed h t c.args.method (c.self.invariant c.args.method (entry_within h t c.args.self.now c.args.method c.self.view_is c.requires))

pub returns-in-None : goal.returns-in-None
returns-in-None c =
    let h = c.self.inside.hierarchy.now in
    let t = c.self.inside.tree.now in
    ap (λ (es : List (Option (List MapFrame))). slice_get es c.args.method) (sym c.self.view_is)
    ∙ entry_none h t c.args.method (entry_within h t c.args.self.now c.args.method c.self.view_is c.requires) c.in-None.ensures
