use Rattle.std.proofs.Common.{◌∙◌, ap}
use Rattle.type_frames.specs.Hierarchies.{Known, class_named}
use Rattle.type_frames.proofs.Found.{named-lookup}
use Rattle.type_frames.proofs.known.Hierarchy.named.Goals as goal

pub returns : goal.returns
returns c = c.get.ensures.value ∙ named-lookup _ _ c.self.invariant ∙ ap (λ (h : Known). class_named h c.args.name.now) c.self.view_is
