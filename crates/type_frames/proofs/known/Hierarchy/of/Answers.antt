use Rattle.std.proofs.Common.{◌∷◌, ◌++◌, [], ◌∙◌, take, ap, sym}
use Rattle.std.proofs.lemmas.List.{take_more, take_all}
use Rattle.class_tree.specs.Trees.{Tree}
use Rattle.type_frames.specs.Hierarchies.{Known, class_named}
use Rattle.type_frames.specs.Stated.{stated_class, with_class, stated}
use Rattle.type_frames.proofs.Stating.{named_stated, stated_push}
use Rattle.type_frames.proofs.known.Hierarchy.of.Goals as goal

pub loop-tree-preserved : goal.loop-tree-preserved
loop-tree-preserved c =
    let tree = c.tree-item.result in
    let before = take c.loop-tree.tree-index c.args.trees.now in
    c.in_ok-add_tree.ensures.classes
    ∙ ap (λ (known : Known). with_class known (stated_class tree)) c.loop-tree.invariant
    ∙ sym (stated_push before tree)
    ∙ ap (λ (t : Tree). stated (before ++ t ∷ [])) c.tree-item.is
    ∙ ap stated (sym (take_more c.args.trees.now c.loop-tree.tree-index tree c.loop-tree-test.true))

pub returns-clause-found : goal.returns-clause-found
returns-clause-found c name =
    ap (λ (known : Known). class_named known name) (c.loop-tree.invariant ∙ ap stated (take_all c.loop-tree.tree-index c.args.trees.now c.loop-tree-test.false))
    ∙ named_stated c.args.trees.now name
