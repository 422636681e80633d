use Rattle.std.proofs.Common.{ℕ, List, take, get_or, sym, ap, subst, ◌∙◌, All, Option}
use Rattle.std.specs.Prelude.{IsSome, IfSome}
use Rattle.std.proofs.lemmas.List.{take_more, take_all}
use Rattle.std.proofs.lemmas.List.Elements.{All-push}
use Rattle.jv_names.specs.Names.{Name}
use Rattle.class_tree.specs.Trees.{Tree}
use Rattle.class_tree.specs.Tree.{class_at}
use Rattle.link_versions.specs.Classes.{number_of}
use Rattle.run_cases.proofs.classes.are_there.Goals as goal

pub loop-index-preserved : goal.loop-index-preserved
loop-index-preserved c =
    let xs = c.as_slice-index-items.result.now in
    let i = c.loop-index.index-index in
    let known : Option Name → Type 0 = λ name. IfSome name (λ n. IsSome (number_of c.args.classes.now n)) in
    let P : ℕ → Type 0 = λ index. known (class_at c.args.tree.now.pool index) in
    let here : P (get_or xs i 0) = subst known c.class_at.ensures (c.is_there.ensures c.if-not-is_there.false) in
    subst (λ (ys : List ℕ). All P ys) (sym (take_more xs i 0 c.loop-index-test.true)) (All-push P (take i xs) (get_or xs i 0) c.loop-index.invariant here)

pub returns : goal.returns
returns c = λ _.
    let xs = c.as_slice-index-items.result.now in
    let P : ℕ → Type 0 = λ index. IfSome (class_at c.args.tree.now.pool index) (λ n. IsSome (number_of c.args.classes.now n)) in
    subst (λ (ys : List ℕ). All P ys) (take_all c.loop-index.index-index xs c.loop-index-test.false ∙ c.as_slice-index-items.ensures ∙ ap (λ (t : Tree). t.interfaces) c.tree.view_is) c.loop-index.invariant
