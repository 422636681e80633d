use Rattle.std.proofs.Common.{◌≡◌, ◌<◌, length, get_or, sym, ap, subst, ◌∙◌}
use Rattle.class_tree.specs.declared.members.Member.{Member}
use Rattle.class_tree.specs.FileTrees.{tree_of}
use Rattle.link_versions.specs.ReadyCode.{IsCoded}
use Rattle.link_versions.proofs.Coded.{coded}
use Rattle.link_versions.proofs.version.ready_codes.Goals as goal

pub ready_code-requires : goal.ready_code-requires
ready_code-requires c =
    let t = tree_of c.tree.inside in
    let items = c.as_slice-method-items.ensures in
    let low : c.loop-method.method-index < length t.methods = subst (λ ms. c.loop-method.method-index < length ms) items c.loop-method-test.true in
    let same : get_or t.methods c.loop-method.method-index c.method-item.result ≡ c.method-item.result = ap (λ ms. get_or ms c.loop-method.method-index c.method-item.result) (sym items) ∙ sym c.method-item.is in
    subst (λ (m : Member). IsCoded m) same (coded t c.tree.invariant c.loop-method.method-index c.method-item.result low)
