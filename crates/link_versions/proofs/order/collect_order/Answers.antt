use Rattle.std.proofs.Common.{sym, ap, ◌∙◌}
use Rattle.link_versions.specs.Orders.{lookup_order, from_parent}
use Rattle.link_versions.specs.Collecting.{all_added}
use Rattle.link_versions.specs.Entries.{classes_of}
use Rattle.link_versions.proofs.Collect.{order_is}
use Rattle.link_versions.proofs.order.collect_order.Goals as goal
use Rattle.link_versions.proofs.order.collect_order.Goals.{in-Some+in_ok-add_all, in_default}

pub returns : goal.returns
returns c =
    let order = lookup_order (classes_of c.args.entries.now) in
    c.from_vec.ensures ∙ order_is order c.args.class c.args.interfaces.now c.args.parent c.new-order.result.list.items c.add.new.self.list.items c.add_orders.new.self.list.items c.match-parent.order.list.items
    c.new-order.ensures.empty c.in_ok-add.ensures.list c.in_ok-add_orders.ensures.list
    (elim c.match-parent.branch [
      | in-Some+in_ok-add_all w ↦ ap (λ o. o.list.items) w.order-is ∙ w.in_ok-add_all.ensures.list ∙ ap (all_added c.add_orders.new.self.list.items) (w.order_of.ensures ∙ sym (ap (from_parent order) w.in-Some.is))
      | in_default w ↦ ap (λ o. o.list.items) w.order-is ∙ sym (ap (λ p. all_added c.add_orders.new.self.list.items (from_parent order p)) w.in_default.is)
    ])
