use Rattle.std.proofs.Common.{◌≡◌, drop}
use Rattle.std.specs.List.{flat_map}
use Rattle.link_versions.specs.Orders.{lookup_order}
use Rattle.link_versions.specs.Collecting.{all_added, IsCollected}
use Rattle.link_versions.specs.Entries.{classes_of}
use Rattle.link_versions.proofs.order.Collected.add_orders.Given as goal

abbrev pub invariant-loop-class : goal.invariant-loop-class
invariant-loop-class l = record {
  list : all_added l.self.list.items (flat_map (lookup_order (classes_of l.entries)) (drop l.class-index l.classes)) ≡ all_added l.initial.self.list.items (flat_map (lookup_order (classes_of l.entries)) l.classes);
  collected : IsCollected l.self.list.items l.self.seen;
}
