use Rattle.std.proofs.Common.{◌≡◌, drop}
use Rattle.link_versions.specs.Collecting.{all_added, IsCollected}
use Rattle.link_versions.proofs.order.Collected.add_all.Given as goal

abbrev pub invariant-loop-class : goal.invariant-loop-class
invariant-loop-class l = record {
  list : all_added l.self.list.items (drop l.class-index l.classes) ≡ all_added l.initial.self.list.items l.classes;
  collected : IsCollected l.self.list.items l.self.seen;
}
