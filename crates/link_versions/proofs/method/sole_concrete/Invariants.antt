use Rattle.std.proofs.Common.{◌≡◌, ◌++◌, drop}
use Rattle.std.specs.Prelude.{option_to_list}
use Rattle.std.specs.List.{filter_map}
use Rattle.link_versions.specs.Concrete.{concrete_at}
use Rattle.link_versions.specs.Entries.{classes_of}
use Rattle.link_versions.proofs.method.sole_concrete.Given as goal

abbrev pub invariant-loop-at : goal.invariant-loop-at
invariant-loop-at l =
    let find = concrete_at (classes_of l.entries) l.class l.name l.desc in
    option_to_list l.found ++ filter_map find (drop l.at-index l.order) ≡ filter_map find l.order
