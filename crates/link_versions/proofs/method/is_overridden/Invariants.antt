use Rattle.std.proofs.Common.{◌≡◌, drop}
use Rattle.std.specs.List.{list_any}
use Rattle.link_versions.specs.Concrete.{overrides_at}
use Rattle.link_versions.specs.Entries.{classes_of}
use Rattle.link_versions.proofs.method.is_overridden.Given as goal

abbrev pub invariant-loop-at : goal.invariant-loop-at
invariant-loop-at l =
    let test = overrides_at (classes_of l.entries) l.class l.name l.desc l.method in list_any test (drop l.at-index l.order) ≡ list_any test l.order
