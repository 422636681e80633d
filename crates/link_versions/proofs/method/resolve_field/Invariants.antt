use Rattle.std.proofs.Common.{◌≡◌, drop}
use Rattle.class_tree.specs.Tree.{first_of}
use Rattle.link_versions.specs.Members.{declared_field}
use Rattle.link_versions.specs.Entries.{classes_of}
use Rattle.link_versions.proofs.method.resolve_field.Given as goal

abbrev pub invariant-loop-at : goal.invariant-loop-at
invariant-loop-at l =
    let find = declared_field (classes_of l.entries) l.name l.desc in first_of find (drop l.at-index l.order) ≡ first_of find l.order
