use Rattle.std.proofs.Common.{◌≡◌, drop}
use Rattle.class_tree.specs.Tree.{first_of}
use Rattle.link_versions.specs.Resolution.{candidate}
use Rattle.link_versions.specs.Entries.{classes_of}
use Rattle.link_versions.proofs.method.first_candidate.Given as goal

abbrev pub invariant-loop-at : goal.invariant-loop-at
invariant-loop-at l =
    let find = candidate (classes_of l.entries) l.class l.name l.desc in first_of find (drop l.at-index l.order) ≡ first_of find l.order
