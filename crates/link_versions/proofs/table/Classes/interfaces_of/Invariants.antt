use Rattle.std.proofs.Common.{◌≡◌, ℕ, ◌++◌, drop, Option}
use Rattle.std.specs.List.{filter_map}
use Rattle.std.specs.Option.{option_and_then}
use Rattle.ti_ids.specs.declared.number.ClassNo.{ClassNo}
use Rattle.class_tree.specs.Tree.{class_at}
use Rattle.link_versions.specs.Classes.{number_of}
use Rattle.link_versions.proofs.table.Classes.interfaces_of.Given as goal

abbrev pub invariant-loop-index : goal.invariant-loop-index
invariant-loop-index l =
    let find : ℕ → Option ClassNo = λ index. option_and_then (number_of l.self) (class_at l.tree.pool index) in
    l.interfaces ++ filter_map find (drop l.index-index l.index-items) ≡ filter_map find l.index-items
