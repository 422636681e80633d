use Rattle.std.proofs.Common.{All, take}
use Rattle.std.specs.Prelude.{IsSome, IfSome}
use Rattle.class_tree.specs.Tree.{class_at}
use Rattle.link_versions.specs.Classes.{number_of}
use Rattle.run_cases.proofs.classes.are_there.Given as goal

abbrev pub invariant-loop-index : goal.invariant-loop-index
invariant-loop-index l = All (λ index. IfSome (class_at l.tree.pool index) (λ n. IsSome (number_of l.classes n))) (take l.index-index l.index-items)
