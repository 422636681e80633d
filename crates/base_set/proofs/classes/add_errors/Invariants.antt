use Rattle.std.proofs.Common.{◌≡◌, ◌++◌, take, map}
use Rattle.base_set.specs.BaseTrees.{base_tree}
use Rattle.base_set.specs.Rows.{error_of}
use Rattle.base_set.proofs.classes.add_errors.Given as goal

abbrev pub invariant-loop-row : goal.invariant-loop-row
invariant-loop-row l = l.classes.items ≡ l.fn.classes.items ++ map (λ row. base_tree (error_of row)) (take l.row-index l.rows)
