use Rattle.std.proofs.Common.{◌≡◌, ◌+◌, ◌*◌, ◌++◌, length, drop}
use Rattle.base_set.specs.BaseTrees.{class_entries, class_indices}
use Rattle.base_set.specs.Rows.{names_of}
use Rattle.base_set.proofs.entries.put_classes.Given as goal

abbrev pub invariant-loop-name : goal.invariant-loop-name
invariant-loop-name l = record {
  entries : l.pool ++ class_entries (length l.pool + 1) (names_of (drop l.name-index l.names)) ≡ l.fn.pool ++ class_entries (length l.fn.pool + 1) (names_of l.names);
  indices : l.indices ++ class_indices (length l.pool + 1) (names_of (drop l.name-index l.names)) ≡ class_indices (length l.fn.pool + 1) (names_of l.names);
  room : length l.pool ≡ length l.fn.pool + 2 * l.name-index;
}
