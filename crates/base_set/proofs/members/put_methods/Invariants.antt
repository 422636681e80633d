use Rattle.std.proofs.Common.{◌≡◌, ◌+◌, ◌*◌, ◌++◌, length, drop, map}
use Rattle.base_set.specs.BaseTrees.{method_entries, methods_from}
use Rattle.base_set.specs.Rows.{method_of}
use Rattle.base_set.proofs.members.put_methods.Given as goal

abbrev pub invariant-loop-row : goal.invariant-loop-row
invariant-loop-row l = record {
  entries : l.pool ++ method_entries (map method_of (drop l.row-index l.rows)) ≡ l.fn.pool ++ method_entries (map method_of l.rows);
  methods : l.methods ++ methods_from (length l.pool + 1) (map method_of (drop l.row-index l.rows)) ≡ methods_from (length l.fn.pool + 1) (map method_of l.rows);
  room : length l.pool ≡ length l.fn.pool + 2 * l.row-index;
}
