use Rattle.std.proofs.Common.{◌≡◌, ◌+◌, ◌*◌, ◌++◌, length, drop, map}
use Rattle.base_set.specs.BaseTrees.{field_entries, fields_from}
use Rattle.base_set.specs.Rows.{field_of}
use Rattle.base_set.proofs.members.put_fields.Given as goal

abbrev pub invariant-loop-row : goal.invariant-loop-row
invariant-loop-row l = record {
  entries : l.pool ++ field_entries (map field_of (drop l.row-index l.rows)) ≡ l.fn.pool ++ field_entries (map field_of l.rows);
  fields : l.fields ++ fields_from (length l.pool + 1) (map field_of (drop l.row-index l.rows)) ≡ fields_from (length l.fn.pool + 1) (map field_of l.rows);
  room : length l.pool ≡ length l.fn.pool + 2 * l.row-index;
}
