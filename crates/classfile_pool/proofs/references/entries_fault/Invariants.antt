use Rattle.std.proofs.Common.{◌≡◌, ◌+◌, drop, length}
use Rattle.std.specs.Prelude.{flat_map}
use Rattle.class_tree.specs.Spelling.{const_bytes}
use Rattle.classfile_pool.specs.PoolReading.{entries_fault}
use Rattle.classfile_pool.proofs.references.entries_fault.Given as goal

abbrev pub invariant-loop-entry : goal.invariant-loop-entry
invariant-loop-entry l = record {
  left : entries_fault l.pool l.start l.pool ≡ entries_fault l.pool l.at (drop l.entry-index l.pool);
  within : l.at + length (flat_map const_bytes (drop l.entry-index l.pool)) ≡ l.start + length (flat_map const_bytes l.pool);
}
