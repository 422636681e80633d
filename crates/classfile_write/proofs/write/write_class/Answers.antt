use Rattle.classfile_write.proofs.Fitting.{tree_fits}
use Rattle.classfile_write.proofs.write.write_class.Goals as goal

pub put_pool-requires-clause-short : goal.put_pool-requires-clause-short
put_pool-requires-clause-short c = rw c.as_slice.ensures (tree_fits _ c.tree.invariant).short

pub put_pool-requires-clause-entries : goal.put_pool-requires-clause-entries
put_pool-requires-clause-entries c = rw c.as_slice.ensures (tree_fits _ c.tree.invariant).entries
