use Rattle.std.proofs.Common.{◌<◌, List, length, sym, subst}
use Rattle.class_tree.specs.declared.members.Member.{Member}
use Rattle.link_versions.proofs.Few.{few_methods}
use Rattle.link_versions.proofs.version.indexed_methods.Goals as goal

pub new-requires : goal.new-requires
new-requires c = subst (λ (ms : List Member). length ms < 65536) (sym c.as_slice.ensures) (few_methods _ c.tree.invariant)
