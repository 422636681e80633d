use Rattle.std.proofs.Common.{◌<◌, List, length, sym, subst}
use Rattle.class_tree.specs.declared.members.Member.{Member}
use Rattle.link_versions.proofs.Few.{few_fields}
use Rattle.link_versions.proofs.version.indexed_fields.Goals as goal

pub new-requires : goal.new-requires
new-requires c = subst (λ (ms : List Member). length ms < 65536) (sym c.as_slice.ensures) (few_fields _ c.tree.invariant)
