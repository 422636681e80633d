use Rattle.std.proofs.Common.{◌≡◌}
use Rattle.link_versions.specs.ReadyCode.{ready_list}
use Rattle.link_versions.proofs.version.ready_list.Given as goal

abbrev pub invariant-loop-at : goal.invariant-loop-at
invariant-loop-at l = l.instrs ≡ ready_list l.tree.pool l.yielded
