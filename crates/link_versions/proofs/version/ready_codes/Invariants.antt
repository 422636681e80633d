use Rattle.std.proofs.Common.{◌≡◌, map, take, All}
use Rattle.link_versions.specs.ReadyCode.{ready_code}
use Rattle.link_versions.specs.Entries.{RisesIfThere}
use Rattle.link_versions.proofs.version.ready_codes.Given as goal

abbrev pub invariant-loop-method : goal.invariant-loop-method
invariant-loop-method l = record {
  made : l.codes ≡ map (ready_code l.tree.pool) (take l.method-index l.method-items);
  rising : All RisesIfThere l.codes;
}
