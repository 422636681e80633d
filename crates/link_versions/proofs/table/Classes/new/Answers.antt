use Rattle.std.proofs.Common.{ap, arith, length}
use Rattle.link_versions.specs.Entries.{classes_of}
use Rattle.link_versions.proofs.Tables.{IsTable-none}
use Rattle.link_versions.proofs.table.Classes.new.Goals as goal

pub invariant_of-result : goal.invariant_of-result
invariant_of-result c = (IsTable-none c.new.result c.new.ensures, omega (arith, ap length c.new.ensures))

pub returns : goal.returns
unfolding classes_of
returns c = ap classes_of c.new.ensures
