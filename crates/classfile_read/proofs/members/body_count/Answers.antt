use Rattle.std.proofs.Common.{rules}
use Rattle.std.proofs.lemmas.List.Sums.{length-filter}
use Rattle.classfile_read.proofs.members.body_count.Goals as goal

pub returns : goal.returns
returns c = rw length-filter (search rules)
