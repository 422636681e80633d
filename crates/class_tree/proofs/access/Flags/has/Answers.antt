use Rattle.class_tree.proofs.Flagged.{has_flag}
use Rattle.class_tree.proofs.access.Flags.has.Goals as goal

pub returns : goal.returns
returns c = rw c.bit.ensures (has_flag c.args.self.bits c.args.flag)
