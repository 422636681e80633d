use Rattle.type_verify.proofs.Passing.{class_typed}
use Rattle.type_verify.proofs.typed.verify_class.Goals as goal

pub returns : goal.returns
returns c = class_typed c.args.hierarchy.now c.args.tree.now c.in_ok-check_class.ensures
