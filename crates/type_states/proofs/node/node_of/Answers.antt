use Rattle.type_states.proofs.NodeLists.{node_there}
use Rattle.type_states.proofs.node.node_of.Goals as goal

pub returns : goal.returns
returns c = node_there c.args.nodes.now c.args.place _ c.requires.nodes c.if-place-eq0.false c.requires.within
