use Rattle.std.proofs.Common.{◌≡◌, length, rules}
use Rattle.type_states.proofs.NodeLists.{nodes_put, lists_put}
use Rattle.type_states.proofs.nodes.TypeLists.put.Goals as goal

pub invariant_of-self-2 : goal.invariant_of-self-2
invariant_of-self-2 c = nodes_put c.self.inside.nodes.items c.push.new.self.items _ _ _ _ c.self.view_is c.in_ok-push.ensures.items c.requires c.over-node.ensures c.self.invariant

pub returns-clause-made : goal.returns-clause-made
returns-clause-made c =
    let count : c.len.result ≡ length c.push.new.self.items = search rules in
    lists_put c.self.inside.nodes.items c.push.new.self.items _ _ _ _ _ c.self.view_is c.in_ok-push.ensures.items count c.requires c.over-node.ensures
