use Rattle.std.proofs.Common.{◌∙◌}
use Rattle.link_versions.proofs.Indexed.{name_put}
use Rattle.link_versions.proofs.member_index.NameMap.put.Goals as goal

pub returns : goal.returns
returns c =
    name_put c.args.name.now c.args.desc.now c.into_vec-key.result c.args.place c.args.self.now.names c.taken-places.new.self.names c.insert.new.self c.taken-places.result c.in_ok-places.places
    (c.into_vec-key.ensures ∙ c.in_ok-clone_in.ensures) c.taken-places.ensures.had c.taken-places.ensures.others c.in_ok-places.ensures c.in_ok-insert.ensures.updates
