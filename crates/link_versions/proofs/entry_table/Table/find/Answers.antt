use Rattle.std.proofs.Common.{ap, ◌∙◌}
use Rattle.std.specs.Prelude.{position}
use Rattle.link_versions.specs.Entries.{has_name}
use Rattle.link_versions.proofs.Keyed.{place_of_name}
use Rattle.link_versions.proofs.entry_table.Table.find.Goals as goal

pub returns : goal.returns
returns c = c.get_index_of.ensures.index ∙ place_of_name c.self.inside.map.entries c.args.name.now c.self.invariant ∙ ap (position (has_name c.args.name.now)) c.self.view_is
