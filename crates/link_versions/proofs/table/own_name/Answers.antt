use Rattle.std.proofs.Common.{sym, ap, ◌∙◌}
use Rattle.std.specs.Prelude.{option_copied}
use Rattle.link_versions.proofs.Tables.{names_itself}
use Rattle.link_versions.proofs.table.own_name.Goals as goal

pub unreachable-requires : goal.unreachable-requires
unreachable-requires c = names_itself c.args.tree.now c.name.ensures.well_formed (sym c.name.ensures.named ∙ ap option_copied c.in-None.is)
