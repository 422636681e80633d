use Rattle.std.proofs.Common.{sym, ap, ◌∙◌}
use Rattle.std.specs.Prelude.{option_map}
use Rattle.link_versions.specs.Classes.{number_of}
use Rattle.link_versions.proofs.Named.{number_at, number_by_place}
use Rattle.link_versions.proofs.Tables.{lawful}
use Rattle.link_versions.proofs.table.Classes.find.Goals as goal

pub returns-in-Some : goal.returns-in-Some
returns-in-Some c =
    let table = c.self.inside.table in
    let found = sym c.in-Some.ensures in
    sym (ap (λ cs. number_of cs c.args.name.now) (sym c.self.view_is) ∙ number_by_place table c.args.name.now (lawful table c.self.invariant.0) ∙ ap (option_map number_at) found)

pub returns-in-None : goal.returns-in-None
returns-in-None c =
    let table = c.self.inside.table in
    let found = sym c.in-None.ensures in
    sym (ap (λ cs. number_of cs c.args.name.now) (sym c.self.view_is) ∙ number_by_place table c.args.name.now (lawful table c.self.invariant.0) ∙ ap (option_map number_at) found)
