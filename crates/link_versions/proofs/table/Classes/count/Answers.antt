use Rattle.std.proofs.Common.{List, length, sym, ap, subst, ◌∙◌}
use Rattle.link_versions.specs.Classes.{Class}
use Rattle.link_versions.specs.Changes.{AreLawful}
use Rattle.link_versions.proofs.Tables.{length-classes_of, lawful}
use Rattle.link_versions.proofs.table.Classes.count.Goals as goal

pub returns-clause-count : goal.returns-clause-count
returns-clause-count c = c.len.ensures ∙ sym (length-classes_of c.self.inside.table) ∙ ap length c.self.view_is

pub returns-clause-lawful : goal.returns-clause-lawful
returns-clause-lawful c = subst (λ (cs : List Class). AreLawful cs) c.self.view_is (lawful c.self.inside.table c.self.invariant.0)
