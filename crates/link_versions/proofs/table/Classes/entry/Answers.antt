use Rattle.std.proofs.Common.{List, sym, ap, subst, ◌∙◌, Some}
use Rattle.std.specs.Prelude.{option_copied}
use Rattle.link_versions.specs.Classes.{Class, class_at}
use Rattle.link_versions.specs.Changes.{IsThere}
use Rattle.link_versions.proofs.Numbered.{numbered-reverse}
use Rattle.link_versions.proofs.Held.{class_at-is}
use Rattle.link_versions.proofs.Installing.{there_held}
use Rattle.link_versions.proofs.table.Classes.entry.Goals as goal

pub unreachable-requires : goal.unreachable-requires
unreachable-requires c =
    let held = there_held c.self.inside.table c.args.class (subst (λ (cs : List Class). IsThere cs c.args.class) (sym c.self.view_is) c.requires) in
    cc (held.at, sym c.at.ensures ∙ ap option_copied c.in-None.is)

pub returns : goal.returns
returns c =
    let table = c.self.inside.table in
    ap (λ cs. class_at cs c.args.class) (sym c.self.view_is)
    ∙ class_at-is table c.args.class (Some c.in-Some.entry.now) (numbered-reverse table c.args.class.0 c.requires.0 ∙ sym c.at.ensures ∙ ap option_copied c.in-Some.is)
