use Rattle.std.proofs.Common.{sym, ap, ◌∙◌}
use Rattle.std.specs.Prelude.{option_copied}
use Rattle.link_versions.specs.MemberIndexes.{at_text}
use Rattle.link_versions.proofs.Indexed.{find_at}
use Rattle.link_versions.proofs.member_index.NameMap.find.Goals as goal

pub returns-in_err-get : goal.returns-in_err-get
returns-in_err-get c =
    let names = c.args.self.now.names in
    c.from_residual.ensures
    ∙ sym (find_at names c.args.name.now c.args.desc.now _ (ap (at_text names) (sym c.as_slice.ensures) ∙ sym c.get.ensures.value ∙ ap option_copied c.in_err-get.was))

pub returns : goal.returns
returns c =
    let names = c.args.self.now.names in
    c.copied.ensures ∙ c.get-2.ensures.value ∙ ap (at_text c.in_ok-get.field-0.now) c.as_slice-2.ensures
    ∙ sym (find_at names c.args.name.now c.args.desc.now _ (ap (at_text names) (sym c.as_slice.ensures) ∙ sym c.get.ensures.value ∙ ap option_copied c.in_ok-get.was))
