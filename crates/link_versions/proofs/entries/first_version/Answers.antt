use Rattle.std.proofs.Common.{sym, ap, ◌∙◌}
use Rattle.std.specs.Prelude.{option_copied}
use Rattle.link_versions.proofs.Held.{first_version-file, first_version-array, first_version-none}
use Rattle.link_versions.proofs.entries.first_version.Goals as goal

pub returns-in_err-versions : goal.returns-in_err-versions
returns-in_err-versions c =
    ap option_copied c.from_residual.ensures ∙ sym (first_version-none c.args.entries.now c.args.class (sym c.entry_at.ensures ∙ ap option_copied c.in_err-versions.was))

pub returns-in-Some : goal.returns-in-Some
returns-in-Some c =
    sym (first_version-file c.args.entries.now c.args.class c.in_ok-versions.field-0.now c.in-File.versions _ (sym c.entry_at.ensures ∙ ap option_copied c.in_ok-versions.was) c.in-File.is
    (sym c.get.ensures.value ∙ ap option_copied c.in-Some.is))

pub returns-in-None : goal.returns-in-None
returns-in-None c =
    sym (first_version-file c.args.entries.now c.args.class c.in_ok-versions.field-0.now c.in-File.versions _ (sym c.entry_at.ensures ∙ ap option_copied c.in_ok-versions.was) c.in-File.is
    (sym c.get.ensures.value ∙ ap option_copied c.in-None.is))

pub returns-in-Array : goal.returns-in-Array
returns-in-Array c =
    sym (first_version-array c.args.entries.now c.args.class c.in_ok-versions.field-0.now c.in-Array.dimensions c.in-Array.element (sym c.entry_at.ensures ∙ ap option_copied c.in_ok-versions.was) c.in-Array.is)
