use Rattle.std.proofs.Common.{sym, ap, ◌∙◌}
use Rattle.std.specs.Prelude.{option_copied}
use Rattle.link_versions.proofs.Installing.{count_is, count_none}
use Rattle.link_versions.proofs.entries.version_count.Goals as goal

pub returns-in-Some : goal.returns-in-Some
returns-in-Some c = c.version_count.ensures ∙ sym (count_is c.args.entries.now c.args.class c.in-Some.entry.now (sym c.entry_at.ensures ∙ ap option_copied c.in-Some.is))

pub returns-in-None : goal.returns-in-None
returns-in-None c = sym (count_none c.args.entries.now c.args.class (sym c.entry_at.ensures ∙ ap option_copied c.in-None.is))
