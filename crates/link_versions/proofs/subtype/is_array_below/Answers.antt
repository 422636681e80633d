use Rattle.std.proofs.Common.{sym, ap, ◌∙◌}
use Rattle.std.specs.Prelude.{option_copied}
use Rattle.link_versions.proofs.Depths.{is_array_below-some, is_array_below-none}
use Rattle.link_versions.proofs.subtype.is_array_below.Goals as goal

pub returns-in-Some : goal.returns-in-Some
returns-in-Some c = rw c.in-Class.is (c.is_array_super.ensures ∙ sym (is_array_below-some c.args.entries.now c.in-Class.of c.in-Some.entry.now (sym c.entry_at.ensures ∙ ap option_copied c.in-Some.is)))

pub returns-in-None : goal.returns-in-None
returns-in-None c = rw c.in-Class.is (sym (is_array_below-none c.args.entries.now c.in-Class.of (sym c.entry_at.ensures ∙ ap option_copied c.in-None.is)))
