use Rattle.std.proofs.Common.{sym, ap, ◌∙◌}
use Rattle.std.specs.Prelude.{option_copied}
use Rattle.link_versions.proofs.Held.{order_held, order_absent}
use Rattle.link_versions.proofs.entries.order_of.Goals as goal

pub returns-in-Some : goal.returns-in-Some
returns-in-Some c =
    c.as_slice.ensures ∙ sym (order_held c.args.entries.now c.args.class c.in-Some.entry.now c.requires (sym c.entry_at.ensures ∙ ap option_copied c.in-Some.is))

pub returns-in-None : goal.returns-in-None
returns-in-None c = sym (order_absent c.args.entries.now c.args.class (sym c.entry_at.ensures ∙ ap option_copied c.in-None.is))
