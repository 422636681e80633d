use Rattle.std.proofs.Common.{sym, ap, ◌∙◌}
use Rattle.std.specs.Prelude.{option_copied}
use Rattle.link_versions.proofs.Depths.{type_of-file, type_of-array, type_of-none}
use Rattle.link_versions.proofs.subtype.type_of.Goals as goal

pub returns-in-File : goal.returns-in-File
returns-in-File c = sym (type_of-file c.args.entries.now c.args.class c.in-Some.entry.now c.in-File.field-0 (sym c.entry_at.ensures ∙ ap option_copied c.in-Some.is) c.in-File.is)

pub returns-in-Array : goal.returns-in-Array
returns-in-Array c = sym (type_of-array c.args.entries.now c.args.class c.in-Some.entry.now c.in-Array.dimensions c.in-Array.element (sym c.entry_at.ensures ∙ ap option_copied c.in-Some.is) c.in-Array.is)

pub returns-in-None : goal.returns-in-None
returns-in-None c = sym (type_of-none c.args.entries.now c.args.class (sym c.entry_at.ensures ∙ ap option_copied c.in-None.is))
