use Rattle.std.proofs.Common.{◌∙◌, sym}
use Rattle.base_set.proofs.Named.{in_first, in_second}
use Rattle.base_set.proofs.names.is_base.Goals as goal

pub returns-then-names_class : goal.returns-then-names_class
returns-then-names_class c = c.if-names_class.true ∙ sym (in_first c.args.name.now c.class_rows.result.now c.class_rows.ensures.said (sym c.names_class.ensures ∙ c.if-names_class.true))

pub returns-else-names_class : goal.returns-else-names_class
returns-else-names_class c = c.names_error.ensures ∙ sym (in_second c.args.name.now c.class_rows.result.now c.error_rows.result.now c.class_rows.ensures.said c.error_rows.ensures.said (sym c.names_class.ensures ∙ c.if-names_class.false))
