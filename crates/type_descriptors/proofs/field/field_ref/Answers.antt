use Rattle.std.proofs.Common.{◌∙◌}
use Rattle.type_descriptors.proofs.FieldTexts.{vtype_spelled, field_spelled}
use Rattle.type_descriptors.proofs.field.field_ref.Goals as goal

pub returns-clause-spelled : goal.returns-clause-spelled
returns-clause-spelled c = λ t is. c.text_ref.ensures ∙ vtype_spelled c.args.text.now t is

pub returns-clause-read : goal.returns-clause-read
returns-clause-read c = λ t read. c.text_ref.ensures ∙ vtype_spelled c.args.text.now t (field_spelled c.args.text.now t read)
