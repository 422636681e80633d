use Rattle.std.proofs.Common.{ap, sym}
use Rattle.std.specs.Prelude.{option_map}
use Rattle.type_frames.specs.Types.{field_vtype}
use Rattle.type_frames.specs.Seen.{type_seen}
use Rattle.type_descriptors.proofs.FieldTexts.{field_type-none, field_seen}
use Rattle.type_descriptors.proofs.field.field_ref_checked.Goals as goal

pub returns-in-Some : goal.returns-in-Some
returns-in-Some c = sym (ap (option_map field_vtype) (field_type-none c.args.text.now c.in-Some.field-0 c.in-Some.ensures.says))

pub returns-in-None : goal.returns-in-None
returns-in-None c = field_seen c.args.text.now (type_seen c.field_ref.result) c.in-None.ensures.says (rw c.as_slice.ensures at c.field_ref.ensures.spelled)
