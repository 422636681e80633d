use Rattle.std.proofs.Common.{refl}
use Rattle.jv_names.specs.Utf8.{unit_bytes}
use Rattle.jv_names.specs.DescriptorReading.{class_end, dimensions, split_class, split_dimensions, read_class, read_element, read_type}
use Rattle.jv_names.specs.DescriptorFlaws.{read_field, read_result, read_method, field_flaw, method_flaw}
use Rattle.class_code.specs.FormSearch.{form_at}
use Rattle.class_tree.specs.Spelling as spelling
use Rattle.class_tree.specs.WellFormed.{is_well_formed}
use Rattle.base_set.proofs.table.class_rows.Goals as goal

pub returns-clause-said : goal.returns-clause-said
returns-clause-said c = refl

-- computed
pub returns-clause-ready : goal.returns-clause-ready
unfolding unit_bytes class_end dimensions split_class split_dimensions read_class read_element read_type read_field read_result read_method field_flaw method_flaw form_at spelling.u2 spelling.u4 spelling.counted is_well_formed
returns-clause-ready c = refl
