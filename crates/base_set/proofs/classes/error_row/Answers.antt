use Rattle.std.proofs.Common.{refl}
use Rattle.jv_names.specs.DescriptorReading.{class_end, dimensions, split_class, split_dimensions, read_class, read_element, read_type}
use Rattle.jv_names.specs.DescriptorFlaws.{read_field, read_result, read_method}
use Rattle.base_set.proofs.classes.error_row.Goals as goal

pub returns-clause-ready : goal.returns-clause-ready
unfolding class_end dimensions split_class split_dimensions read_class read_element read_type read_field read_result read_method
returns-clause-ready c = refl
