-- The refusals of class files, computed.
use Rattle.std.proofs.Common.{refl}
use Rattle.std.specs.Str.{chars}
use Rattle.std.specs.Fmt.{digits}
use Rattle.jv_names.specs.Names.{printed}
use Rattle.jv_names.specs.Utf8.{unit_bytes}
use Rattle.jv_names.specs.TextReading.{unit_at}
use Rattle.jv_names.specs.DescriptorReading.{class_end, dimensions, split_class, split_dimensions, read_class, read_element, read_type}
use Rattle.jv_names.specs.DescriptorFlaws.{read_field, read_result, read_method, field_flaw, method_flaw}
use Rattle.class_code.specs.FormSearch.{form_at}
use Rattle.class_tree.specs.Spelling as bytes_of
use Rattle.classfile_items.specs.Reading.{u1, u2, u4, s4, u8, s8, raw, many, counted}
use Rattle.classfile_code.specs.FrameReading.{type_at, frame_at}
use Rattle.report_text.specs.Stated.{stated}
use Rattle.machine_rows.specs.RefusedRows.{ClassesRefused}

pub classes : ClassesRefused
unfolding chars digits printed unit_bytes unit_at class_end dimensions split_class split_dimensions read_class read_element read_type read_field read_result read_method field_flaw method_flaw form_at bytes_of.u2 u1 u2 u4 s4 u8 s8 raw many counted type_at frame_at stated lib.Utf8.encode
classes = record {
  empty = λ r. refl;
  cut_off = λ r. refl;
  trailing_byte = λ r. refl;
  floating_opcode = λ r. refl;
  magic_number = λ r. refl;
  version = λ r. refl;
  twice = λ r. refl;
  of_a_base_class = λ r. refl;
  twice_and_floating = λ r. refl;
}
