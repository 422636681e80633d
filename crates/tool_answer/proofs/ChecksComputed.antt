-- Refusals of the check of a redefinition, computed.
use Rattle.std.proofs.Common.{refl}
use Rattle.std.specs.Fmt.{digits}
use Rattle.jv_names.specs.Utf8.{unit_bytes}
use Rattle.jv_names.specs.TextReading.{unit_at}
use Rattle.jv_names.specs.DescriptorReading.{class_end, dimensions, split_class, split_dimensions, read_class, read_element, read_type}
use Rattle.jv_names.specs.DescriptorFlaws.{read_field, read_result, read_method, field_flaw, method_flaw}
use Rattle.class_code.specs.FormSearch.{form_at}
use Rattle.class_tree.specs.Spelling as bytes_of
use Rattle.classfile_items.specs.Reading.{u1, u2, u4, s4, u8, s8, raw, many, counted}
use Rattle.classfile_code.specs.FrameReading.{type_at, frame_at}
use Rattle.tool_answer.specs.CheckRows.{RefusedOnce, RefusedInOrder}

pub refused_once : RefusedOnce
unfolding u1 u2 u4 s4 u8 s8 raw many counted type_at frame_at class_end dimensions split_class split_dimensions read_class read_element read_type read_field read_result read_method field_flaw method_flaw unit_at unit_bytes form_at bytes_of.u2 bytes_of.u4 bytes_of.u8 bytes_of.counted digits lib.Utf8.encode
refused_once = record {
  none = refl;
  format = refl;
  version = refl;
  name = refl;
  supers = refl;
  flags = refl;
  fields = refl;
  missing = refl;
  added = refl;
  method_flags = refl;
}

pub refused_in_order : RefusedInOrder
unfolding u1 u2 u4 s4 u8 s8 raw many counted type_at frame_at class_end dimensions split_class split_dimensions read_class read_element read_type read_field read_result read_method field_flaw method_flaw unit_at unit_bytes form_at bytes_of.u2 bytes_of.u4 bytes_of.u8 bytes_of.counted digits lib.Utf8.encode
refused_in_order = record {
  format_first = refl;
  version_first = refl;
  name_first = refl;
  supers_first = refl;
  flags_first = refl;
  fields_first = refl;
  missing_first = refl;
  added_first = refl;
}
