-- What rules make of a class, computed.
use Rattle.std.proofs.Common.{refl}
use Rattle.std.specs.Fmt.{digits}
use Rattle.jv_names.specs.Utf8.{unit_bytes}
use Rattle.jv_names.specs.TextReading.{unit_at}
use Rattle.jv_names.specs.DescriptorReading.{class_end, dimensions, split_class, split_dimensions, read_class, read_element, read_type}
use Rattle.jv_names.specs.DescriptorFlaws.{read_field, read_result, read_method, field_flaw, method_flaw}
use Rattle.class_code.specs.FormSearch.{form_at}
use Rattle.class_code.specs.Spelling as code_spelling
use Rattle.class_tree.specs.Spelling as bytes_of
use Rattle.class_tree.specs.WellFormed.{is_well_formed}
use Rattle.classfile_items.specs.Reading.{u1, u2, u4, s4, u8, s8, raw, many, counted}
use Rattle.classfile_code.specs.FrameReading.{type_at, frame_at}
use Rattle.rule_edit.specs.EditRows.{MakeThese, FailThese}

pub make_these : MakeThese
unfolding u1 u2 u4 s4 u8 s8 raw many counted type_at frame_at class_end dimensions split_class split_dimensions read_class read_element read_type read_field read_result read_method field_flaw method_flaw unit_at unit_bytes form_at code_spelling.s4 bytes_of.u2 bytes_of.u4 bytes_of.u8 bytes_of.counted is_well_formed digits lib.Utf8.encode
make_these = record {
  file = refl;
  constant = refl;
  constant_in_pool = refl;
  entry = refl;
  redirect = refl;
  body = refl;
  add = refl;
  both = refl;
  unmet = refl;
}

pub fail_these : FailThese
unfolding u1 u2 u4 s4 u8 s8 raw many counted type_at frame_at class_end dimensions split_class split_dimensions read_class read_element read_type read_field read_result read_method field_flaw method_flaw unit_at unit_bytes form_at code_spelling.s4 bytes_of.u2 bytes_of.u4 bytes_of.u8 bytes_of.counted is_well_formed digits lib.Utf8.encode
fail_these = record {
  none = refl;
  form = refl;
  method = refl;
  codeless = refl;
  no_donor = refl;
  no_class = refl;
  no_method = refl;
  there = refl;
  name = refl;
  behind = refl;
}
