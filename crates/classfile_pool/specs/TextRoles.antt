-- What the texts of a pool may serve as: JVM specification 4.2, 4.3 and 4.4.1. The reader keeps it beside the pool, so that
-- each text is looked through once.
use Rattle.std.specs.Prelude.{Option, ◌==◌, not}
use Rattle.std.specs.List.{list_any}
use Rattle.std.specs.Option.{option_map}
use Rattle.jv_names.specs.Names.{Name, is_part_unit, is_method_unit, is_class_name, is_member_name, is_method_name}
use Rattle.jv_names.specs.DescriptorFlaws.{field_flaw, method_flaw}
use Rattle.class_tree.specs.declared.pool.Const.{Const}
use Rattle.class_tree.specs.Tree.{text_of}
use Rattle.class_tree.specs.PoolRules.{begins_with, class_text_flaw}
use Rattle.classfile_pool.specs.declared.roles.Marks.{Marks}
use Rattle.classfile_pool.specs.declared.roles.Roles.{Roles}

-- which units stand in a text that names may not have
abbrev pub marks_of : Name → Marks
marks_of text = record {
  stop = list_any (λ unit. not (is_part_unit unit)) text;
  slash = list_any (λ unit. unit == 47) text;
  angle = list_any (λ unit. not (is_method_unit unit)) text;
}

abbrev pub roles_of : Name → Roles
roles_of text = record {
  class = class_text_flaw text;
  plain_class = is_class_name text;
  field_name = is_member_name text;
  method_name = is_method_name text;
  field_desc = field_flaw text;
  method_desc = method_flaw text;
  begins_method = begins_with 40 text;
}

-- those of an entry, if it is a text
abbrev pub roles_at : Const → Option Roles
roles_at entry = option_map roles_of (text_of entry)
