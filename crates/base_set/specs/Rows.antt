-- The rows of the program's tables as what they say of classes, and which rows a tree can be made of.
use Rattle.std.specs.Prelude.{◌+◌, Bool, ◌&&◌, ◌==◌, nat_le, List, length, map, option_map}
use Rattle.std.specs.List.{list_all}
use Rattle.std.specs.Borrow.{Bor}
use Rattle.jv_names.specs.Names.{Name}
use Rattle.class_tree.specs.WellFormed.{is_well_formed}
use Rattle.base_set.specs.declared.table.FieldRow.{FieldRow}
use Rattle.base_set.specs.declared.table.MethodRow.{MethodRow}
use Rattle.base_set.specs.declared.table.ClassRow.{ClassRow}
use Rattle.base_set.specs.declared.table.ErrorRow.{ErrorRow}
use Rattle.base_set.specs.BaseSet.{BaseField, BaseMethod, BaseClass, error_class}
use Rattle.base_set.specs.BaseCode.{locals_of}
use Rattle.base_set.specs.BaseTrees.{base_tree}

abbrev pub names_of : List (Bor Name) → List Name
names_of names = map (λ name. name.now) names

abbrev pub field_of : FieldRow → BaseField
field_of row = record { flags = row.flags; name = row.name.now; desc = row.desc.now }

abbrev pub method_of : MethodRow → BaseMethod
method_of row = record { flags = row.flags; name = row.name.now; desc = row.desc.now }

abbrev pub class_of : ClassRow → BaseClass
class_of row = record {
  name = row.name.now;
  flags = row.flags;
  super = option_map (λ name. name.now) row.superclass;
  interfaces = names_of row.interfaces.now;
  fields = map field_of row.fields.now;
  methods = map method_of row.methods.now;
}

abbrev pub error_of : ErrorRow → BaseClass
error_of row = error_class (row.name.now, row.superclass.now)

-- its local variables are those that the descriptor asks for
abbrev pub has_locals : MethodRow → Bool
has_locals row = row.locals == locals_of (method_of row)

-- a class file can be made of it: two bytes number all that it has, and its tree is well-formed
abbrev pub is_ready : ClassRow → Bool
is_ready row =
    nat_le (length row.interfaces.now + length row.fields.now + length row.methods.now) 1000 && list_all has_locals row.methods.now
    && is_well_formed (base_tree (class_of row))

-- an error's tree is well-formed
abbrev pub is_well_formed_error : ErrorRow → Bool
is_well_formed_error row = is_well_formed (base_tree (error_of row))
