-- The trees of the base classes as the program lays them out. Says.antt has what such a tree means.
use Rattle.std.specs.Prelude.{ℕ, ◌+◌, ◌*◌, if◌then◌else◌, List, [], ◌∷◌, ◌++◌, length, flat_map, Option, Some, None, codes}
use Rattle.jv_names.specs.Names.{Name}
use Rattle.class_tree.specs.declared.access.Flag.TheVariants.{Abstract}
use Rattle.class_tree.specs.declared.pool.Const.{Const}
use Rattle.class_tree.specs.declared.pool.Const.TheVariants as const
use Rattle.class_tree.specs.declared.members.Member.{Member}
use Rattle.class_tree.specs.declared.members.Attr.{Attr}
use Rattle.class_tree.specs.declared.members.Attr.TheVariants.{Body}
use Rattle.class_tree.specs.Flags.{has_flag}
use Rattle.class_tree.specs.Trees.{Tree}
use Rattle.base_set.specs.BaseSet.{BaseField, BaseMethod, BaseClass}
use Rattle.base_set.specs.BaseCode.{code_of_base}

-- ---- the constant pool

-- In this order: at 1 the text `Code`; for the class itself, its superclass if it has one, and each interface, the text of
-- its name and its `Class`; for each field and each method, the texts of its name and its descriptor. No text is shared.
-- Below, `at` is the index of the first text of those that follow.

abbrev pub class_entries : ℕ → List Name → List Const
class_entries at [] = []
class_entries at (name ∷ names) = (const.Utf8 name ∷ const.Class at ∷ []) ++ class_entries (at + 2) names

abbrev pub class_indices : ℕ → List Name → List ℕ
class_indices at [] = []
class_indices at (name ∷ names) = (at + 1) ∷ class_indices (at + 2) names

abbrev pub field_entries : List BaseField → List Const
field_entries fields = flat_map (λ f. const.Utf8 f.name ∷ const.Utf8 f.desc ∷ []) fields

abbrev pub method_entries : List BaseMethod → List Const
method_entries methods = flat_map (λ m. const.Utf8 m.name ∷ const.Utf8 m.desc ∷ []) methods

-- ---- fields and methods

abbrev pub fields_from : ℕ → List BaseField → List Member
fields_from at [] = []
fields_from at (f ∷ fs) = record { flags = record { bits = f.flags }; name = at; desc = at + 1; attrs = [] } ∷ fields_from (at + 2) fs

abbrev pub attrs_of : BaseMethod → List Attr
attrs_of m = if has_flag m.flags Abstract then [] else Body 1 (code_of_base m) ∷ []

abbrev pub methods_from : ℕ → List BaseMethod → List Member
methods_from at [] = []
methods_from at (m ∷ ms) = record { flags = record { bits = m.flags }; name = at; desc = at + 1; attrs = attrs_of m } ∷ methods_from (at + 2) ms

-- ---- the whole

abbrev pub super_names : Option Name → List Name
super_names None = []
super_names (Some name) = name ∷ []

-- 0 where there is none
abbrev pub super_index : ℕ → Option Name → ℕ
super_index index None = 0
super_index index (Some name) = index

-- where the interfaces begin
abbrev pub interfaces_at : Option Name → ℕ
interfaces_at None = 4
interfaces_at (Some name) = 6

abbrev pub fields_at : BaseClass → ℕ
fields_at c = interfaces_at c.super + 2 * length c.interfaces

abbrev pub methods_at : BaseClass → ℕ
methods_at c = fields_at c + 2 * length c.fields

abbrev pub base_pool : BaseClass → List Const
base_pool c =
    (const.Utf8 (codes "Code") ∷ []) ++ class_entries 2 (c.name ∷ []) ++ class_entries 4 (super_names c.super)
    ++ class_entries (interfaces_at c.super) c.interfaces ++ field_entries c.fields ++ method_entries c.methods

abbrev pub base_tree : BaseClass → Tree
base_tree c = record {
  minor = 0;
  major = 52;
  pool = base_pool c;
  flags = record { bits = c.flags };
  this_class = 3;
  super_class = super_index 5 c.super;
  interfaces = class_indices (interfaces_at c.super) c.interfaces;
  fields = fields_from (fields_at c) c.fields;
  methods = methods_from (methods_at c) c.methods;
  attrs = [];
}
