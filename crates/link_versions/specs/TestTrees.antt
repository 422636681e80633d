-- The trees of the classes in the tests, which share one pool. Only the tests cite it.
use Rattle.std.specs.Prelude.{ℕ, ◌+◌, if◌then◌else◌, List, [], ◌∷◌, map}
use Rattle.jv_names.specs.Names.{Name}
use Rattle.class_tree.specs.declared.access.Flag.TheVariants.{Abstract}
use Rattle.class_tree.specs.declared.pool.Const.{Const}
use Rattle.class_tree.specs.declared.pool.Const.TheVariants as const
use Rattle.class_tree.specs.declared.body.Code.{Code}
use Rattle.class_tree.specs.declared.members.Member.{Member}
use Rattle.class_tree.specs.declared.members.Attr.{Attr}
use Rattle.class_tree.specs.declared.members.Attr.TheVariants.{Body}
use Rattle.class_tree.specs.Flags.{has_flag}
use Rattle.class_tree.specs.Trees.{Tree}

-- each text with a `Class` behind it, where the first one has the index `at`
abbrev pub pool_of : ℕ → List Name → List Const
pool_of at [] = []
pool_of at (text ∷ texts) = const.Utf8 text ∷ const.Class at ∷ pool_of (at + 2) texts

-- a field or a method: its flags, and the indices of its name and its descriptor
abbrev pub Declared : Type 0
Declared = ℕ × ℕ × ℕ

abbrev pub field_of : Declared → Member
field_of d = record { flags = record { bits = d.0 }; name = d.1; desc = d.2; attrs = [] }

-- `aconst_null` and `athrow`
abbrev pub code : Code
code = record { max_stack = 1; max_locals = 1; bytes = 0x01 ∷ 0xbf ∷ []; handlers = []; attrs = [] }

-- the pool's first text is `Code`
abbrev pub attrs_of : ℕ → List Attr
attrs_of flags = if has_flag flags Abstract then [] else Body 1 code ∷ []

abbrev pub method_of : Declared → Member
method_of d = record { flags = record { bits = d.0 }; name = d.1; desc = d.2; attrs = attrs_of d.0 }

abbrev pub tree_of : List Name → ℕ → ℕ → ℕ → List ℕ → List Declared → List Declared → Tree
tree_of texts flags name parent interfaces fields methods = record {
  minor = 0;
  major = 52;
  pool = pool_of 1 texts;
  flags = record { bits = flags };
  this_class = name;
  super_class = parent;
  interfaces = interfaces;
  fields = map field_of fields;
  methods = map method_of methods;
  attrs = [];
}
