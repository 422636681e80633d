-- The definitions compute: class files and their trees, and where faults show.
use Rattle.std.proofs.Common.{◌≡◌, pos, true, [], ◌∷◌, ◌++◌, Err, refl}
use Rattle.std.specs.Prelude.{codes}
use Rattle.jv_names.specs.Utf8.{unit_bytes}
use Rattle.class_code.specs.FormSearch.{form_at}
use Rattle.jv_names.specs.DescriptorReading.{dimensions, split_dimensions, read_element, read_type}
use Rattle.jv_names.specs.DescriptorFlaws.{field_flaw, method_flaw, read_field, read_method, read_result}
use Rattle.class_tree.specs.declared.pool.Const.TheVariants as const
use Rattle.class_tree.specs.declared.members.Attr.TheVariants as attr
use Rattle.class_tree.specs.Trees.{Tree}
use Rattle.class_tree.specs.Spelling.{class_bytes}
use Rattle.class_tree.specs.Spelling as bytes_of
use Rattle.class_tree.specs.WellFormed.{is_well_formed}
use Rattle.jv_names.specs.TextReading.{unit_at}
use Rattle.classfile_items.specs.declared.fault.ReadClassFault.TheVariants.{Truncated, Magic, Trailing}
use Rattle.classfile_items.specs.Reading.{u1, u2, u4, many, counted}
use Rattle.classfile_read.specs.ClassReading.{class_of}

-- `class A {}`, without attributes and without a constructor
least : Tree
least = record {
  minor = 0;
  major = 52;
  pool = const.Utf8 (codes "A") ∷ const.Class 1 ∷ const.Utf8 (codes "java/lang/Object") ∷ const.Class 3 ∷ [];
  flags = record { bits = 0x20 };
  this_class = 2;
  super_class = 4;
  interfaces = [];
  fields = [];
  methods = [];
  attrs = [];
}

least_well : is_well_formed least ≡ true
unfolding is_well_formed least unit_bytes
least_well = refl

least_bytes : class_bytes least ≡
    0xca ∷ 0xfe ∷ 0xba ∷ 0xbe ∷ 0 ∷ 0 ∷ 0 ∷ 52 ∷ 0 ∷ 5 ∷ 1 ∷ 0 ∷ 1 ∷ 0x41 ∷ 7 ∷ 0 ∷ 1 ∷ 1 ∷ 0 ∷ 16 ∷ []
    ++ codes "java/lang/Object" ++ 7 ∷ 0 ∷ 3 ∷ 0 ∷ 0x20 ∷ 0 ∷ 2 ∷ 0 ∷ 4 ∷ 0 ∷ 0 ∷ 0 ∷ 0 ∷ 0 ∷ 0 ∷ 0 ∷ 0 ∷ []
unfolding least unit_bytes bytes_of.u2 bytes_of.counted
least_bytes = refl

-- `class A { static final long C = 5; static void m() {} }`, of which only the constant and the code are kept
sample : Tree
sample = record {
  minor = 0;
  major = 52;
  pool =
      const.Utf8 (codes "A") ∷ const.Class 1 ∷ const.Utf8 (codes "java/lang/Object") ∷ const.Class 3 ∷ const.Utf8 (codes "C") ∷ const.Utf8 (codes "J")
      ∷ const.Utf8 (codes "ConstantValue") ∷ const.Long (pos 5) ∷ const.Unused ∷ const.Utf8 (codes "m") ∷ const.Utf8 (codes "()V") ∷ const.Utf8 (codes "Code") ∷ [];
  flags = record { bits = 0x20 };
  this_class = 2;
  super_class = 4;
  interfaces = [];
  fields = record { flags = record { bits = 0x18 }; name = 5; desc = 6; attrs = attr.Constant 7 8 ∷ [] } ∷ [];
  methods = record { flags = record { bits = 0x08 }; name = 10; desc = 11; attrs = attr.Body 12 (record { max_stack = 0; max_locals = 0; bytes = 0xb1 ∷ []; handlers = []; attrs = [] }) ∷ [] } ∷ [];
  attrs = [];
}

sample_well : is_well_formed sample ≡ true
unfolding is_well_formed sample unit_bytes field_flaw method_flaw read_field read_method read_result read_type split_dimensions dimensions read_element form_at bytes_of.u2 bytes_of.u4 bytes_of.counted
sample_well = refl

-- a file of one byte is cut off, one that begins otherwise has no magic number, and a byte behind the class is one too many
cut_off : class_of (0xca ∷ []) ≡ Err (Truncated 1)
unfolding u4
cut_off = refl

no_magic : class_of (1 ∷ 2 ∷ 3 ∷ 4 ∷ []) ≡ Err (Magic 0)
unfolding u4
no_magic = refl

one_more : class_of (class_bytes least ++ 0 ∷ []) ≡ Err (Trailing 53)
unfolding least u1 u2 u4 unit_bytes unit_at many counted bytes_of.u2 bytes_of.counted
one_more = refl
