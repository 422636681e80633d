-- Reading a class file: JVM specification 4.1, 4.5, 4.6 and 4.7.
use Rattle.std.specs.Prelude.{ℕ, zero, suc, ◌&&◌, ◌==◌, Bool, not, if◌then◌else◌, List, [], ◌∷◌, length, Option, Some, None, Ok, Err, bytes_eq}
use Rattle.std.specs.List.{list_any}
use Rattle.std.specs.Option.{option_map}
use Rattle.jv_names.specs.Names.{Name, is_class_name}
use Rattle.class_tree.specs.declared.access.Flag.TheVariants.{Native}
use Rattle.class_tree.specs.declared.pool.Const.{Const}
use Rattle.class_tree.specs.declared.members.Member.{Member}
use Rattle.class_tree.specs.declared.members.Attr.{Attr}
use Rattle.class_tree.specs.declared.members.Attr.TheVariants as attr
use Rattle.class_tree.specs.Flags.{has_flag}
use Rattle.class_tree.specs.Tree.{entry_at, class_at}
use Rattle.class_tree.specs.Trees.{Tree}
use Rattle.class_tree.specs.PoolRules.{is_name, desc_flaw}
use Rattle.class_tree.specs.WellFormed.{Owner, Class, Method, Field, StaticField, is_read, is_value, owner_of, has_its_body, is_version}
use Rattle.classfile_items.specs.declared.fault.ReadClassFault.TheVariants.{Magic, Version, Trailing, BadIndex, BadText, BadMember, Unsupported, Duplicate}
use Rattle.classfile_items.specs.Reading.{Found, Checked, ◌>>=◌, FaultOf, unless, faultless, provided, offset, u2, u4, counted}
use Rattle.classfile_pool.specs.PoolReading.{text_fault, pool_at}
use Rattle.classfile_code.specs.CodeReading.{code}
use Rattle.classfile_items.specs.Contents.{text_index, kept, measured}
use Rattle.class_tree.specs.declared.members.MemberKind.{MemberKind}
use Rattle.class_tree.specs.declared.members.MemberKind.TheVariants as kinds

-- ---- attributes: section 4.7

abbrev pub raw_attr : ℕ → ℕ → List ℕ → Found Attr
raw_attr end name bytes = kept (attr.Raw name) end bytes

abbrev pub body : ℕ → List Const → ℕ → ℕ → List ℕ → Found Attr
body major pool end name bytes = measured (code major pool end) (attr.Body name) end bytes

abbrev pub value : List Const → Name → ℕ → List ℕ → Found ℕ
value pool desc end bytes = u2 end bytes >>= λ n. provided (is_value desc (entry_at pool n.0)) (BadIndex (offset end bytes)) n

abbrev pub constant : List Const → Name → ℕ → ℕ → List ℕ → Found Attr
constant pool desc end name bytes = measured (value pool desc end) (attr.Constant name) end bytes

-- read as its owner says
abbrev pub owned : ℕ → List Const → ℕ → Owner → ℕ → List ℕ → Found Attr
owned major pool end Class name bytes = raw_attr end name bytes
owned major pool end Field name bytes = raw_attr end name bytes
owned major pool end Method name bytes = body major pool end name bytes
owned major pool end (StaticField desc) name bytes = constant pool desc end name bytes

abbrev pub attr_at : ℕ → List Const → ℕ → Owner → List ℕ → Found Attr
attr_at major pool end owner bytes =
    text_index end pool bytes >>= λ name. if is_read owner name.0.1 then owned major pool end owner name.0.0 name.1 else raw_attr end name.0.0 name.1

-- ---- fields and methods: sections 4.5 and 4.6

abbrev pub name_at : ℕ → List Const → MemberKind → List ℕ → Found (ℕ × Name)
name_at end pool kind bytes = text_index end pool bytes >>= λ name. provided (is_name kind name.0.1) (BadText (offset end bytes)) name

abbrev pub desc_at : ℕ → List Const → MemberKind → List ℕ → Found (ℕ × Name)
desc_at end pool kind bytes = text_index end pool bytes >>= λ desc. faultless (option_map (text_fault (offset end bytes)) (desc_flaw kind desc.0.1)) desc

-- a native method isn't supported
abbrev pub flags_at : ℕ → MemberKind → List ℕ → Found ℕ
flags_at end kinds.Field bytes = u2 end bytes
flags_at end kinds.Method bytes = u2 end bytes >>= λ flags. provided (not (has_flag flags.0 Native)) (Unsupported (offset end bytes)) flags

abbrev pub Names : Type 0
Names = Name × Name

abbrev pub is_among : Names → List Names → Bool
is_among names earlier = list_any (λ e. bytes_eq e.0 names.0 && bytes_eq e.1 names.1) earlier

-- a member behind others of these names and descriptors
abbrev pub member : ℕ → List Const → ℕ → MemberKind → List Names → List ℕ → Found (Member × Names)
member major pool end kind earlier bytes =
    flags_at end kind bytes >>= λ flags. name_at end pool kind flags.1 >>= λ name. desc_at end pool kind name.1 >>= λ desc.
    provided (not (is_among (name.0.1, desc.0.1) earlier)) (Duplicate (offset end bytes)) desc.1 >>= λ rest.
    counted end (attr_at major pool end (owner_of kind flags.0 desc.0.1)) rest >>= λ attrs.
    provided (has_its_body kind flags.0 attrs.0) (BadMember (offset end bytes))
    ((record { flags = record { bits = flags.0 }; name = name.0.0; desc = desc.0.0; attrs = attrs.0 }, (name.0.1, desc.0.1)), attrs.1)

abbrev pub members_from : ℕ → List Const → ℕ → MemberKind → List Names → ℕ → List ℕ → Found (List Member)
members_from major pool end kind earlier zero bytes = Ok ([], bytes)
members_from major pool end kind earlier (suc n) bytes =
    member major pool end kind earlier bytes >>= λ m. members_from major pool end kind (m.0.1 ∷ earlier) n m.1 >>= λ ms. Ok (m.0.0 ∷ ms.0, ms.1)

abbrev pub members : ℕ → List Const → ℕ → MemberKind → List ℕ → Found (List Member)
members major pool end kind bytes = u2 end bytes >>= λ n. members_from major pool end kind [] n.0 n.1

-- ---- a class: section 4.1

-- a class that is no array, at an index that stands at this offset
abbrev pub plain_fault : ℕ → Option Name → FaultOf
plain_fault at None = Some (BadIndex at)
plain_fault at (Some name) = unless (is_class_name name) (BadText at)

abbrev pub plain_class : ℕ → List Const → List ℕ → Found ℕ
plain_class end pool bytes = u2 end bytes >>= λ n. faultless (plain_fault (offset end bytes) (class_at pool n.0)) n

abbrev pub is_magic : ℕ → Bool
is_magic n = n == 0xcafebabe

abbrev pub magic : ℕ → List ℕ → Found ℕ
magic end bytes = u4 end bytes >>= λ n. provided (is_magic n.0) (Magic (offset end bytes)) n

abbrev pub version : ℕ → List ℕ → Found ℕ
version end bytes = u2 end bytes >>= λ n. provided (is_version n.0) (Version (offset end bytes)) n

abbrev pub finished : ℕ → List ℕ → Tree → Checked Tree
finished end [] tree = Ok tree
finished end bytes tree = Err (Trailing (offset end bytes))

abbrev pub class_from : ℕ → List ℕ → Checked Tree
class_from end bytes =
    magic end bytes >>= λ magic. u2 end magic.1 >>= λ minor. version end minor.1 >>= λ major. pool_at end major.1 >>= λ pool.
    u2 end pool.1 >>= λ flags. plain_class end pool.0 flags.1 >>= λ this. plain_class end pool.0 this.1 >>= λ super.
    counted end (plain_class end pool.0) super.1 >>= λ interfaces.
    members major.0 pool.0 end kinds.Field interfaces.1 >>= λ fields. members major.0 pool.0 end kinds.Method fields.1 >>= λ methods.
    counted end (attr_at major.0 pool.0 end Class) methods.1 >>= λ attrs.
    finished end attrs.1 (record { minor = minor.0; major = major.0; pool = pool.0; flags = record { bits = flags.0 }; this_class = this.0; super_class = super.0; interfaces = interfaces.0; fields = fields.0; methods = methods.0; attrs = attrs.0 })

-- The class that the bytes are, or the first fault that shows.
abbrev pub class_of : List ℕ → Checked Tree
class_of bytes = class_from (length bytes) bytes
