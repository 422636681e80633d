-- Reading a class file never finds that memory ran out.
use Rattle.std.proofs.Common.{ℕ, zero, suc, List, [], ◌∷◌, length, Option, Some, None, Err}
use Rattle.std.specs.Prelude.{◌≢◌, not}
use Rattle.jv_names.specs.Names.{Name, is_class_name}
use Rattle.class_tree.specs.declared.access.Flag.TheVariants.{Native}
use Rattle.class_tree.specs.declared.pool.Const.{Const}
use Rattle.class_tree.specs.declared.members.Attr.TheVariants as attr
use Rattle.class_tree.specs.declared.members.MemberKind.{MemberKind}
use Rattle.class_tree.specs.declared.members.MemberKind.TheVariants as kinds
use Rattle.class_tree.specs.Flags.{has_flag}
use Rattle.class_tree.specs.Tree.{entry_at, class_at}
use Rattle.class_tree.specs.Trees.{Tree}
use Rattle.class_tree.specs.PoolRules.{is_name, desc_flaw}
use Rattle.class_tree.specs.WellFormed.{Owner, Class, Method, Field, StaticField, is_read, is_value, owner_of, has_its_body, is_version}
use Rattle.classfile_items.specs.declared.fault.ReadClassFault.TheVariants.{Memory}
use Rattle.classfile_items.specs.Reading.{offset}
use Rattle.classfile_read.specs.ClassReading.{raw_attr, body, constant, owned, attr_at, name_at, desc_at, flags_at, Names, is_among, member, members_from, members, plain_fault, plain_class, is_magic, magic, version, finished, class_from, class_of}
use Rattle.classfile_read.specs.ClassReading as of
use Rattle.classfile_items.proofs.NeverMemory.{NeverMemory, IfFault, value, refused, chain, on_test, on_provided, on_faultless, on_unless, on_map, u2_never, u4_never, counted_never, text_index_never, kept_never, measured_never}
use Rattle.classfile_pool.proofs.NeverMemory.{text_fault_of, pool_never}
use Rattle.classfile_code.proofs.NeverMemory.{code_never}

-- ---- attributes

raw_attr_never : (end name : ℕ) (bytes : List ℕ) → NeverMemory (raw_attr end name bytes)
raw_attr_never end name bytes = kept_never (attr.Raw name) end bytes

body_never : (major : ℕ) (pool : List Const) (end name : ℕ) (bytes : List ℕ) → NeverMemory (body major pool end name bytes)
body_never major pool end name bytes = measured_never (attr.Body name) end (code_never major pool end) bytes

value_never : (pool : List Const) (desc : Name) (end : ℕ) (bytes : List ℕ) → NeverMemory (of.value pool desc end bytes)
value_never pool desc end bytes = chain (u2_never end bytes) (λ n. on_provided (is_value desc (entry_at pool n.0)) _ n tt)

constant_never : (pool : List Const) (desc : Name) (end name : ℕ) (bytes : List ℕ) → NeverMemory (constant pool desc end name bytes)
constant_never pool desc end name bytes = measured_never (attr.Constant name) end (value_never pool desc end) bytes

owned_never : (major : ℕ) (pool : List Const) (end : ℕ) (owner : Owner) (name : ℕ) (bytes : List ℕ) → NeverMemory (owned major pool end owner name bytes)
owned_never major pool end Class name bytes = raw_attr_never end name bytes
owned_never major pool end Field name bytes = raw_attr_never end name bytes
owned_never major pool end Method name bytes = body_never major pool end name bytes
owned_never major pool end (StaticField desc) name bytes = constant_never pool desc end name bytes

attr_never : (major : ℕ) (pool : List Const) (end : ℕ) (owner : Owner) (bytes : List ℕ) → NeverMemory (attr_at major pool end owner bytes)
attr_never major pool end owner bytes =
    chain (text_index_never end pool bytes) (λ name. on_test (is_read owner name.0.1) (owned_never major pool end owner name.0.0 name.1) (raw_attr_never end name.0.0 name.1))

-- ---- fields and methods

name_never : (end : ℕ) (pool : List Const) (kind : MemberKind) (bytes : List ℕ) → NeverMemory (name_at end pool kind bytes)
name_never end pool kind bytes = chain (text_index_never end pool bytes) (λ name. on_provided (is_name kind name.0.1) _ name tt)

desc_never : (end : ℕ) (pool : List Const) (kind : MemberKind) (bytes : List ℕ) → NeverMemory (desc_at end pool kind bytes)
desc_never end pool kind bytes = chain (text_index_never end pool bytes) (λ desc. on_faultless _ desc (on_map _ (desc_flaw kind desc.0.1) (text_fault_of (offset end bytes))))

flags_never : (end : ℕ) (kind : MemberKind) (bytes : List ℕ) → NeverMemory (flags_at end kind bytes)
flags_never end kinds.Field bytes = u2_never end bytes
flags_never end kinds.Method bytes = chain (u2_never end bytes) (λ flags. on_provided (not (has_flag flags.0 Native)) _ flags tt)

module _ (major : ℕ) (pool : List Const) (end : ℕ) (kind : MemberKind) where
  member_never : (earlier : List Names) (bytes : List ℕ) → NeverMemory (member major pool end kind earlier bytes)
  member_never earlier bytes =
      chain (flags_never end kind bytes) (λ flags. chain (name_never end pool kind flags.1) (λ name. chain (desc_never end pool kind name.1) (λ desc.
      chain (on_provided (not (is_among (name.0.1, desc.0.1) earlier)) _ desc.1 tt) (λ rest. chain (counted_never end (attr_never major pool end (owner_of kind flags.0 desc.0.1)) rest) (λ attrs.
      on_provided (has_its_body kind flags.0 attrs.0) _ _ tt)))))

  members_from_never : (earlier : List Names) (n : ℕ) (bytes : List ℕ) → NeverMemory (members_from major pool end kind earlier n bytes)
  members_from_never earlier zero bytes = value
  members_from_never earlier (suc n) bytes = chain (member_never earlier bytes) (λ m. chain (members_from_never (m.0.1 ∷ earlier) n m.1) (λ ms. value))

  members_never : (bytes : List ℕ) → NeverMemory (members major pool end kind bytes)
  members_never bytes = chain (u2_never end bytes) (λ n. members_from_never [] n.0 n.1)

-- ---- a class

plain_fault_of : (at : ℕ) (o : Option Name) → IfFault (plain_fault at o)
plain_fault_of at None = tt
plain_fault_of at (Some name) = on_unless (is_class_name name) _ tt

plain_class_never : (end : ℕ) (pool : List Const) (bytes : List ℕ) → NeverMemory (plain_class end pool bytes)
plain_class_never end pool bytes = chain (u2_never end bytes) (λ n. on_faultless _ n (plain_fault_of (offset end bytes) (class_at pool n.0)))

magic_never : (end : ℕ) (bytes : List ℕ) → NeverMemory (magic end bytes)
magic_never end bytes = chain (u4_never end bytes) (λ n. on_provided (is_magic n.0) _ n tt)

version_never : (end : ℕ) (bytes : List ℕ) → NeverMemory (version end bytes)
version_never end bytes = chain (u2_never end bytes) (λ n. on_provided (is_version n.0) _ n tt)

finished_never : (end : ℕ) (bytes : List ℕ) (tree : Tree) → NeverMemory (finished end bytes tree)
finished_never end [] tree = value
finished_never end (b ∷ bytes) tree = refused tt

class_from_never : (end : ℕ) (bytes : List ℕ) → NeverMemory (class_from end bytes)
class_from_never end bytes =
    chain (magic_never end bytes) (λ magic. chain (u2_never end magic.1) (λ minor. chain (version_never end minor.1) (λ major. chain (pool_never end major.1) (λ pool.
    chain (u2_never end pool.1) (λ flags. chain (plain_class_never end pool.0 flags.1) (λ this. chain (plain_class_never end pool.0 this.1) (λ super.
    chain (counted_never end (plain_class_never end pool.0) super.1) (λ interfaces.
    chain (members_never major.0 pool.0 end kinds.Field interfaces.1) (λ fields. chain (members_never major.0 pool.0 end kinds.Method fields.1) (λ methods.
    chain (counted_never end (attr_never major.0 pool.0 end Class) methods.1) (λ attrs. finished_never end attrs.1 _)))))))))))

-- Reading never finds that memory ran out.
pub no_memory : (bytes : List ℕ) → class_of bytes ≢ Err Memory
no_memory bytes = (class_from_never (length bytes) bytes).never
