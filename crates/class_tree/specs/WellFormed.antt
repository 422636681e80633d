-- Which trees are class files: JVM specification 4.1 and 4.5 to 4.7, for versions 50 to 52 without floating point, native
-- methods, method handles and `invokedynamic`. Each number is in its range, each index names what it must, and its name and its
-- owner tell how an attribute is read.
use Rattle.std.specs.Prelude.{ℕ, Bool, true, false, ◌&&◌, ◌||◌, not, ◌==◌, nat_le, if◌then◌else◌, List, [], ◌∷◌, length, filter, Option, Some, codes, bytes_eq, is_none}
use Rattle.std.specs.List.{list_any}
use Rattle.jv_names.specs.Names.{Name}
use Rattle.class_tree.specs.declared.access.Flag.TheVariants.{Static, Native, Abstract}
use Rattle.class_tree.specs.declared.pool.Const.{Const}
use Rattle.class_tree.specs.declared.pool.Const.TheVariants as const
use Rattle.class_tree.specs.declared.members.Member.{Member}
use Rattle.class_tree.specs.declared.members.Attr.{Attr}
use Rattle.class_tree.specs.declared.members.Attr.TheVariants as attr
use Rattle.class_tree.specs.Flags.{has_flag}
use Rattle.class_tree.specs.Trees.{Tree}
use Rattle.class_tree.specs.Tree.{entry_at, names_plain_class}
use Rattle.class_tree.specs.Ranges.{is_u2, are_counted}
use Rattle.class_tree.specs.PoolRules.{is_name, desc_flaw, has_text, is_pool}
use Rattle.class_tree.specs.CodeRules.{is_content, is_raw, is_code}
use Rattle.class_tree.specs.Spelling.{code_bytes}
use Rattle.class_tree.specs.declared.members.MemberKind.{MemberKind}
use Rattle.class_tree.specs.declared.members.MemberKind.TheVariants as kinds

-- ---- attributes: section 4.7

-- whose attribute it is; a static field's comes with its descriptor
pub data Owner : Type 0 where
  Class : Owner
  Method : Owner
  Field : Owner
  StaticField : Name → Owner

-- the attributes that are read of it
abbrev pub is_read : Owner → Name → Bool
is_read Class name = false
is_read Method name = bytes_eq name (codes "Code")
is_read Field name = false
is_read (StaticField desc) name = bytes_eq name (codes "ConstantValue")

-- section 4.7.2: the value of a constant of this descriptor
abbrev pub is_value : Name → Option Const → Bool
is_value desc (Some (const.Long n)) = bytes_eq desc (codes "J")
is_value desc (Some (const.Integer n)) = list_any (bytes_eq desc) (codes "I" ∷ codes "S" ∷ codes "C" ∷ codes "B" ∷ codes "Z" ∷ [])
is_value desc (Some (const.Text text)) = bytes_eq desc (codes "Ljava/lang/String;")
is_value desc entry = false

abbrev pub is_attr : ℕ → List Const → Owner → Attr → Bool
is_attr major pool owner (attr.Raw name bytes) = is_raw pool (is_read owner) name bytes
is_attr major pool Method (attr.Body name code) = has_text pool name (is_read Method) && is_code major pool code && is_content (code_bytes code)
is_attr major pool (StaticField desc) (attr.Constant name value) = has_text pool name (is_read (StaticField desc)) && is_value desc (entry_at pool value)
is_attr major pool owner a = false

abbrev pub are_attrs : ℕ → List Const → Owner → List Attr → Bool
are_attrs major pool owner attrs = are_counted (is_attr major pool owner) attrs

-- ---- fields and methods: sections 4.5 and 4.6

-- whose attributes those of a member of this kind, with these flags and this descriptor, are
abbrev pub owner_of : MemberKind → ℕ → Name → Owner
owner_of kinds.Method flags desc = Method
owner_of kinds.Field flags desc = if has_flag flags Static then StaticField desc else Field

-- no method is native
abbrev pub are_flags : MemberKind → ℕ → Bool
are_flags kinds.Field flags = is_u2 flags
are_flags kinds.Method flags = is_u2 flags && not (has_flag flags Native)

abbrev pub is_body : Attr → Bool
is_body (attr.Body name code) = true
is_body a = false

-- an abstract method has no code, any other has one
abbrev pub has_its_body : MemberKind → ℕ → List Attr → Bool
has_its_body kinds.Field flags attrs = true
has_its_body kinds.Method flags attrs = length (filter is_body attrs) == (if has_flag flags Abstract then 0 else 1)

abbrev pub is_member : ℕ → List Const → MemberKind → Member → Bool
is_member major pool kind m =
    are_flags kind m.flags.bits && has_text pool m.name (is_name kind)
    && has_text pool m.desc (λ desc. is_none (desc_flaw kind desc) && are_attrs major pool (owner_of kind m.flags.bits desc) m.attrs)
    && has_its_body kind m.flags.bits m.attrs

-- both have one name and one descriptor
abbrev pub same_names : List Const → Member → Member → Bool
same_names pool a b = has_text pool a.name (λ name. has_text pool b.name (bytes_eq name)) && has_text pool a.desc (λ desc. has_text pool b.desc (bytes_eq desc))

abbrev pub are_distinct : List Const → List Member → Bool
are_distinct pool [] = true
are_distinct pool (m ∷ ms) = not (list_any (same_names pool m) ms) && are_distinct pool ms

abbrev pub are_members : ℕ → List Const → MemberKind → List Member → Bool
are_members major pool kind members = are_counted (is_member major pool kind) members && are_distinct pool members

-- ---- a class: section 4.1

abbrev pub is_version : ℕ → Bool
is_version major = nat_le 50 major && nat_le major 52

-- It may have no superclass, as Object. proofs/Facts names each of these facts.
unfoldable pub is_well_formed : Tree → Bool
is_well_formed t =
    is_u2 t.minor && is_version t.major && is_pool t.pool && is_u2 t.flags.bits && names_plain_class t.pool t.this_class
    && (t.super_class == 0 || names_plain_class t.pool t.super_class) && are_counted (names_plain_class t.pool) t.interfaces
    && are_members t.major t.pool kinds.Field t.fields && are_members t.major t.pool kinds.Method t.methods && are_attrs t.major t.pool Class t.attrs
