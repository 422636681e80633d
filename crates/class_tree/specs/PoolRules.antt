-- What the entries of a constant pool must be: JVM specification 4.2 to 4.4.
use Rattle.std.specs.Prelude.{ℕ, ◌+◌, Bool, true, false, ◌&&◌, not, ◌==◌, if◌then◌else◌, List, [], ◌∷◌, length, Option, Some, None, is_none}
use Rattle.std.specs.List.{list_all}
use Rattle.jv_names.specs.declared.descriptor.DescFlaw.{DescFlaw}
use Rattle.jv_names.specs.declared.descriptor.DescFlaw.TheVariants.{Bad}
use Rattle.jv_names.specs.Names.{Name, is_class_name, is_member_name, is_method_name}
use Rattle.jv_names.specs.DescriptorFlaws.{field_flaw, method_flaw}
use Rattle.jv_names.specs.Utf8.{utf8}
use Rattle.class_tree.specs.declared.pool.Const.{Const}
use Rattle.class_tree.specs.declared.pool.Const.TheVariants as const
use Rattle.class_tree.specs.Ranges.{is_u2, is_s4, is_s8}
use Rattle.class_tree.specs.Tree.{entry_at, text_at, names_class}
use Rattle.class_tree.specs.declared.members.MemberKind.{MemberKind}
use Rattle.class_tree.specs.declared.members.MemberKind.TheVariants as kinds

-- ---- names and descriptors: sections 4.2 and 4.3

abbrev pub begins_with : ℕ → Name → Bool
begins_with unit [] = false
begins_with unit (first ∷ _) = first == unit

-- a descriptor that begins with `(` is a method's, and any other, or none, a field's
abbrev pub kind_of : Option Name → MemberKind
kind_of None = kinds.Field
kind_of (Some desc) = if begins_with 40 desc then kinds.Method else kinds.Field

abbrev pub same_kind : MemberKind → MemberKind → Bool
same_kind kinds.Field kinds.Field = true
same_kind kinds.Method kinds.Method = true
same_kind a b = false

abbrev pub is_name : MemberKind → Name → Bool
is_name kinds.Field name = is_member_name name
is_name kinds.Method name = is_method_name name

abbrev pub desc_flaw : MemberKind → Name → Option DescFlaw
desc_flaw kinds.Field text = field_flaw text
desc_flaw kinds.Method text = method_flaw text

-- section 4.4.1: a class's name, or the descriptor of an array
abbrev pub class_text_flaw : Name → Option DescFlaw
class_text_flaw text = if is_class_name text then None else if begins_with 91 text then field_flaw text else Some Bad

-- ---- entries: section 4.4

-- a text stands there that passes the test
abbrev pub has_text : List Const → ℕ → (Name → Bool) → Bool
has_text pool index test = elim (text_at pool index) [ None ↦ false | Some text ↦ test text ]

abbrev pub is_pair : List Const → MemberKind → Option Const → Bool
is_pair pool kind (Some (const.NameType name desc)) = same_kind (kind_of (text_at pool desc)) kind
is_pair pool kind entry = false

-- a name and a descriptor of this kind
abbrev pub names_pair : List Const → MemberKind → ℕ → Bool
names_pair pool kind index = is_pair pool kind (entry_at pool index)

abbrev pub is_const : List Const → Const → Bool
is_const pool (const.Utf8 text) = list_all is_u2 text && is_u2 (length (utf8 text))
is_const pool (const.Integer n) = is_s4 n
is_const pool (const.Long n) = is_s8 n
is_const pool (const.Class name) = has_text pool name (λ text. is_none (class_text_flaw text))
is_const pool (const.Text text) = has_text pool text (λ _. true)
is_const pool (const.Field class pair) = names_class pool class && names_pair pool kinds.Field pair
is_const pool (const.Method class pair) = names_class pool class && names_pair pool kinds.Method pair
is_const pool (const.InterfaceMethod class pair) = names_class pool class && names_pair pool kinds.Method pair
is_const pool (const.NameType name desc) =
    let kind = kind_of (text_at pool desc) in has_text pool name (is_name kind) && has_text pool desc (λ text. is_none (desc_flaw kind text))
is_const pool const.Unused = true

-- section 4.4.5: a Long takes two places. `second` says that the first place is the second one of a Long.
abbrev pub are_laid_out : Bool → List Const → Bool
are_laid_out second [] = not second
are_laid_out true (const.Unused ∷ rest) = are_laid_out false rest
are_laid_out true (entry ∷ rest) = false
are_laid_out false (const.Unused ∷ rest) = false
are_laid_out false (const.Long n ∷ rest) = are_laid_out true rest
are_laid_out false (entry ∷ rest) = are_laid_out false rest

-- section 4.1: the count is one more than the greatest index
abbrev pub is_pool : List Const → Bool
is_pool pool = is_u2 (length pool + 1) && are_laid_out false pool && list_all (is_const pool) pool
