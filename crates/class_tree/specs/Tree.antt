-- Look-ups in the tree of a class file: JVM specification, chapter 4.
use Rattle.std.specs.Prelude.{◌≡◌, ℕ, ◌-◌, ◌==◌, Bool, true, false, ◌&&◌, if◌then◌else◌, List, [], ◌∷◌, Option, Some, None, slice_get, bytes_eq}
use Rattle.std.specs.Option.{option_or, option_and_then, option_zip}
use Rattle.jv_names.specs.Names.{Name, is_class_name}
use Rattle.class_tree.specs.declared.pool.Const.{Const}
use Rattle.class_tree.specs.declared.pool.Const.TheVariants.{Utf8, Class, NameType}
use Rattle.class_tree.specs.declared.frames.StackMapFrame.{StackMapFrame}
use Rattle.class_tree.specs.declared.body.Code.{Code}
use Rattle.class_tree.specs.declared.body.CodeAttr.{CodeAttr}
use Rattle.class_tree.specs.declared.body.CodeAttr.TheVariants.{Frames}
use Rattle.class_tree.specs.declared.members.Member.{Member}
use Rattle.class_tree.specs.declared.members.Attr.{Attr}
use Rattle.class_tree.specs.declared.members.Attr.TheVariants.{Body, Constant}

-- ---- the constant pool: section 4.4

-- the entry at an index: section 4.1 numbers them from 1
abbrev pub entry_at : List Const → ℕ → Option Const
entry_at pool index = if index == 0 then None else slice_get pool (index - 1)

-- the text of an entry: section 4.4.7
abbrev pub text_of : Const → Option Name
text_of (Utf8 text) = Some text
text_of _ = None

-- the text at an index
abbrev pub text_at : List Const → ℕ → Option Name
text_at pool index = option_and_then text_of (entry_at pool index)

-- the name of the class that an entry stands for: section 4.4.1
abbrev pub class_of : List Const → Const → Option Name
class_of pool (Class name) = text_at pool name
class_of pool _ = None

abbrev pub class_at : List Const → ℕ → Option Name
class_at pool index = option_and_then (class_of pool) (entry_at pool index)

-- a class, also one of an array
abbrev pub is_class : Option Const → Bool
is_class (Some (Class name)) = true
is_class entry = false

abbrev pub names_class : List Const → ℕ → Bool
names_class pool index = is_class (entry_at pool index)

-- a class that is no array
abbrev pub names_plain_class : List Const → ℕ → Bool
names_plain_class pool index = elim (class_at pool index) [ None ↦ false | Some name ↦ is_class_name name ]

-- the name and the descriptor of an entry: section 4.4.6
abbrev pub name_type_of : List Const → Const → Option (Name × Name)
name_type_of pool (NameType name desc) = option_zip (text_at pool name) (text_at pool desc)
name_type_of pool _ = None

abbrev pub name_type_at : List Const → ℕ → Option (Name × Name)
name_type_at pool index = option_and_then (name_type_of pool) (entry_at pool index)

-- ---- fields and methods by name: sections 4.5 and 4.6

-- a field or a method has this name and this descriptor
abbrev pub IsNamed : List Const → Name → Name → Member → Type 0
IsNamed pool name desc member = (text_at pool member.name ≡ Some name) × (text_at pool member.desc ≡ Some desc)

-- the one at a place of a list has
abbrev pub IsNamedAt : List Const → Name → Name → List Member → ℕ → Type 0
IsNamedAt pool name desc members place = (member : Member) × (slice_get members place ≡ Some member) × IsNamed pool name desc member

-- the test of it: an index at which no text stands names nothing
abbrev pub is_text : Option Name → Name → Bool
is_text None name = false
is_text (Some text) name = bytes_eq text name

abbrev pub is_named : List Const → Name → Name → Member → Bool
is_named pool name desc member = is_text (text_at pool member.name) name && is_text (text_at pool member.desc) desc

-- ---- attributes: section 4.7

-- the first answer that the elements of a list give
abbrev pub first_of : {A B : Type 0} → (A → Option B) → List A → Option B
first_of of [] = None
first_of of (x ∷ xs) = option_or (of x) (first_of of xs)

-- the body of a method: section 4.7.3
abbrev pub body_of : Attr → Option Code
body_of (Body name code) = Some code
body_of _ = None

abbrev pub code_of : List Attr → Option Code
code_of attrs = first_of body_of attrs

-- the index of the value of a field: section 4.7.2
abbrev pub value_of : Attr → Option ℕ
value_of (Constant name value) = Some value
value_of _ = None

abbrev pub constant_of : List Attr → Option ℕ
constant_of attrs = first_of value_of attrs

-- the entries of the stack map of a code: section 4.7.4
abbrev pub entries_of : CodeAttr → Option (List StackMapFrame)
entries_of (Frames name entries) = Some entries
entries_of _ = None

abbrev pub frames_of : List CodeAttr → Option (List StackMapFrame)
frames_of attrs = first_of entries_of attrs
