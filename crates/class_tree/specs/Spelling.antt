-- The bytes of a class file: JVM specification 4.1 and 4.4 to 4.7. Each number is spelled highest byte first.
use Rattle.std.specs.Prelude.{ℕ, ◌+◌, ℤ, List, [], ◌∷◌, ◌++◌, length, flat_map}
use Rattle.std.specs.Int.{w16, w32, w64, to_be_bytes, cast_unsigned}
use Rattle.jv_names.specs.Utf8.{utf8}
use Rattle.class_tree.specs.declared.pool.Const.{Const}
use Rattle.class_tree.specs.declared.pool.Const.TheVariants.{Utf8, Integer, Long, Class, Text, Field, Method, InterfaceMethod, NameType, Unused}
use Rattle.class_tree.specs.declared.frames.VerificationType.{VerificationType}
use Rattle.class_tree.specs.declared.frames.VerificationType.TheVariants as type
use Rattle.class_tree.specs.declared.frames.Chopped.{Chopped}
use Rattle.class_tree.specs.declared.frames.Chopped.TheVariants as chopped
use Rattle.class_tree.specs.declared.frames.Appended.{Appended}
use Rattle.class_tree.specs.declared.frames.Appended.TheVariants as appended
use Rattle.class_tree.specs.declared.frames.StackMapFrame.{StackMapFrame}
use Rattle.class_tree.specs.declared.frames.StackMapFrame.TheVariants as frame
use Rattle.class_tree.specs.declared.body.Handler.{Handler}
use Rattle.class_tree.specs.declared.body.Code.{Code}
use Rattle.class_tree.specs.declared.body.CodeAttr.{CodeAttr}
use Rattle.class_tree.specs.declared.body.CodeAttr.TheVariants as code_attr
use Rattle.class_tree.specs.declared.members.Member.{Member}
use Rattle.class_tree.specs.declared.members.Attr.{Attr}
use Rattle.class_tree.specs.declared.members.Attr.TheVariants as attr
use Rattle.class_tree.specs.Trees.{Tree}

unfoldable pub u2 : ℕ → List ℕ
u2 n = to_be_bytes w16 n

unfoldable pub u4 : ℕ → List ℕ
u4 n = to_be_bytes w32 n

unfoldable pub u8 : ℕ → List ℕ
u8 n = to_be_bytes w64 n

abbrev pub s4 : ℤ → List ℕ
s4 n = u4 (cast_unsigned w32 n)

abbrev pub s8 : ℤ → List ℕ
s8 n = u8 (cast_unsigned w64 n)

-- their number, and then one after the other
unfoldable pub counted : {A : Type 0} → (A → List ℕ) → List A → List ℕ
counted spelling xs = u2 (length xs) ++ flat_map spelling xs

-- ---- the constant pool: section 4.4

-- a tag, and what it announces; the second place of a Long has no bytes
abbrev pub const_bytes : Const → List ℕ
const_bytes (Utf8 text) = 1 ∷ (u2 (length (utf8 text)) ++ utf8 text)
const_bytes (Integer n) = 3 ∷ s4 n
const_bytes (Long n) = 5 ∷ s8 n
const_bytes (Class name) = 7 ∷ u2 name
const_bytes (Text text) = 8 ∷ u2 text
const_bytes (Field class name_type) = 9 ∷ (u2 class ++ u2 name_type)
const_bytes (Method class name_type) = 10 ∷ (u2 class ++ u2 name_type)
const_bytes (InterfaceMethod class name_type) = 11 ∷ (u2 class ++ u2 name_type)
const_bytes (NameType name desc) = 12 ∷ (u2 name ++ u2 desc)
const_bytes Unused = []

-- the count is one more than the greatest index
abbrev pub pool_bytes : List Const → List ℕ
pool_bytes pool = u2 (length pool + 1) ++ flat_map const_bytes pool

-- ---- stack maps: section 4.7.4

abbrev pub type_bytes : VerificationType → List ℕ
type_bytes type.Top = 0 ∷ []
type_bytes type.Integer = 1 ∷ []
type_bytes type.Long = 4 ∷ []
type_bytes type.Null = 5 ∷ []
type_bytes type.UninitializedThis = 6 ∷ []
type_bytes (type.Object class) = 7 ∷ u2 class
type_bytes (type.Uninitialized at) = 8 ∷ u2 at

abbrev pub chop_tag : Chopped → ℕ
chop_tag chopped.One = 250
chop_tag chopped.Two = 249
chop_tag chopped.Three = 248

abbrev pub append_tag : Appended → ℕ
append_tag (appended.One a) = 252
append_tag (appended.Two a b) = 253
append_tag (appended.Three a b c) = 254

abbrev pub appended_bytes : Appended → List ℕ
appended_bytes (appended.One a) = type_bytes a
appended_bytes (appended.Two a b) = type_bytes a ++ type_bytes b
appended_bytes (appended.Three a b c) = type_bytes a ++ (type_bytes b ++ type_bytes c)

abbrev pub frame_bytes : StackMapFrame → List ℕ
frame_bytes (frame.Same delta) = delta ∷ []
frame_bytes (frame.SameLocals1StackItem delta stack) = (64 + delta) ∷ type_bytes stack
frame_bytes (frame.SameLocals1StackItemExtended delta stack) = 247 ∷ (u2 delta ++ type_bytes stack)
frame_bytes (frame.Chop delta count) = chop_tag count ∷ u2 delta
frame_bytes (frame.SameExtended delta) = 251 ∷ u2 delta
frame_bytes (frame.Append delta locals) = append_tag locals ∷ (u2 delta ++ appended_bytes locals)
frame_bytes (frame.Full delta locals stack) = 255 ∷ (u2 delta ++ (counted type_bytes locals ++ counted type_bytes stack))

-- ---- attributes: section 4.7

-- the index of the name, the length of the content, the content
abbrev pub named_bytes : ℕ → List ℕ → List ℕ
named_bytes name content = u2 name ++ (u4 (length content) ++ content)

-- sections 4.7.3 and 4.7.4
abbrev pub code_attr_bytes : CodeAttr → List ℕ
code_attr_bytes (code_attr.Raw name bytes) = named_bytes name bytes
code_attr_bytes (code_attr.Frames name entries) = named_bytes name (counted frame_bytes entries)

abbrev pub handler_bytes : Handler → List ℕ
handler_bytes h = u2 h.start ++ (u2 h.end ++ (u2 h.target ++ u2 h.catch_type))

-- section 4.7.3
abbrev pub code_bytes : Code → List ℕ
code_bytes c = u2 c.max_stack ++ (u2 c.max_locals ++ (u4 (length c.bytes) ++ (c.bytes ++ (counted handler_bytes c.handlers ++ counted code_attr_bytes c.attrs))))

abbrev pub attr_bytes : Attr → List ℕ
attr_bytes (attr.Raw name bytes) = named_bytes name bytes
attr_bytes (attr.Body name code) = named_bytes name (code_bytes code)
attr_bytes (attr.Constant name value) = named_bytes name (u2 value)

-- ---- sections 4.5, 4.6 and 4.1

abbrev pub member_bytes : Member → List ℕ
member_bytes m = u2 m.flags.bits ++ (u2 m.name ++ (u2 m.desc ++ counted attr_bytes m.attrs))

-- what stands behind the constant pool
abbrev pub rest_bytes : Tree → List ℕ
rest_bytes t = u2 t.flags.bits ++ (u2 t.this_class ++ (u2 t.super_class ++ (counted u2 t.interfaces ++ (counted member_bytes t.fields ++ (counted member_bytes t.methods ++ counted attr_bytes t.attrs)))))

-- the magic number is cafebabe
abbrev pub class_bytes : Tree → List ℕ
class_bytes t = 0xca ∷ 0xfe ∷ 0xba ∷ 0xbe ∷ (u2 t.minor ++ (u2 t.major ++ (pool_bytes t.pool ++ rest_bytes t)))
