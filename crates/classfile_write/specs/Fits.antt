-- Which parts of a class file can be spelled: each count and each length has room in the bytes that spell it. Every part of
-- a well-formed class has.
use Rattle.std.specs.Prelude.{Bool, true, ◌&&◌, length}
use Rattle.jv_names.specs.Utf8.{utf8}
use Rattle.class_tree.specs.declared.pool.Const.{Const}
use Rattle.class_tree.specs.declared.pool.Const.TheVariants as const
use Rattle.class_tree.specs.declared.frames.StackMapFrame.{StackMapFrame}
use Rattle.class_tree.specs.declared.frames.StackMapFrame.TheVariants as frame
use Rattle.class_tree.specs.declared.body.Code.{Code}
use Rattle.class_tree.specs.declared.body.CodeAttr.{CodeAttr}
use Rattle.class_tree.specs.declared.body.CodeAttr.TheVariants as code_attr
use Rattle.class_tree.specs.declared.members.Member.{Member}
use Rattle.class_tree.specs.declared.members.Attr.{Attr}
use Rattle.class_tree.specs.declared.members.Attr.TheVariants as attr
use Rattle.class_tree.specs.Ranges.{is_u2, is_short, are_counted}
use Rattle.class_tree.specs.Spelling.{counted, frame_bytes, code_bytes}
use Rattle.class_tree.specs.CodeRules.{is_content}

-- of a part without counts and lengths
abbrev pub always_fits : {A : Type 0} → A → Bool
always_fits _ = true

abbrev pub const_fits : Const → Bool
const_fits (const.Utf8 text) = is_u2 (length (utf8 text))
const_fits _ = true

abbrev pub frame_fits : StackMapFrame → Bool
frame_fits (frame.Full delta locals stack) = is_short locals && is_short stack
frame_fits _ = true

abbrev pub code_attr_fits : CodeAttr → Bool
code_attr_fits (code_attr.Raw name bytes) = is_content bytes
code_attr_fits (code_attr.Frames name entries) = are_counted frame_fits entries && is_content (counted frame_bytes entries)

abbrev pub code_fits : Code → Bool
code_fits code = is_content code.bytes && is_short code.handlers && are_counted code_attr_fits code.attrs

abbrev pub attr_fits : Attr → Bool
attr_fits (attr.Raw name bytes) = is_content bytes
attr_fits (attr.Body name code) = code_fits code && is_content (code_bytes code)
attr_fits (attr.Constant name value) = true

abbrev pub member_fits : Member → Bool
member_fits m = are_counted attr_fits m.attrs
