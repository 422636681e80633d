-- Each part of a well-formed class can be spelled.
use Rattle.std.proofs.Common.{◌≡◌, ℕ, ◌+◌, ◌^◌, ◌<◌, true, List, length, Option, Some, None, refl, arith}
use Rattle.std.specs.Prelude.{nat_lt}
use Rattle.std.specs.List.{list_all}
use Rattle.std.proofs.lemmas.Bool.{and_parts, and_from, ltb-true, lt-ltb}
use Rattle.jv_names.specs.Utf8.{utf8}
use Rattle.class_code.specs.declared.instr.Instr.{Instr}
use Rattle.class_code.specs.CodeReading.{list_of}
use Rattle.class_tree.specs.declared.pool.Const.{Const}
use Rattle.class_tree.specs.declared.pool.Const.TheVariants as const
use Rattle.class_tree.specs.declared.frames.StackMapFrame.{StackMapFrame}
use Rattle.class_tree.specs.declared.frames.StackMapFrame.TheVariants as frame
use Rattle.class_tree.specs.declared.body.Code.{Code}
use Rattle.class_tree.specs.declared.body.CodeAttr.{CodeAttr}
use Rattle.class_tree.specs.declared.body.CodeAttr.TheVariants as code_attr
use Rattle.class_tree.specs.declared.members.Member.{Member}
use Rattle.class_tree.specs.declared.members.MemberKind.{MemberKind}
use Rattle.class_tree.specs.declared.members.MemberKind.TheVariants as kinds
use Rattle.class_tree.specs.declared.members.Attr.{Attr}
use Rattle.class_tree.specs.declared.members.Attr.TheVariants as attr
use Rattle.class_tree.specs.Trees.{Tree}
use Rattle.class_tree.specs.Ranges.{is_u2, is_short, are_counted}
use Rattle.class_tree.specs.PoolRules.{is_const}
use Rattle.class_tree.specs.FrameRules.{is_frame}
use Rattle.class_tree.specs.CodeRules.{is_content, is_stack_map, is_code_attr, is_code_length, is_listed, is_code}
use Rattle.class_tree.specs.WellFormed.{Owner, Class, is_read, is_attr, are_attrs, is_member, are_members, is_well_formed}
use Rattle.class_tree.proofs.Facts.{counted_facts, pool_facts, members_facts, well_formed_facts, member_facts, raw_facts, body_facts, frames_facts, code_facts, full_facts}
use Rattle.classfile_write.specs.Fits.{always_fits, const_fits, frame_fits, code_attr_fits, code_fits, attr_fits, member_fits}
use Rattle.classfile_write.proofs.Lists.{any_counted, all_weaker, counted_weaker}

const_fit : (pool : List Const) (c : Const) → is_const pool c ≡ true → const_fits c ≡ true
const_fit pool (const.Utf8 text) is = (and_parts _ (is_u2 (length (utf8 text))) is).1
const_fit pool (const.Integer n) is = refl
const_fit pool (const.Long n) is = refl
const_fit pool (const.Class name) is = refl
const_fit pool (const.Text text) is = refl
const_fit pool (const.Field class pair) is = refl
const_fit pool (const.Method class pair) is = refl
const_fit pool (const.InterfaceMethod class pair) is = refl
const_fit pool (const.NameType name desc) is = refl
const_fit pool const.Unused is = refl

frame_fit : (pool : List Const) (f : StackMapFrame) → is_frame pool f ≡ true → frame_fits f ≡ true
frame_fit pool (frame.Same delta) is = refl
frame_fit pool (frame.SameLocals1StackItem delta stack) is = refl
frame_fit pool (frame.SameLocals1StackItemExtended delta stack) is = refl
frame_fit pool (frame.Chop delta count) is = refl
frame_fit pool (frame.SameExtended delta) is = refl
frame_fit pool (frame.Append delta locals) is = refl
frame_fit pool (frame.Full delta locals stack) is =
    let f = full_facts pool delta locals stack is in
    and_from _ _ (counted_facts _ locals f.locals_are).short (counted_facts _ stack f.stack_are).short

code_attr_fit : (pool : List Const) (a : CodeAttr) → is_code_attr pool a ≡ true → code_attr_fits a ≡ true
code_attr_fit pool (code_attr.Raw name bytes) is = (raw_facts pool is_stack_map name bytes is).content
code_attr_fit pool (code_attr.Frames name entries) is =
    let f = frames_facts pool name entries is in
    and_from _ _ (counted_weaker (is_frame pool) frame_fits (frame_fit pool) entries f.are_frames) f.content

handlers_short : (major : ℕ) (pool : List Const) (code : Code) (list : Option (List (ℕ × Instr))) → is_listed major pool code list ≡ true → is_short code.handlers ≡ true
handlers_short major pool code None is = absurd cc
handlers_short major pool code (Some list) is = (counted_facts _ code.handlers (and_parts _ _ is).1).short

-- so many bytes can be counted in four
array_fits : (bytes : List ℕ) → is_code_length (length bytes) ≡ true → is_content bytes ≡ true
array_fits bytes is =
    let below : length bytes < 65536 = ltb-true (length bytes) 65536 (and_parts (nat_lt 0 (length bytes)) _ is).1 in
    lt-ltb (length bytes) (2 ^ 32) (omega arith)

code_fit : (major : ℕ) (pool : List Const) (code : Code) → is_code major pool code ≡ true → code_fits code ≡ true
code_fit major pool code is =
    let f = code_facts major pool code is in
    let handlers = handlers_short major pool code (list_of code.bytes) f.listed in
    and_from _ _ (and_from _ _ (array_fits code.bytes f.len) handlers) (counted_weaker (is_code_attr pool) code_attr_fits (code_attr_fit pool) code.attrs f.attrs)

attr_fit : (major : ℕ) (pool : List Const) (owner : Owner) (a : Attr) → is_attr major pool owner a ≡ true → attr_fits a ≡ true
attr_fit major pool owner (attr.Raw name bytes) is = (raw_facts pool (is_read owner) name bytes is).content
attr_fit major pool owner (attr.Body name code) is =
    let f = body_facts major pool owner name code is in
    and_from _ _ (code_fit major pool code f.is_code) f.content
attr_fit major pool owner (attr.Constant name value) is = refl

attrs_fit : (major : ℕ) (pool : List Const) (owner : Owner) (attrs : List Attr) → are_attrs major pool owner attrs ≡ true → are_counted attr_fits attrs ≡ true
attrs_fit major pool owner attrs are = counted_weaker (is_attr major pool owner) attr_fits (attr_fit major pool owner) attrs are

member_fit : (major : ℕ) (pool : List Const) (kind : MemberKind) (m : Member) → is_member major pool kind m ≡ true → member_fits m ≡ true
member_fit major pool kind m is = attrs_fit major pool _ m.attrs (member_facts major pool kind m is).attrs

members_fit : (major : ℕ) (pool : List Const) (kind : MemberKind) (members : List Member) → are_members major pool kind members ≡ true → are_counted member_fits members ≡ true
members_fit major pool kind members are =
    let f = members_facts major pool kind members are in
    and_from _ _ f.short (all_weaker (is_member major pool kind) member_fits (member_fit major pool kind) members f.each)

-- what the parts of a class need
pub record TreeFits (t : Tree) : Type 0 where
  pub short : length t.pool + 1 < 2 ^ 16
  pub entries : list_all const_fits t.pool ≡ true
  pub interfaces : are_counted always_fits t.interfaces ≡ true
  pub fields : are_counted member_fits t.fields ≡ true
  pub methods : are_counted member_fits t.methods ≡ true
  pub attrs : are_counted attr_fits t.attrs ≡ true

pub tree_fits : (t : Tree) → is_well_formed t ≡ true → TreeFits t
tree_fits t is =
    let f = well_formed_facts t is in
    let pool = pool_facts t.pool f.pool in
    record {
      short = ltb-true (length t.pool + 1) 65536 pool.short;
      entries = all_weaker (is_const t.pool) const_fits (const_fit t.pool) t.pool pool.entries;
      interfaces = any_counted t.interfaces (counted_facts _ t.interfaces f.interfaces).short;
      fields = members_fit t.major t.pool kinds.Field t.fields f.fields;
      methods = members_fit t.major t.pool kinds.Method t.methods f.methods;
      attrs = attrs_fit t.major t.pool Class t.attrs f.attrs;
    }
