-- The bytes of a well-formed class file are bytes: numbers below 256.
use Rattle.std.proofs.Common.{◌≡◌, ◌∙◌, ℕ, zero, suc, ◌+◌, ◌/◌, ◌%◌, ◌^◌, ◌<◌, Bool, true, false, ◌&&◌, cond, List, [], ◌∷◌, ◌++◌, length, refl, ap, arith}
use Rattle.std.specs.Prelude.{nat_le}
use Rattle.std.specs.Int.{byte_at, bytes_high_first}
use Rattle.std.specs.List.{list_all, flat_map}
use Rattle.std.proofs.lemmas.Bool.{and_parts, ltb-true, lt-ltb, leb-true}
use Rattle.std.proofs.lemmas.List.Folds.{list_all-append}
use Rattle.std.proofs.Math.Nat.{mod-lt}
use Rattle.jv_names.specs.Utf8.{unit_bytes, utf8}
use Rattle.class_tree.specs.declared.pool.Const.{Const}
use Rattle.class_tree.specs.declared.pool.Const.TheVariants as const
use Rattle.class_tree.specs.declared.frames.VerificationType.{VerificationType}
use Rattle.class_tree.specs.declared.frames.VerificationType.TheVariants as type
use Rattle.class_tree.specs.declared.frames.Chopped.{Chopped}
use Rattle.class_tree.specs.declared.frames.Chopped.TheVariants as chopped
use Rattle.class_tree.specs.declared.frames.Appended.{Appended}
use Rattle.class_tree.specs.declared.frames.Appended.TheVariants as appended
use Rattle.class_tree.specs.declared.frames.StackMapFrame.{StackMapFrame}
use Rattle.class_tree.specs.declared.frames.StackMapFrame.TheVariants as frame
use Rattle.class_tree.specs.declared.body.Code.{Code}
use Rattle.class_tree.specs.declared.body.Handler.{Handler}
use Rattle.class_tree.specs.declared.body.CodeAttr.{CodeAttr}
use Rattle.class_tree.specs.declared.body.CodeAttr.TheVariants as code_attr
use Rattle.class_tree.specs.declared.members.Member.{Member}
use Rattle.class_tree.specs.declared.members.MemberKind.{MemberKind}
use Rattle.class_tree.specs.declared.members.MemberKind.TheVariants as kinds
use Rattle.class_tree.specs.declared.members.Attr.{Attr}
use Rattle.class_tree.specs.declared.members.Attr.TheVariants as attr
use Rattle.class_tree.specs.Trees.{Tree}
use Rattle.class_tree.specs.Ranges.{is_byte, is_u2, are_bytes}
use Rattle.class_tree.specs.Spelling.{u2, u4, u8, counted, const_bytes, pool_bytes, type_bytes, chop_tag, append_tag, appended_bytes, frame_bytes, named_bytes, code_attr_bytes, handler_bytes, code_bytes, attr_bytes, member_bytes, rest_bytes, class_bytes}
use Rattle.class_tree.specs.PoolRules.{is_const}
use Rattle.class_tree.specs.FrameRules.{is_frame}
use Rattle.class_tree.specs.CodeRules.{is_code_attr, is_stack_map, is_code}
use Rattle.class_tree.specs.WellFormed.{Owner, Class, is_read, is_attr, owner_of, is_member, are_members, is_well_formed}
use Rattle.class_tree.proofs.Facts.{counted_facts, pool_facts, members_facts, well_formed_facts, member_facts, raw_facts, body_facts, frames_facts, code_facts}

abbrev pub AreBytes : List ℕ → Type 0
AreBytes bytes = are_bytes bytes ≡ true

-- ---- lists

both : (front rest : List ℕ) → AreBytes front → AreBytes rest → AreBytes (front ++ rest)
both front rest f r = list_all-append is_byte front rest ∙ ap (λ b. b && are_bytes rest) f ∙ r

first_and : (byte : ℕ) (rest : List ℕ) → byte < 256 → AreBytes rest → AreBytes (byte ∷ rest)
first_and byte rest small are = ap (λ b. b && are_bytes rest) (lt-ltb byte 256 small) ∙ are

flat : {A : Type 0} (test : A → Bool) (spelling : A → List ℕ) → ((x : A) → test x ≡ true → AreBytes (spelling x)) → (xs : List A)
    → list_all test xs ≡ true → AreBytes (flat_map spelling xs)
flat test spelling each [] all = refl
flat test spelling each (x ∷ xs) all =
    let parts = and_parts (test x) (list_all test xs) all in
    both (spelling x) (flat_map spelling xs) (each x parts.0) (flat test spelling each xs parts.1)

-- of every element
always : {A : Type 0} (xs : List A) → list_all (λ (x : A). true) xs ≡ true
always [] = refl
always (x ∷ xs) = always xs

-- ---- numbers

byte_small : (k n : ℕ) → byte_at k n < 256
byte_small zero n = mod-lt n (omega arith)
byte_small (suc k) n = mod-lt (n / 256 ^ suc k) (omega arith)

high_first : (k n : ℕ) → AreBytes (bytes_high_first k n)
high_first zero n = refl
high_first (suc k) n = first_and (byte_at k n) (bytes_high_first k n) (byte_small k n) (high_first k n)

u2_are : (n : ℕ) → AreBytes (u2 n)
unfolding u2
u2_are n = high_first 2 n

u4_are : (n : ℕ) → AreBytes (u4 n)
unfolding u4
u4_are n = high_first 4 n

u8_are : (n : ℕ) → AreBytes (u8 n)
unfolding u8
u8_are n = high_first 8 n

two_are : (a b : ℕ) → AreBytes (u2 a ++ u2 b)
two_are a b = both (u2 a) (u2 b) (u2_are a) (u2_are b)

counted_are : {A : Type 0} (test : A → Bool) (spelling : A → List ℕ) → ((x : A) → test x ≡ true → AreBytes (spelling x)) → (xs : List A)
    → list_all test xs ≡ true → AreBytes (counted spelling xs)
unfolding counted
counted_are test spelling each xs all = both (u2 (length xs)) (flat_map spelling xs) (u2_are (length xs)) (flat test spelling each xs all)

-- ---- texts

unit_are : (unit : ℕ) → is_u2 unit ≡ true → AreBytes (unit_bytes unit)
unfolding unit_bytes
unit_are unit in_range = by (nat_le 1 unit) refl (nat_le unit 0x7f) refl (nat_le unit 0x7ff) refl
  where
    small : unit < 65536
    small = ltb-true unit 65536 in_range

    by : (some : Bool) → nat_le 1 unit ≡ some → (one : Bool) → nat_le unit 0x7f ≡ one → (two : Bool) → nat_le unit 0x7ff ≡ two
        → AreBytes (cond (some && one) (unit ∷ []) (cond two ((0xc0 + unit / 64) ∷ (0x80 + unit % 64) ∷ [])
        ((0xe0 + unit / 4096) ∷ (0x80 + unit / 64 % 64) ∷ (0x80 + unit % 64) ∷ [])))
    by true s true o two t = first_and unit [] (omega (arith, leb-true unit 0x7f o)) refl
    by true s false o true t =
        first_and (0xc0 + unit / 64) ((0x80 + unit % 64) ∷ []) (omega (arith, leb-true unit 0x7ff t)) (first_and (0x80 + unit % 64) [] (omega arith) refl)
    by false s one o true t =
        first_and (0xc0 + unit / 64) ((0x80 + unit % 64) ∷ []) (omega (arith, leb-true unit 0x7ff t)) (first_and (0x80 + unit % 64) [] (omega arith) refl)
    by true s false o false t =
        first_and (0xe0 + unit / 4096) ((0x80 + unit / 64 % 64) ∷ (0x80 + unit % 64) ∷ []) (omega (arith, small))
        (first_and (0x80 + unit / 64 % 64) ((0x80 + unit % 64) ∷ []) (omega arith) (first_and (0x80 + unit % 64) [] (omega arith) refl))
    by false s one o false t =
        first_and (0xe0 + unit / 4096) ((0x80 + unit / 64 % 64) ∷ (0x80 + unit % 64) ∷ []) (omega (arith, small))
        (first_and (0x80 + unit / 64 % 64) ((0x80 + unit % 64) ∷ []) (omega arith) (first_and (0x80 + unit % 64) [] (omega arith) refl))

-- ---- the constant pool

const_are : (pool : List Const) (entry : Const) → is_const pool entry ≡ true → AreBytes (const_bytes entry)
const_are pool (const.Utf8 text) is =
    let parts = and_parts (list_all is_u2 text) (is_u2 (length (utf8 text))) is in
    both (1 ∷ u2 (length (utf8 text))) (utf8 text) (u2_are (length (utf8 text))) (flat is_u2 unit_bytes unit_are text parts.0)
const_are pool (const.Integer n) is = u4_are _
const_are pool (const.Long n) is = u8_are _
const_are pool (const.Class name) is = u2_are name
const_are pool (const.Text text) is = u2_are text
const_are pool (const.Field class pair) is = two_are class pair
const_are pool (const.Method class pair) is = two_are class pair
const_are pool (const.InterfaceMethod class pair) is = two_are class pair
const_are pool (const.NameType name desc) is = two_are name desc
const_are pool const.Unused is = refl

-- ---- stack maps

type_are : (t : VerificationType) → AreBytes (type_bytes t)
type_are type.Top = refl
type_are type.Integer = refl
type_are type.Long = refl
type_are type.Null = refl
type_are type.UninitializedThis = refl
type_are (type.Object class) = u2_are class
type_are (type.Uninitialized at) = u2_are at

appended_are : (locals : Appended) → AreBytes (appended_bytes locals)
appended_are (appended.One a) = type_are a
appended_are (appended.Two a b) = both (type_bytes a) (type_bytes b) (type_are a) (type_are b)
appended_are (appended.Three a b c) =
    both (type_bytes a) (type_bytes b ++ type_bytes c) (type_are a) (both (type_bytes b) (type_bytes c) (type_are b) (type_are c))

chop_small : (count : Chopped) → chop_tag count < 256
chop_small chopped.One = omega arith
chop_small chopped.Two = omega arith
chop_small chopped.Three = omega arith

append_small : (locals : Appended) → append_tag locals < 256
append_small (appended.One a) = omega arith
append_small (appended.Two a b) = omega arith
append_small (appended.Three a b c) = omega arith

types_are : (types : List VerificationType) → AreBytes (counted type_bytes types)
types_are types = counted_are (λ (t : VerificationType). true) type_bytes (λ t is. type_are t) types (always types)

frame_are : (pool : List Const) (f : StackMapFrame) → is_frame pool f ≡ true → AreBytes (frame_bytes f)
frame_are pool (frame.Same delta) is = first_and delta [] (omega (arith, ltb-true delta 64 is)) refl
frame_are pool (frame.SameLocals1StackItem delta stack) is =
    first_and (64 + delta) (type_bytes stack) (omega (arith, ltb-true delta 64 (and_parts _ _ is).0)) (type_are stack)
frame_are pool (frame.SameLocals1StackItemExtended delta stack) is = both (u2 delta) (type_bytes stack) (u2_are delta) (type_are stack)
frame_are pool (frame.Chop delta count) is = first_and (chop_tag count) (u2 delta) (chop_small count) (u2_are delta)
frame_are pool (frame.SameExtended delta) is = u2_are delta
frame_are pool (frame.Append delta locals) is =
    first_and (append_tag locals) (u2 delta ++ appended_bytes locals) (append_small locals)
    (both (u2 delta) (appended_bytes locals) (u2_are delta) (appended_are locals))
frame_are pool (frame.Full delta locals stack) is =
    both (u2 delta) (counted type_bytes locals ++ counted type_bytes stack) (u2_are delta)
    (both (counted type_bytes locals) (counted type_bytes stack) (types_are locals) (types_are stack))

-- ---- attributes

named_are : (name : ℕ) (content : List ℕ) → AreBytes content → AreBytes (named_bytes name content)
named_are name content are =
    both (u2 name) (u4 (length content) ++ content) (u2_are name) (both (u4 (length content)) content (u4_are (length content)) are)

code_attr_are : (pool : List Const) (a : CodeAttr) → is_code_attr pool a ≡ true → AreBytes (code_attr_bytes a)
code_attr_are pool (code_attr.Raw name bytes) is = named_are name bytes (raw_facts pool is_stack_map name bytes is).bytes_are
code_attr_are pool (code_attr.Frames name entries) is =
    let all = (counted_facts (is_frame pool) entries (frames_facts pool name entries is).are_frames).all in
    named_are name (counted frame_bytes entries) (counted_are (is_frame pool) frame_bytes (frame_are pool) entries all)

handler_are : (h : Handler) → AreBytes (handler_bytes h)
handler_are h =
    both (u2 h.start) (u2 h.end ++ (u2 h.target ++ u2 h.catch_type)) (u2_are h.start)
    (both (u2 h.end) (u2 h.target ++ u2 h.catch_type) (u2_are h.end) (two_are h.target h.catch_type))

code_are : (major : ℕ) (pool : List Const) (c : Code) → is_code major pool c ≡ true → AreBytes (code_bytes c)
code_are major pool c is =
    let facts = code_facts major pool c is in
    let handlers = counted_are (λ (h : Handler). true) handler_bytes (λ h same. handler_are h) c.handlers (always c.handlers) in
    let attrs =
    counted_are (is_code_attr pool) code_attr_bytes (code_attr_are pool) c.attrs (counted_facts (is_code_attr pool) c.attrs facts.attrs).all in
    let tables = both (counted handler_bytes c.handlers) (counted code_attr_bytes c.attrs) handlers attrs in
    let behind = both c.bytes (counted handler_bytes c.handlers ++ counted code_attr_bytes c.attrs) facts.bytes_are tables in
    let sized = both (u4 (length c.bytes)) _ (u4_are (length c.bytes)) behind in
    both (u2 c.max_stack) _ (u2_are c.max_stack) (both (u2 c.max_locals) _ (u2_are c.max_locals) sized)

attr_are : (major : ℕ) (pool : List Const) (owner : Owner) (a : Attr) → is_attr major pool owner a ≡ true → AreBytes (attr_bytes a)
attr_are major pool owner (attr.Raw name bytes) is = named_are name bytes (raw_facts pool (is_read owner) name bytes is).bytes_are
attr_are major pool owner (attr.Body name code) is =
    named_are name (code_bytes code) (code_are major pool code (body_facts major pool owner name code is).is_code)
attr_are major pool owner (attr.Constant name value) is = named_are name (u2 value) (u2_are value)

attrs_are : (major : ℕ) (pool : List Const) (owner : Owner) (attrs : List Attr) → list_all (is_attr major pool owner) attrs ≡ true
    → AreBytes (counted attr_bytes attrs)
attrs_are major pool owner attrs all = counted_are (is_attr major pool owner) attr_bytes (attr_are major pool owner) attrs all

-- ---- members and the whole

member_are : (major : ℕ) (pool : List Const) (kind : MemberKind) (m : Member) → is_member major pool kind m ≡ true → AreBytes (member_bytes m)
member_are major pool kind m is =
    let facts = member_facts major pool kind m is in
    let owner = owner_of kind m.flags.bits facts.desc in
    let attrs = attrs_are major pool owner m.attrs (counted_facts (is_attr major pool owner) m.attrs facts.attrs).all in
    both (u2 m.flags.bits) _ (u2_are m.flags.bits) (both (u2 m.name) _ (u2_are m.name) (both (u2 m.desc) _ (u2_are m.desc) attrs))

members_are : (major : ℕ) (pool : List Const) (kind : MemberKind) (ms : List Member) → are_members major pool kind ms ≡ true
    → AreBytes (counted member_bytes ms)
members_are major pool kind ms is =
    counted_are (is_member major pool kind) member_bytes (member_are major pool kind) ms (members_facts major pool kind ms is).each

pub class_are : (t : Tree) → is_well_formed t ≡ true → AreBytes (class_bytes t)
class_are t well =
    let facts = well_formed_facts t well in
    let attrs = attrs_are t.major t.pool Class t.attrs (counted_facts (is_attr t.major t.pool Class) t.attrs facts.attrs).all in
    let interfaces = counted_are (λ (n : ℕ). true) u2 (λ n same. u2_are n) t.interfaces (always t.interfaces) in
    let supers = both (counted u2 t.interfaces) _ interfaces
    (both (counted member_bytes t.fields) _ (members_are t.major t.pool kinds.Field t.fields facts.fields)
    (both (counted member_bytes t.methods) (counted attr_bytes t.attrs) (members_are t.major t.pool kinds.Method t.methods facts.methods) attrs)) in
    let rest = both (u2 t.flags.bits) _ (u2_are t.flags.bits) (both (u2 t.this_class) _ (u2_are t.this_class)
    (both (u2 t.super_class) _ (u2_are t.super_class) supers)) in
    let entries = flat (is_const t.pool) const_bytes (const_are t.pool) t.pool (pool_facts t.pool facts.pool).entries in
    let pool = both (u2 (length t.pool + 1)) (flat_map const_bytes t.pool) (u2_are (length t.pool + 1)) entries in
    both (u2 t.minor) _ (u2_are t.minor) (both (u2 t.major) _ (u2_are t.major) (both (pool_bytes t.pool) (rest_bytes t) pool rest))
