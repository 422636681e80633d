-- The laws of what stands behind the pool of a class: the class and its superclass, its interfaces, its members and its
-- attributes.
use Rattle.std.proofs.Common.{◌≡◌, ℕ, ◌-◌, ◌<◌, Bool, true, false, List, [], ◌∷◌, ◌++◌, length, Option, Some, None, Ok, refl, sym, ap, subst, ◌∙◌, append_assoc, append-nil, arith}
use Rattle.std.specs.Prelude.{◌≢◌, ◌==◌, is_some, if◌then◌else◌, slice_get}
use Rattle.std.specs.Option.{option_and_then}
use Rattle.jv_names.specs.Names.{Name, is_class_name}
use Rattle.class_tree.specs.declared.pool.Const.{Const}
use Rattle.class_tree.specs.declared.members.Attr.{Attr}
use Rattle.class_tree.specs.declared.members.Member.{Member}
use Rattle.class_tree.specs.declared.members.MemberKind.TheVariants as kinds
use Rattle.class_tree.specs.Ranges.{is_u2, is_short, are_counted, are_bytes}
use Rattle.class_tree.specs.Spelling.{attr_bytes, member_bytes, rest_bytes}
use Rattle.class_tree.specs.Spelling as bytes_of
use Rattle.class_tree.specs.Tree.{entry_at, class_at, names_plain_class}
use Rattle.class_tree.specs.Tree as look_up
use Rattle.class_tree.specs.Trees.{Tree}
use Rattle.class_tree.specs.WellFormed.{Class, is_attr, are_attrs, are_members}
use Rattle.classfile_items.specs.declared.fault.ReadClassFault.TheVariants.{BadText}
use Rattle.classfile_items.specs.Reading.{Checked, ◌>>=◌, offset, u2, counted}
use Rattle.classfile_read.specs.ClassReading.{attr_at, members, plain_fault, plain_class, finished}
use Rattle.classfile_items.proofs.Laws.{Stands, IsSound, IsComplete}
use Rattle.classfile_items.proofs.StepLaws.{sound_steps, joined}
use Rattle.classfile_items.proofs.NumberLaws.{u2_sound, u2_complete}
use Rattle.classfile_items.proofs.ListLaws.{counted_sound, counted_complete}
use Rattle.classfile_items.proofs.Indices.{index_short}
use Rattle.classfile_items.proofs.FaultLaws.{faultless_of, unless_holds}
use Rattle.classfile_read.proofs.AttrLaws.{attr_sound, attr_complete}
use Rattle.classfile_read.proofs.DistinctLaws.{members_sound, members_complete}

-- ---- classes that are no arrays

abbrev is_plain : Option Name → Bool
is_plain None = false
is_plain (Some name) = is_class_name name

plain_none : (at : ℕ) (o : Option Name) → plain_fault at o ≡ None → is_plain o ≡ true
plain_none at None e = cc
plain_none at (Some name) e = unless_holds (is_class_name name) (BadText at) e

none_plain : (at : ℕ) (o : Option Name) → is_plain o ≡ true → plain_fault at o ≡ None
none_plain at None e = cc
none_plain at (Some name) e = rw e refl

plain_stands : (end : ℕ) (pool : List Const) (bytes : List ℕ) (x : ℕ × List ℕ) → are_bytes bytes ≡ true → plain_class end pool bytes ≡ Ok x → Stands bytes_of.u2 (names_plain_class pool) bytes x
plain_stands end pool bytes x are e =
    let s = sound_steps (u2_sound end) bytes _ x are e in
    let p = faultless_of (plain_fault (offset end bytes) (class_at pool s.value)) (s.value, s.rest) x s.second in
    subst (Stands bytes_of.u2 (names_plain_class pool) bytes) p.same (record { spelled = s.first.spelled; passes = plain_none (offset end bytes) (class_at pool s.value) p.none; left = s.first.left })

plain_sound : (end : ℕ) (pool : List Const) → IsSound (plain_class end pool) bytes_of.u2 (names_plain_class pool)
plain_sound end pool = record { stands = plain_stands end pool }

plain_some : (pool : List Const) (entry : Option Const) → is_plain (option_and_then (look_up.class_of pool) entry) ≡ true → is_some entry ≡ true
plain_some pool None is = is
plain_some pool (Some entry) is = refl

plain_complete : (end : ℕ) (pool : List Const) → is_short pool ≡ true → IsComplete (plain_class end pool) bytes_of.u2 (names_plain_class pool)
plain_complete end pool short index rest passes =
    let fits = index_short pool index short (plain_some pool (entry_at pool index) passes) in
    rw (u2_complete end index rest fits, none_plain (offset end (bytes_of.u2 index ++ rest)) (class_at pool index) passes) refl

-- no class is named in a pool without entries, nor by the index 0
nothing_there : (first : Bool) (index : ℕ) → is_some {T = Const} (if first then None else slice_get [] index) ≡ true → ⊥
nothing_there true index e = cc
nothing_there false index e = cc

pub some_entries : (pool : List Const) (index : ℕ) → names_plain_class pool index ≡ true → 0 < length pool
some_entries [] index is = absurd (nothing_there (index == 0) (index - 1) (plain_some [] (entry_at [] index) is))
some_entries (c ∷ pool) index is = omega arith

pub not_zero : (pool : List Const) (index : ℕ) → names_plain_class pool index ≡ true → index ≢ 0
not_zero pool index is none = let e : names_plain_class pool 0 ≡ true = subst (λ (n : ℕ). names_plain_class pool n ≡ true) none is in cc

-- ---- what stands behind the pool

-- the fields, the methods and the attributes, of which a tree is made, and nothing behind them
abbrev MadeOf : Type 0
MadeOf = List Member → List Member → List Attr → Tree

abbrev members_behind : ℕ → ℕ → List Const → MadeOf → List ℕ → Checked Tree
members_behind end major pool make bytes =
    members major pool end kinds.Field bytes >>= λ fields. members major pool end kinds.Method fields.1 >>= λ methods.
    counted end (attr_at major pool end Class) methods.1 >>= λ attrs. finished end attrs.1 (make fields.0 methods.0 attrs.0)

record MembersStand (major : ℕ) (pool : List Const) (make : MadeOf) (bytes : List ℕ) (t : Tree) : Type 0 where
  fields : List Member
  methods : List Member
  attrs : List Attr
  is : make fields methods attrs ≡ t
  spelled : bytes ≡ bytes_of.counted member_bytes fields ++ (bytes_of.counted member_bytes methods ++ bytes_of.counted attr_bytes attrs)
  fields_pass : are_members major pool kinds.Field fields ≡ true
  methods_pass : are_members major pool kinds.Method methods ≡ true
  attrs_pass : are_attrs major pool Class attrs ≡ true

record Finished (bytes : List ℕ) (t u : Tree) : Type 0 where
  none : bytes ≡ []
  same : t ≡ u

finished_of : (end : ℕ) (bytes : List ℕ) (t u : Tree) → finished end bytes t ≡ Ok u → Finished bytes t u
finished_of end [] t u e = record { none = refl; same = cc }
finished_of end (b ∷ bytes) t u e = cc

-- where nothing is left, the spelling is all
all_spelled : (front rest : List ℕ) {bytes : List ℕ} → bytes ≡ front ++ rest → rest ≡ [] → bytes ≡ front
all_spelled front rest spelled none = spelled ∙ ap (λ (r : List ℕ). front ++ r) none ∙ append-nil front

members_behind_sound : (end major : ℕ) (pool : List Const) (make : MadeOf) (bytes : List ℕ) (t : Tree) → are_bytes bytes ≡ true → members_behind end major pool make bytes ≡ Ok t → MembersStand major pool make bytes t
members_behind_sound end major pool make bytes t are e =
    let fields = sound_steps (members_sound major pool end kinds.Field) bytes _ t are e in
    let methods = sound_steps (members_sound major pool end kinds.Method) fields.rest _ t fields.first.left fields.second in
    let attrs = sound_steps (counted_sound (attr_sound major pool end Class) end) methods.rest _ t methods.first.left methods.second in
    let f = finished_of end attrs.rest (make fields.value methods.value attrs.value) t attrs.second in
    let a = bytes_of.counted attr_bytes attrs.value in
    let m = bytes_of.counted member_bytes methods.value in
    let l = bytes_of.counted member_bytes fields.value in
    record {
      fields = fields.value;
      methods = methods.value;
      attrs = attrs.value;
      is = f.same;
      spelled = all_spelled (l ++ (m ++ a)) attrs.rest (joined l (m ++ a) attrs.rest fields.first.spelled (joined m a attrs.rest methods.first.spelled attrs.first.spelled)) f.none;
      fields_pass = fields.first.passes;
      methods_pass = methods.first.passes;
      attrs_pass = attrs.first.passes;
    }

-- the flags, the class, its superclass and its interfaces, and what follows
abbrev Follows : Type 0
Follows = ℕ → ℕ → ℕ → List ℕ → List ℕ → Checked Tree

abbrev classes_first : ℕ → List Const → Follows → List ℕ → Checked Tree
classes_first end pool next bytes =
    u2 end bytes >>= λ flags. plain_class end pool flags.1 >>= λ this. plain_class end pool this.1 >>= λ super.
    counted end (plain_class end pool) super.1 >>= λ interfaces. next flags.0 this.0 super.0 interfaces.0 interfaces.1

record ClassesStand (pool : List Const) (next : Follows) (bytes : List ℕ) (t : Tree) : Type 0 where
  flags : ℕ
  this : ℕ
  super : ℕ
  interfaces : List ℕ
  rest : List ℕ
  second : next flags this super interfaces rest ≡ Ok t
  spelled : bytes ≡ (bytes_of.u2 flags ++ (bytes_of.u2 this ++ (bytes_of.u2 super ++ bytes_of.counted bytes_of.u2 interfaces))) ++ rest
  flags_pass : is_u2 flags ≡ true
  this_passes : names_plain_class pool this ≡ true
  super_passes : names_plain_class pool super ≡ true
  interfaces_pass : are_counted (names_plain_class pool) interfaces ≡ true
  left : are_bytes rest ≡ true

classes_first_sound : (end : ℕ) (pool : List Const) (next : Follows) (bytes : List ℕ) (t : Tree) → are_bytes bytes ≡ true → classes_first end pool next bytes ≡ Ok t → ClassesStand pool next bytes t
classes_first_sound end pool next bytes t are e =
    let flags = sound_steps (u2_sound end) bytes _ t are e in
    let this = sound_steps (plain_sound end pool) flags.rest _ t flags.first.left flags.second in
    let super = sound_steps (plain_sound end pool) this.rest _ t this.first.left this.second in
    let interfaces = sound_steps (counted_sound (plain_sound end pool) end) super.rest _ t super.first.left super.second in
    let i = bytes_of.counted bytes_of.u2 interfaces.value in
    let s = bytes_of.u2 super.value in
    let h = bytes_of.u2 this.value in
    record {
      flags = flags.value;
      this = this.value;
      super = super.value;
      interfaces = interfaces.value;
      rest = interfaces.rest;
      second = interfaces.second;
      spelled = joined (bytes_of.u2 flags.value) (h ++ (s ++ i)) interfaces.rest flags.first.spelled
          (joined h (s ++ i) interfaces.rest this.first.spelled (joined s i interfaces.rest super.first.spelled interfaces.first.spelled));
      flags_pass = flags.first.passes;
      this_passes = this.first.passes;
      super_passes = super.first.passes;
      interfaces_pass = interfaces.first.passes;
      left = interfaces.first.left;
    }

-- all of it
abbrev pub behind : ℕ → ℕ → ℕ → List Const → List ℕ → Checked Tree
behind end minor major pool bytes =
    u2 end bytes >>= λ flags. plain_class end pool flags.1 >>= λ this. plain_class end pool this.1 >>= λ super.
    counted end (plain_class end pool) super.1 >>= λ interfaces.
    members major pool end kinds.Field interfaces.1 >>= λ fields. members major pool end kinds.Method fields.1 >>= λ methods.
    counted end (attr_at major pool end Class) methods.1 >>= λ attrs.
    finished end attrs.1 (record { minor = minor; major = major; pool = pool; flags = record { bits = flags.0 }; this_class = this.0; super_class = super.0; interfaces = interfaces.0; fields = fields.0; methods = methods.0; attrs = attrs.0 })

-- A tree of this version and this pool is spelled behind the pool, as far as its other parts go.
pub record BehindStands (minor major : ℕ) (pool : List Const) (bytes : List ℕ) (t : Tree) : Type 0 where
  pub minor_is : minor ≡ t.minor
  pub major_is : major ≡ t.major
  pub pool_is : pool ≡ t.pool
  pub spelled : bytes ≡ rest_bytes t
  pub flags : is_u2 t.flags.bits ≡ true
  pub this : names_plain_class t.pool t.this_class ≡ true
  pub super : names_plain_class t.pool t.super_class ≡ true
  pub interfaces : are_counted (names_plain_class t.pool) t.interfaces ≡ true
  pub fields : are_members t.major t.pool kinds.Field t.fields ≡ true
  pub methods : are_members t.major t.pool kinds.Method t.methods ≡ true
  pub attrs : are_attrs t.major t.pool Class t.attrs ≡ true

abbrev made : ℕ → ℕ → List Const → ℕ → ℕ → ℕ → List ℕ → MadeOf
made minor major pool flags this super interfaces fields methods attrs =
    record { minor = minor; major = major; pool = pool; flags = record { bits = flags }; this_class = this; super_class = super; interfaces = interfaces; fields = fields; methods = methods; attrs = attrs }

abbrev then_members : ℕ → ℕ → ℕ → List Const → Follows
then_members end minor major pool flags this super interfaces rest = members_behind end major pool (made minor major pool flags this super interfaces) rest

behind_of : (end minor major : ℕ) (pool : List Const) (bytes : List ℕ) (t : Tree) (c : ClassesStand pool (then_members end minor major pool) bytes t) → MembersStand major pool (made minor major pool c.flags c.this c.super c.interfaces) c.rest t → BehindStands minor major pool bytes t
behind_of end minor major pool bytes t c m =
    let a = bytes_of.counted member_bytes m.fields ++ (bytes_of.counted member_bytes m.methods ++ bytes_of.counted attr_bytes m.attrs) in
    let grouped : (bytes_of.u2 c.flags ++ (bytes_of.u2 c.this ++ (bytes_of.u2 c.super ++ bytes_of.counted bytes_of.u2 c.interfaces))) ++ a ≡ rest_bytes (made minor major pool c.flags c.this c.super c.interfaces m.fields m.methods m.attrs) = simp append_assoc in
    subst (BehindStands minor major pool bytes) m.is (record {
      minor_is = refl;
      major_is = refl;
      pool_is = refl;
      spelled = c.spelled ∙ ap (λ (rest : List ℕ). (bytes_of.u2 c.flags ++ (bytes_of.u2 c.this ++ (bytes_of.u2 c.super ++ bytes_of.counted bytes_of.u2 c.interfaces))) ++ rest) m.spelled ∙ grouped;
      flags = c.flags_pass;
      this = c.this_passes;
      super = c.super_passes;
      interfaces = c.interfaces_pass;
      fields = m.fields_pass;
      methods = m.methods_pass;
      attrs = m.attrs_pass;
    })

pub behind_sound : (end minor major : ℕ) (pool : List Const) (bytes : List ℕ) (t : Tree) → are_bytes bytes ≡ true → behind end minor major pool bytes ≡ Ok t → BehindStands minor major pool bytes t
behind_sound end minor major pool bytes t are e =
    let c = classes_first_sound end pool (then_members end minor major pool) bytes t are e in
    behind_of end minor major pool bytes t c (members_behind_sound end major pool (made minor major pool c.flags c.this c.super c.interfaces) c.rest t c.left c.second)

pub behind_complete : (end : ℕ) (t : Tree) → is_short t.pool ≡ true → BehindStands t.minor t.major t.pool (rest_bytes t) t → behind end t.minor t.major t.pool (rest_bytes t) ≡ Ok t
behind_complete end t short is =
    let a = bytes_of.counted attr_bytes t.attrs ++ [] in
    let m = bytes_of.counted member_bytes t.methods in
    let l = bytes_of.counted member_bytes t.fields in
    let i = bytes_of.counted bytes_of.u2 t.interfaces in
    let s = bytes_of.u2 t.super_class in
    let h = bytes_of.u2 t.this_class in
    let front : List ℕ → List ℕ = λ a. bytes_of.u2 t.flags.bits ++ (h ++ (s ++ (i ++ (l ++ (m ++ a))))) in
    let plain = plain_complete end t.pool short in
    let attrs = counted_complete (attr_at t.major t.pool end Class) attr_bytes (is_attr t.major t.pool Class) (attr_complete t.major t.pool short end Class) end in
    ap (λ (a : List ℕ). behind end t.minor t.major t.pool (front a)) (sym (append-nil (bytes_of.counted attr_bytes t.attrs)))
    ∙ rw (
      u2_complete end t.flags.bits (h ++ (s ++ (i ++ (l ++ (m ++ a))))) is.flags,
      plain t.this_class (s ++ (i ++ (l ++ (m ++ a)))) is.this,
      plain t.super_class (i ++ (l ++ (m ++ a))) is.super,
      counted_complete (plain_class end t.pool) bytes_of.u2 (names_plain_class t.pool) plain end t.interfaces (l ++ (m ++ a)) is.interfaces,
      members_complete t.major t.pool short end kinds.Field t.fields (m ++ a) is.fields,
      members_complete t.major t.pool short end kinds.Method t.methods a is.methods,
      attrs t.attrs [] is.attrs,
    ) refl
