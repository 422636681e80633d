-- The laws of one field or method.
use Rattle.std.proofs.Common.{◌≡◌, ℕ, Bool, true, false, not, List, ◌++◌, Some, Ok, refl, sym, ap, subst, ◌∙◌, append_assoc}
use Rattle.std.specs.Prelude.{◌&&◌, is_none}
use Rattle.std.specs.Option.{option_map}
use Rattle.std.proofs.lemmas.Bool.{and_parts, and_from, not-true, not_from_false}
use Rattle.jv_names.specs.Names.{Name}
use Rattle.class_tree.specs.declared.access.Flag.TheVariants.{Native}
use Rattle.class_tree.specs.declared.pool.Const.{Const}
use Rattle.class_tree.specs.declared.members.Member.{Member}
use Rattle.class_tree.specs.declared.members.MemberKind.{MemberKind}
use Rattle.class_tree.specs.declared.members.MemberKind.TheVariants as kinds
use Rattle.class_tree.specs.Flags.{has_flag}
use Rattle.class_tree.specs.Ranges.{is_u2, is_short, are_bytes}
use Rattle.class_tree.specs.Spelling.{attr_bytes, member_bytes}
use Rattle.class_tree.specs.Spelling as bytes_of
use Rattle.class_tree.specs.Tree.{text_at}
use Rattle.class_tree.specs.PoolRules.{is_name, desc_flaw, has_text}
use Rattle.class_tree.specs.WellFormed.{is_attr, are_attrs, owner_of, are_flags, has_its_body, is_member}
use Rattle.classfile_items.specs.declared.fault.ReadClassFault.TheVariants.{BadText, BadMember, Unsupported, Duplicate}
use Rattle.classfile_items.specs.Reading.{provided, offset}
use Rattle.classfile_pool.specs.PoolReading.{text_fault}
use Rattle.classfile_items.specs.Contents.{text_index}
use Rattle.classfile_read.specs.ClassReading.{attr_at, name_at, desc_at, flags_at, Names, is_among, member}
use Rattle.classfile_items.proofs.Laws.{Stands, IsSound, IsComplete, step_at, done, on_provided, steps_of}
use Rattle.classfile_items.proofs.StepLaws.{StandsAs, sound_steps, provided_of, joined}
use Rattle.classfile_items.proofs.NumberLaws.{u2_sound, u2_complete}
use Rattle.classfile_items.proofs.ListLaws.{counted_sound, counted_complete}
use Rattle.classfile_items.proofs.Indices.{has_text_parts, has_text_from, text_holds}
use Rattle.classfile_items.proofs.FaultLaws.{faultless_of, mapped_none, none_mapped}
use Rattle.classfile_items.proofs.ContentLaws.{IsText, name_known, text_index_complete}
use Rattle.classfile_read.proofs.AttrLaws.{attr_sound, attr_complete}

-- ---- flags, name and descriptor

flags_sound : (end : ℕ) (kind : MemberKind) → IsSound (flags_at end kind) bytes_of.u2 (are_flags kind)
flags_sound end kinds.Field = u2_sound end
flags_sound end kinds.Method = step_at (u2_sound end) (λ began n is_n. on_provided (not (has_flag n Native)) (Unsupported (offset end began)) (λ h. done n refl (and_from _ _ is_n h)))

flags_complete : (end : ℕ) (kind : MemberKind) → IsComplete (flags_at end kind) bytes_of.u2 (are_flags kind)
flags_complete end kinds.Field flags rest passes = u2_complete end flags rest passes
flags_complete end kinds.Method flags rest passes = let p = and_parts (is_u2 flags) _ passes in rw (u2_complete end flags rest p.0, p.1) refl

-- a text that passes a test stands at the index at the front
record TextStands (pool : List Const) (test : Name → Bool) (bytes : List ℕ) (x : (ℕ × Name) × List ℕ) : Type 0 where
  name : StandsAs (λ n. bytes_of.u2 n.0) (IsText pool) bytes x
  passes : test x.0.1 ≡ true

name_sound : (pool : List Const) (end : ℕ) (kind : MemberKind) (bytes : List ℕ) (x : (ℕ × Name) × List ℕ) → are_bytes bytes ≡ true → name_at end pool kind bytes ≡ Ok x → TextStands pool (is_name kind) bytes x
name_sound pool end kind bytes x are e =
    let s = steps_of (text_index end pool bytes) _ x e in
    let p = provided_of (is_name kind s.value.0.1) (BadText (offset end bytes)) s.value x s.second in
    subst (TextStands pool (is_name kind) bytes) p.same (record { name = (name_known pool end).stands bytes s.value are s.first; passes = p.holds })

name_complete : (pool : List Const) → is_short pool ≡ true → (end : ℕ) (kind : MemberKind) (index : ℕ) (text : Name) (rest : List ℕ) → text_at pool index ≡ Some text → is_name kind text ≡ true → name_at end pool kind (bytes_of.u2 index ++ rest) ≡ Ok ((index, text), rest)
name_complete pool short end kind index text rest is passes = rw (text_index_complete pool short end index text rest is, passes) refl

-- a text is a descriptor of the kind
abbrev is_desc : MemberKind → Name → Bool
is_desc kind text = is_none (desc_flaw kind text)

desc_sound : (pool : List Const) (end : ℕ) (kind : MemberKind) (bytes : List ℕ) (x : (ℕ × Name) × List ℕ) → are_bytes bytes ≡ true → desc_at end pool kind bytes ≡ Ok x → TextStands pool (is_desc kind) bytes x
desc_sound pool end kind bytes x are e =
    let s = steps_of (text_index end pool bytes) _ x e in
    let p = faultless_of (option_map (text_fault (offset end bytes)) (desc_flaw kind s.value.0.1)) s.value x s.second in
    subst (TextStands pool (is_desc kind) bytes) p.same (record {
      name = (name_known pool end).stands bytes s.value are s.first;
      passes = mapped_none (text_fault (offset end bytes)) (desc_flaw kind s.value.0.1) p.none;
    })

desc_complete : (pool : List Const) → is_short pool ≡ true → (end : ℕ) (kind : MemberKind) (index : ℕ) (text : Name) (rest : List ℕ) → text_at pool index ≡ Some text → is_desc kind text ≡ true → desc_at end pool kind (bytes_of.u2 index ++ rest) ≡ Ok ((index, text), rest)
desc_complete pool short end kind index text rest is passes =
    rw (text_index_complete pool short end index text rest is, none_mapped (text_fault (offset end (bytes_of.u2 index ++ rest))) (desc_flaw kind text) passes) refl

-- ---- a member

-- these are its name and its descriptor
pub record HasNames (pool : List Const) (m : Member) (names : Names) : Type 0 where
  pub name : text_at pool m.name ≡ Some names.0
  pub desc : text_at pool m.desc ≡ Some names.1

-- A member stands at the front, which no earlier one has the name and the descriptor of.
pub record MemberStands (major : ℕ) (pool : List Const) (kind : MemberKind) (earlier : List Names) (bytes : List ℕ) (x : (Member × Names) × List ℕ) : Type 0 where
  pub stands : Stands member_bytes (is_member major pool kind) bytes (x.0.0, x.1)
  pub names : HasNames pool x.0.0 x.0.1
  pub fresh : is_among x.0.1 earlier ≡ false

pub member_sound : (major : ℕ) (pool : List Const) (end : ℕ) (kind : MemberKind) (earlier : List Names) (bytes : List ℕ) (x : (Member × Names) × List ℕ) → are_bytes bytes ≡ true → member major pool end kind earlier bytes ≡ Ok x → MemberStands major pool kind earlier bytes x
member_sound major pool end kind earlier bytes x are e =
    let flags = sound_steps (flags_sound end kind) bytes _ x are e in
    let n = steps_of (name_at end pool kind flags.rest) _ x flags.second in
    let name = name_sound pool end kind flags.rest n.value flags.first.left n.first in
    let d = steps_of (desc_at end pool kind n.value.1) _ x n.second in
    let desc = desc_sound pool end kind n.value.1 d.value name.name.left d.first in
    let f = steps_of (provided (not (is_among (n.value.0.1, d.value.0.1) earlier)) (Duplicate (offset end bytes)) d.value.1) _ x d.second in
    let fresh = provided_of (not (is_among (n.value.0.1, d.value.0.1) earlier)) (Duplicate (offset end bytes)) d.value.1 f.value f.first in
    let owner = owner_of kind flags.value d.value.0.1 in
    let left : are_bytes f.value ≡ true = ap are_bytes (sym fresh.same) ∙ desc.name.left in
    let attrs = sound_steps (counted_sound (attr_sound major pool end owner) end) f.value _ x left f.second in
    let m : Member = record { flags = record { bits = flags.value }; name = n.value.0.0; desc = d.value.0.0; attrs = attrs.value } in
    let names : Names = (n.value.0.1, d.value.0.1) in
    let p = provided_of (has_its_body kind flags.value attrs.value) (BadMember (offset end bytes)) ((m, names), attrs.rest) x attrs.second in
    let a = bytes_of.counted attr_bytes m.attrs in
    let rest : d.value.1 ≡ a ++ attrs.rest = fresh.same ∙ attrs.first.spelled in
    let behind = joined (bytes_of.u2 m.name) (bytes_of.u2 m.desc ++ a) attrs.rest name.name.spelled (joined (bytes_of.u2 m.desc) a attrs.rest desc.name.spelled rest) in
    subst (MemberStands major pool kind earlier bytes) p.same (record {
      stands = record {
        spelled = joined (bytes_of.u2 m.flags.bits) (bytes_of.u2 m.name ++ (bytes_of.u2 m.desc ++ a)) attrs.rest flags.first.spelled behind;
        passes = and_from _ _ (and_from _ _ (and_from _ _ flags.first.passes (has_text_from pool m.name (is_name kind) names.0 name.name.fact name.passes))
            (has_text_from pool m.desc (λ text. is_desc kind text && are_attrs major pool (owner_of kind m.flags.bits text) m.attrs) names.1 desc.name.fact (and_from _ _ desc.passes attrs.first.passes)))
            p.holds;
        left = attrs.first.left;
      };
      names = record { name = name.name.fact; desc = desc.name.fact };
      fresh = not-true _ fresh.holds;
    })

-- the names that a member has
pub record Named (pool : List Const) (m : Member) : Type 0 where
  pub names : Names
  pub has : HasNames pool m names

-- what a member of these names is, part by part
record MemberParts (major : ℕ) (pool : List Const) (kind : MemberKind) (m : Member) (names : Names) : Type 0 where
  flags : are_flags kind m.flags.bits ≡ true
  name : is_name kind names.0 ≡ true
  desc : is_desc kind names.1 ≡ true
  attrs : are_attrs major pool (owner_of kind m.flags.bits names.1) m.attrs ≡ true
  body : has_its_body kind m.flags.bits m.attrs ≡ true

pub member_named : (major : ℕ) (pool : List Const) (kind : MemberKind) (m : Member) → is_member major pool kind m ≡ true → Named pool m
member_named major pool kind m passes =
    let own : Name → Bool = λ text. is_desc kind text && are_attrs major pool (owner_of kind m.flags.bits text) m.attrs in
    let p = and_parts (are_flags kind m.flags.bits && has_text pool m.name (is_name kind) && has_text pool m.desc own) _ passes in
    let q = and_parts (are_flags kind m.flags.bits && has_text pool m.name (is_name kind)) _ p.0 in
    let r = and_parts (are_flags kind m.flags.bits) _ q.0 in
    let name = has_text_parts pool m.name (is_name kind) r.1 in
    let desc = has_text_parts pool m.desc own q.1 in
    record { names = (name.text, desc.text); has = record { name = name.is; desc = desc.is } }

member_parts : (major : ℕ) (pool : List Const) (kind : MemberKind) (m : Member) (names : Names) → HasNames pool m names → is_member major pool kind m ≡ true → MemberParts major pool kind m names
member_parts major pool kind m names has passes =
    let own : Name → Bool = λ text. is_desc kind text && are_attrs major pool (owner_of kind m.flags.bits text) m.attrs in
    let p = and_parts (are_flags kind m.flags.bits && has_text pool m.name (is_name kind) && has_text pool m.desc own) _ passes in
    let q = and_parts (are_flags kind m.flags.bits && has_text pool m.name (is_name kind)) _ p.0 in
    let r = and_parts (are_flags kind m.flags.bits) _ q.0 in
    let d = and_parts (is_desc kind names.1) _ (text_holds pool m.desc own names.1 has.desc q.1) in
    record { flags = r.0; name = text_holds pool m.name (is_name kind) names.0 has.name r.1; desc = d.0; attrs = d.1; body = p.1 }

pub member_complete : (major : ℕ) (pool : List Const) → is_short pool ≡ true → (end : ℕ) (kind : MemberKind) (earlier : List Names) (m : Member) (names : Names) (rest : List ℕ) → is_member major pool kind m ≡ true → HasNames pool m names → is_among names earlier ≡ false → member major pool end kind earlier (member_bytes m ++ rest) ≡ Ok ((m, names), rest)
member_complete major pool short end kind earlier m names rest passes has fresh =
    let p = member_parts major pool kind m names has passes in
    let owner = owner_of kind m.flags.bits names.1 in
    let a = bytes_of.counted attr_bytes m.attrs in
    let n = bytes_of.u2 m.name in
    let d = bytes_of.u2 m.desc in
    let grouped : member_bytes m ++ rest ≡ bytes_of.u2 m.flags.bits ++ (n ++ (d ++ (a ++ rest))) = simp append_assoc in
    let new : not (is_among names earlier) ≡ true = not_from_false _ fresh in
    let attrs = counted_complete (attr_at major pool end owner) attr_bytes (is_attr major pool owner) (attr_complete major pool short end owner) end in
    ap (member major pool end kind earlier) grouped
    ∙ rw (
      flags_complete end kind m.flags.bits (n ++ (d ++ (a ++ rest))) p.flags,
      name_complete pool short end kind m.name names.0 (d ++ (a ++ rest)) has.name p.name,
      desc_complete pool short end kind m.desc names.1 (a ++ rest) has.desc p.desc,
      new,
      attrs m.attrs rest p.attrs,
      p.body,
    ) refl
