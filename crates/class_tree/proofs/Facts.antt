-- What a well-formed class, member, code, attribute and frame is, fact by fact.
use Rattle.std.proofs.Common.{◌≡◌, ℕ, ◌+◌, Bool, true, false, not, List, length, Option, Some, None, refl}
use Rattle.std.specs.Prelude.{◌||◌, ◌==◌, is_none}
use Rattle.std.specs.List.{list_all}
use Rattle.std.proofs.lemmas.Bool.{and_parts}
use Rattle.jv_names.specs.Names.{Name}
use Rattle.class_tree.specs.declared.pool.Const.{Const}
use Rattle.class_tree.specs.declared.frames.StackMapFrame.TheVariants as frame
use Rattle.class_tree.specs.declared.frames.VerificationType.{VerificationType}
use Rattle.class_tree.specs.declared.body.Code.{Code}
use Rattle.class_tree.specs.declared.body.CodeAttr.TheVariants as code_attr
use Rattle.class_tree.specs.declared.frames.StackMapFrame.{StackMapFrame}
use Rattle.class_tree.specs.declared.members.Member.{Member}
use Rattle.class_tree.specs.declared.members.MemberKind.{MemberKind}
use Rattle.class_tree.specs.declared.members.MemberKind.TheVariants as kinds
use Rattle.class_tree.specs.declared.members.Attr.TheVariants as attr
use Rattle.class_tree.specs.Trees.{Tree}
use Rattle.class_tree.specs.Tree.{text_at, names_plain_class}
use Rattle.class_tree.specs.Ranges.{is_u2, is_short, are_counted, are_bytes}
use Rattle.class_tree.specs.Spelling.{counted, frame_bytes, code_bytes}
use Rattle.class_tree.specs.PoolRules.{is_name, desc_flaw, has_text, is_const, are_laid_out, is_pool}
use Rattle.class_tree.specs.FrameRules.{is_type, is_frame}
use Rattle.class_tree.specs.CodeRules.{is_content, is_raw, is_stack_map, is_code_attr, is_code_length, is_listed, is_code}
use Rattle.class_tree.specs.WellFormed.{Owner, Class, Method, Field, StaticField, is_read, is_attr, are_attrs, owner_of, are_flags, has_its_body, is_member, are_distinct, are_members, is_version, is_well_formed}
use Rattle.class_code.specs.CodeReading.{list_of}

-- ---- lists and texts

pub record CountedFacts {A : Type 0} (test : A → Bool) (xs : List A) : Type 0 where
  pub short : is_short xs ≡ true
  pub all : list_all test xs ≡ true

pub counted_facts : {A : Type 0} (test : A → Bool) (xs : List A) → are_counted test xs ≡ true → CountedFacts test xs
counted_facts test xs e = let p = and_parts _ _ e in record { short = p.0; all = p.1 }

-- a text stands at the index, and passes
pub record TextFacts (pool : List Const) (index : ℕ) (test : Name → Bool) : Type 0 where
  pub text : Name
  pub found : text_at pool index ≡ Some text
  pub passes : test text ≡ true

found_facts : (pool : List Const) (index : ℕ) (test : Name → Bool) (found : Option Name) → text_at pool index ≡ found → elim found [ None ↦ false | Some text ↦ test text ] ≡ true → TextFacts pool index test
found_facts pool index test None is e = absurd cc
found_facts pool index test (Some text) is e = record { text = text; found = is; passes = e }

pub text_facts : (pool : List Const) (index : ℕ) (test : Name → Bool) → has_text pool index test ≡ true → TextFacts pool index test
text_facts pool index test e = found_facts pool index test (text_at pool index) refl e

-- ---- a class

pub record PoolFacts (pool : List Const) : Type 0 where
  pub short : is_u2 (length pool + 1) ≡ true
  pub laid_out : are_laid_out false pool ≡ true
  pub entries : list_all (is_const pool) pool ≡ true

pub pool_facts : (pool : List Const) → is_pool pool ≡ true → PoolFacts pool
pool_facts pool e =
    let a = and_parts _ _ e in
    let b = and_parts _ _ a.0 in
    record { short = b.0; laid_out = b.1; entries = a.1 }

pub record MembersFacts (major : ℕ) (pool : List Const) (kind : MemberKind) (members : List Member) : Type 0 where
  pub short : is_short members ≡ true
  pub each : list_all (is_member major pool kind) members ≡ true
  pub distinct : are_distinct pool members ≡ true

pub members_facts : (major : ℕ) (pool : List Const) (kind : MemberKind) (members : List Member) → are_members major pool kind members ≡ true → MembersFacts major pool kind members
members_facts major pool kind members e =
    let a = and_parts _ _ e in
    let b = and_parts _ _ a.0 in
    record { short = b.0; each = b.1; distinct = a.1 }

pub record WellFormedFacts (t : Tree) : Type 0 where
  pub minor : is_u2 t.minor ≡ true
  pub major : is_version t.major ≡ true
  pub pool : is_pool t.pool ≡ true
  pub flags : is_u2 t.flags.bits ≡ true
  pub this_class : names_plain_class t.pool t.this_class ≡ true
  pub super_class : (t.super_class == 0 || names_plain_class t.pool t.super_class) ≡ true
  pub interfaces : are_counted (names_plain_class t.pool) t.interfaces ≡ true
  pub fields : are_members t.major t.pool kinds.Field t.fields ≡ true
  pub methods : are_members t.major t.pool kinds.Method t.methods ≡ true
  pub attrs : are_attrs t.major t.pool Class t.attrs ≡ true

pub well_formed_facts : (t : Tree) → is_well_formed t ≡ true → WellFormedFacts t
unfolding is_well_formed
well_formed_facts t e =
    let a = and_parts _ _ e in
    let b = and_parts _ _ a.0 in
    let c = and_parts _ _ b.0 in
    let d = and_parts _ _ c.0 in
    let f = and_parts _ _ d.0 in
    let g = and_parts _ _ f.0 in
    let h = and_parts _ _ g.0 in
    let i = and_parts _ _ h.0 in
    let j = and_parts _ _ i.0 in
    record { minor = j.0; major = j.1; pool = i.1; flags = h.1; this_class = g.1; super_class = f.1; interfaces = d.1; fields = c.1; methods = b.1; attrs = a.1 }

-- ---- a member

-- it has a name and a descriptor, which tells what its attributes may be
pub record MemberFacts (major : ℕ) (pool : List Const) (kind : MemberKind) (m : Member) : Type 0 where
  pub flags : are_flags kind m.flags.bits ≡ true
  pub name : Name
  pub named : text_at pool m.name ≡ Some name
  pub is_name : is_name kind name ≡ true
  pub desc : Name
  pub described : text_at pool m.desc ≡ Some desc
  pub is_desc : is_none (desc_flaw kind desc) ≡ true
  pub attrs : are_attrs major pool (owner_of kind m.flags.bits desc) m.attrs ≡ true
  pub body : has_its_body kind m.flags.bits m.attrs ≡ true

pub member_facts : (major : ℕ) (pool : List Const) (kind : MemberKind) (m : Member) → is_member major pool kind m ≡ true → MemberFacts major pool kind m
member_facts major pool kind m e =
    let a = and_parts _ _ e in
    let b = and_parts _ _ a.0 in
    let c = and_parts _ _ b.0 in
    let name = text_facts pool m.name _ c.1 in
    let desc = text_facts pool m.desc _ b.1 in
    let of_desc = and_parts _ _ desc.passes in
    record {
      flags = c.0;
      name = name.text;
      named = name.found;
      is_name = name.passes;
      desc = desc.text;
      described = desc.found;
      is_desc = of_desc.0;
      attrs = of_desc.1;
      body = a.1;
    }

-- ---- attributes

pub record RawFacts (pool : List Const) (reads : Name → Bool) (name : ℕ) (bytes : List ℕ) : Type 0 where
  pub named : has_text pool name (λ text. not (reads text)) ≡ true
  pub bytes_are : are_bytes bytes ≡ true
  pub content : is_content bytes ≡ true

pub raw_facts : (pool : List Const) (reads : Name → Bool) (name : ℕ) (bytes : List ℕ) → is_raw pool reads name bytes ≡ true → RawFacts pool reads name bytes
raw_facts pool reads name bytes e =
    let a = and_parts _ _ e in
    let b = and_parts _ _ a.0 in
    record { named = b.0; bytes_are = b.1; content = a.1 }

-- the body of a method
pub record BodyFacts (major : ℕ) (pool : List Const) (name : ℕ) (code : Code) : Type 0 where
  pub named : has_text pool name (is_read Method) ≡ true
  pub is_code : is_code major pool code ≡ true
  pub content : is_content (code_bytes code) ≡ true

pub body_facts : (major : ℕ) (pool : List Const) (owner : Owner) (name : ℕ) (code : Code) → is_attr major pool owner (attr.Body name code) ≡ true → BodyFacts major pool name code
body_facts major pool Method name code e =
    let a = and_parts _ _ e in
    let b = and_parts _ _ a.0 in
    record { named = b.0; is_code = b.1; content = a.1 }
body_facts major pool Class name code e = absurd cc
body_facts major pool Field name code e = absurd cc
body_facts major pool (StaticField desc) name code e = absurd cc

-- the entries of a stack map
pub record FramesFacts (pool : List Const) (name : ℕ) (entries : List StackMapFrame) : Type 0 where
  pub named : has_text pool name is_stack_map ≡ true
  pub are_frames : are_counted (is_frame pool) entries ≡ true
  pub content : is_content (counted frame_bytes entries) ≡ true

pub frames_facts : (pool : List Const) (name : ℕ) (entries : List StackMapFrame) → is_code_attr pool (code_attr.Frames name entries) ≡ true → FramesFacts pool name entries
frames_facts pool name entries e =
    let a = and_parts _ _ e in
    let b = and_parts _ _ a.0 in
    record { named = b.0; are_frames = b.1; content = a.1 }

-- ---- a code and a full frame

pub record CodeFacts (major : ℕ) (pool : List Const) (code : Code) : Type 0 where
  pub max_stack : is_u2 code.max_stack ≡ true
  pub max_locals : is_u2 code.max_locals ≡ true
  pub len : is_code_length (length code.bytes) ≡ true
  pub bytes_are : are_bytes code.bytes ≡ true
  pub listed : is_listed major pool code (list_of code.bytes) ≡ true
  pub attrs : are_counted (is_code_attr pool) code.attrs ≡ true

pub code_facts : (major : ℕ) (pool : List Const) (code : Code) → is_code major pool code ≡ true → CodeFacts major pool code
code_facts major pool code e =
    let a = and_parts _ _ e in
    let b = and_parts _ _ a.0 in
    let c = and_parts _ _ b.0 in
    let d = and_parts _ _ c.0 in
    let f = and_parts _ _ d.0 in
    record { max_stack = f.0; max_locals = f.1; len = d.1; bytes_are = c.1; listed = b.1; attrs = a.1 }

pub record FullFacts (pool : List Const) (delta : ℕ) (locals stack : List VerificationType) : Type 0 where
  pub short : is_u2 delta ≡ true
  pub locals_are : are_counted (is_type pool) locals ≡ true
  pub stack_are : are_counted (is_type pool) stack ≡ true

pub full_facts : (pool : List Const) (delta : ℕ) (locals stack : List VerificationType) → is_frame pool (frame.Full delta locals stack) ≡ true → FullFacts pool delta locals stack
full_facts pool delta locals stack e =
    let a = and_parts _ _ e in
    let b = and_parts _ _ a.0 in
    record { short = b.0; locals_are = b.1; stack_are = a.1 }
