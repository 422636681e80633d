-- What shows in a class file doesn't depend on what follows it.
use Rattle.std.proofs.Common.{◌≡◌, ◌⊎◌, inl, inr, ℕ, zero, suc, ◌+◌, ◌<◌, true, List, [], ◌∷◌, ◌++◌, length, Ok, Err, refl, sym, ap, ◌∙◌, subst, arith, length-append}
use Rattle.std.specs.Prelude.{◌≢◌, not}
use Rattle.std.specs.Option.{option_map}
use Rattle.jv_names.specs.Names.{Name}
use Rattle.class_tree.specs.declared.access.Flag.TheVariants.{Native}
use Rattle.class_tree.specs.declared.pool.Const.{Const}
use Rattle.class_tree.specs.declared.members.Attr.TheVariants as attr
use Rattle.class_tree.specs.declared.members.MemberKind.{MemberKind}
use Rattle.class_tree.specs.declared.members.MemberKind.TheVariants as kinds
use Rattle.class_tree.specs.Flags.{has_flag}
use Rattle.class_tree.specs.Ranges.{are_bytes}
use Rattle.class_tree.specs.Tree.{entry_at, class_at}
use Rattle.class_tree.specs.Trees.{Tree}
use Rattle.class_tree.specs.PoolRules.{is_name, desc_flaw}
use Rattle.class_tree.specs.WellFormed.{Owner, Class, Method, Field, StaticField, is_read, is_value, owner_of, has_its_body, is_version}
use Rattle.classfile_items.specs.declared.fault.ReadClassFault.{ReadClassFault}
use Rattle.classfile_items.specs.declared.fault.ReadClassFault.TheVariants.{Magic, Version, Truncated, Trailing, BadIndex, BadText, BadMember, Unsupported, Duplicate}
use Rattle.classfile_items.specs.Reading.{Checked, offset}
use Rattle.classfile_pool.specs.PoolReading.{text_fault}
use Rattle.classfile_code.specs.CodeReading.{code}
use Rattle.classfile_read.specs.ClassReading.{raw_attr, body, constant, owned, attr_at, name_at, desc_at, flags_at, Names, is_among, member, members_from, members, plain_fault, plain_class, is_magic, magic, version, finished, class_from, class_of}
use Rattle.classfile_read.specs.ClassReading as of
use Rattle.classfile_read.specs.Lawful.{Spells, FirstFault}
use Rattle.classfile_items.proofs.Stays.{Stays, with, value, refused, chain, on_test, on_provided, on_faultless, offset_same, u2_stays, u4_stays, counted_stays, text_index_stays, kept_stays, measured_stays}
use Rattle.classfile_pool.proofs.Stays.{pool_stays}
use Rattle.classfile_code.proofs.Stays.{code_stays}
use Rattle.classfile_read.proofs.ClassLaws.{class_sound, class_complete}

module _ (end : ℕ) (more : List ℕ) where
  -- ---- attributes

  raw_attr_stays : (name : ℕ) (bytes : List ℕ) → Stays end (with more) (raw_attr end name bytes) (raw_attr (end + length more) name (bytes ++ more))
  raw_attr_stays name bytes = kept_stays end more (attr.Raw name) bytes

  body_stays : (major : ℕ) (pool : List Const) (name : ℕ) (bytes : List ℕ) → Stays end (with more) (body major pool end name bytes) (body major pool (end + length more) name (bytes ++ more))
  body_stays major pool name bytes = measured_stays end more (attr.Body name) (code major pool (end + length more)) (code_stays pool end more major) bytes

  value_stays : (pool : List Const) (desc : Name) (bytes : List ℕ) → Stays end (with more) (of.value pool desc end bytes) (of.value pool desc (end + length more) (bytes ++ more))
  value_stays pool desc bytes = chain (u2_stays end more bytes) _ (λ n. on_provided (is_value desc (entry_at pool n.0)) n (ap BadIndex (offset_same end more bytes)) refl)

  constant_stays : (pool : List Const) (desc : Name) (name : ℕ) (bytes : List ℕ) → Stays end (with more) (constant pool desc end name bytes) (constant pool desc (end + length more) name (bytes ++ more))
  constant_stays pool desc name bytes = measured_stays end more (attr.Constant name) (of.value pool desc (end + length more)) (value_stays pool desc) bytes

  owned_stays : (major : ℕ) (pool : List Const) (owner : Owner) (name : ℕ) (bytes : List ℕ) → Stays end (with more) (owned major pool end owner name bytes) (owned major pool (end + length more) owner name (bytes ++ more))
  owned_stays major pool Class name bytes = raw_attr_stays name bytes
  owned_stays major pool Field name bytes = raw_attr_stays name bytes
  owned_stays major pool Method name bytes = body_stays major pool name bytes
  owned_stays major pool (StaticField desc) name bytes = constant_stays pool desc name bytes

  attr_stays : (major : ℕ) (pool : List Const) (owner : Owner) (bytes : List ℕ) → Stays end (with more) (attr_at major pool end owner bytes) (attr_at major pool (end + length more) owner (bytes ++ more))
  attr_stays major pool owner bytes =
      chain (text_index_stays end more pool bytes) _ (λ name. on_test (is_read owner name.0.1) (owned_stays major pool owner name.0.0 name.1) (raw_attr_stays name.0.0 name.1))

  -- ---- fields and methods

  name_stays : (pool : List Const) (kind : MemberKind) (bytes : List ℕ) → Stays end (with more) (name_at end pool kind bytes) (name_at (end + length more) pool kind (bytes ++ more))
  name_stays pool kind bytes = chain (text_index_stays end more pool bytes) _ (λ name. on_provided (is_name kind name.0.1) name (ap BadText (offset_same end more bytes)) refl)

  desc_stays : (pool : List Const) (kind : MemberKind) (bytes : List ℕ) → Stays end (with more) (desc_at end pool kind bytes) (desc_at (end + length more) pool kind (bytes ++ more))
  desc_stays pool kind bytes =
      chain (text_index_stays end more pool bytes) _ (λ desc. on_faultless (option_map (text_fault (offset end bytes)) (desc_flaw kind desc.0.1)) _ desc
      (ap (λ (at : ℕ). option_map (text_fault at) (desc_flaw kind desc.0.1)) (offset_same end more bytes)) refl)

  flags_stays : (kind : MemberKind) (bytes : List ℕ) → Stays end (with more) (flags_at end kind bytes) (flags_at (end + length more) kind (bytes ++ more))
  flags_stays kinds.Field bytes = u2_stays end more bytes
  flags_stays kinds.Method bytes = chain (u2_stays end more bytes) _ (λ flags. on_provided (not (has_flag flags.0 Native)) flags (ap Unsupported (offset_same end more bytes)) refl)

  plain_class_stays : (pool : List Const) (bytes : List ℕ) → Stays end (with more) (plain_class end pool bytes) (plain_class (end + length more) pool (bytes ++ more))
  plain_class_stays pool bytes =
      chain (u2_stays end more bytes) _ (λ n. on_faultless (plain_fault (offset end bytes) (class_at pool n.0)) _ n (ap (λ (at : ℕ). plain_fault at (class_at pool n.0)) (offset_same end more bytes)) refl)

  magic_stays : (bytes : List ℕ) → Stays end (with more) (magic end bytes) (magic (end + length more) (bytes ++ more))
  magic_stays bytes = chain (u4_stays end more bytes) _ (λ n. on_provided (is_magic n.0) n (ap Magic (offset_same end more bytes)) refl)

  version_stays : (bytes : List ℕ) → Stays end (with more) (version end bytes) (version (end + length more) (bytes ++ more))
  version_stays bytes = chain (u2_stays end more bytes) _ (λ n. on_provided (is_version n.0) n (ap Version (offset_same end more bytes)) refl)

  -- where nothing more was to stand, what follows decides
  finished_stays : (bytes : List ℕ) (tree : Tree) → Stays end (finished (end + length more) more) (finished end bytes tree) (finished (end + length more) (bytes ++ more) tree)
  finished_stays [] tree = value
  finished_stays (b ∷ bytes) tree = refused (ap Trailing (offset_same end more (b ∷ bytes)))

module _ (end : ℕ) (more : List ℕ) (major : ℕ) (pool : List Const) (kind : MemberKind) where
  member_stays : (earlier : List Names) (bytes : List ℕ) → Stays end (with more) (member major pool end kind earlier bytes) (member major pool (end + length more) kind earlier (bytes ++ more))
  member_stays earlier bytes =
      chain (flags_stays end more kind bytes) _ (λ flags. chain (name_stays end more pool kind flags.1) _ (λ name. chain (desc_stays end more pool kind name.1) _ (λ desc.
      chain (on_provided {longer = λ rest. Ok (rest ++ more)} (not (is_among (name.0.1, desc.0.1) earlier)) desc.1 (ap Duplicate (offset_same end more bytes)) refl) _ (λ rest.
      chain (counted_stays end more _ (attr_stays end more major pool (owner_of kind flags.0 desc.0.1)) rest) _ (λ attrs.
      on_provided (has_its_body kind flags.0 attrs.0) _ (ap BadMember (offset_same end more bytes)) refl)))))

  members_from_stays : (earlier : List Names) (n : ℕ) (bytes : List ℕ) → Stays end (with more) (members_from major pool end kind earlier n bytes) (members_from major pool (end + length more) kind earlier n (bytes ++ more))
  members_from_stays earlier zero bytes = value
  members_from_stays earlier (suc n) bytes = chain (member_stays earlier bytes) _ (λ m. chain (members_from_stays (m.0.1 ∷ earlier) n m.1) _ (λ ms. value))

  members_stays : (bytes : List ℕ) → Stays end (with more) (members major pool end kind bytes) (members major pool (end + length more) kind (bytes ++ more))
  members_stays bytes = chain (u2_stays end more bytes) _ (λ n. members_from_stays [] n.0 n.1)

-- ---- a class

class_from_stays : (end : ℕ) (more bytes : List ℕ) → Stays end (finished (end + length more) more) (class_from end bytes) (class_from (end + length more) (bytes ++ more))
class_from_stays end more bytes =
    chain (magic_stays end more bytes) _ (λ magic. chain (u2_stays end more magic.1) _ (λ minor. chain (version_stays end more minor.1) _ (λ major. chain (pool_stays end more major.1) _ (λ pool.
    chain (u2_stays end more pool.1) _ (λ flags. chain (plain_class_stays end more pool.0 flags.1) _ (λ this. chain (plain_class_stays end more pool.0 this.1) _ (λ super.
    chain (counted_stays end more _ (plain_class_stays end more pool.0) super.1) _ (λ interfaces.
    chain (members_stays end more major.0 pool.0 kinds.Field interfaces.1) _ (λ fields. chain (members_stays end more major.0 pool.0 kinds.Method fields.1) _ (λ methods.
    chain (counted_stays end more _ (attr_stays end more major.0 pool.0 Class) methods.1) _ (λ attrs. finished_stays end more attrs.1 _)))))))))))

-- The same of all of a file, which ends where its bytes do.
class_stays : (bytes more : List ℕ) → Stays (length bytes) (finished (length bytes + length more) more) (class_of bytes) (class_of (bytes ++ more))
class_stays bytes more =
    subst (λ (end : ℕ). Stays (length bytes) (finished (length bytes + length more) more) (class_of bytes) (class_from end (bytes ++ more))) (sym (length-append bytes more)) (class_from_stays (length bytes) more bytes)

-- ---- the laws

abbrev CheckedTree : Type 0
CheckedTree = Checked Tree

fault_stays : (end : ℕ) (longer : Tree → CheckedTree) (found later : CheckedTree) (fault : ReadClassFault) → Stays end longer found later → found ≡ Err fault → fault ≢ Truncated end → later ≡ Err fault
fault_stays end longer (Ok tree) later fault stays e whole = cc
fault_stays end longer (Err other) later fault stays e whole =
    let same : other ≡ fault = cc in
    elim stays.still [ inl is ↦ absurd (whole (sym same ∙ is)) | inr is ↦ is ∙ ap (λ (f : ReadClassFault). Err f) same ]

-- A fault that shows in bytes shows in each file that begins with them.
pub shows_at_once : (bytes more : List ℕ) (fault : ReadClassFault) → FirstFault bytes fault → fault ≢ Truncated (length bytes) → FirstFault (bytes ++ more) fault
shows_at_once bytes more fault e whole = fault_stays (length bytes) (finished (length bytes + length more) more) (class_of bytes) (class_of (bytes ++ more)) fault (class_stays bytes more) e whole

fronts_by : (bytes : List ℕ) (longer : Tree → CheckedTree) (found later : CheckedTree) (fault : ReadClassFault) → are_bytes bytes ≡ true → class_of bytes ≡ found → Stays (length bytes) longer found later → later ≡ Err fault → FirstFault bytes fault ⊎ FirstFault bytes (Truncated (length bytes)) ⊎ ((t : Tree) × Spells t bytes)
fronts_by bytes longer (Ok tree) later fault are e stays is = inr (inr (tree, class_sound bytes tree are e))
fronts_by bytes longer (Err other) later fault are e stays is =
    elim stays.still [
      | inl cut_off ↦ inr (inl (e ∙ ap (λ (f : ReadClassFault). Err f) cut_off))
      | inr still ↦ let both : ◌≡◌ {A = CheckedTree} (Err other) (Err fault) = sym still ∙ is in let same : other ≡ fault = cc in inl (e ∙ ap (λ (f : ReadClassFault). Err f) same)
    ]

-- A front of a file that has a fault has the same one, or is cut off, or is a class file.
pub shows_in_fronts : (bytes more : List ℕ) (fault : ReadClassFault) → are_bytes bytes ≡ true → FirstFault (bytes ++ more) fault → FirstFault bytes fault ⊎ FirstFault bytes (Truncated (length bytes)) ⊎ ((t : Tree) × Spells t bytes)
shows_in_fronts bytes more fault are e = fronts_by bytes (finished (length bytes + length more) more) (class_of bytes) (class_of (bytes ++ more)) fault are refl (class_stays bytes more) e

trailing : (end : ℕ) (more : List ℕ) (tree : Tree) → 0 < length more → finished (end + length more) more tree ≡ Err (Trailing end)
trailing end [] tree some = absurd (omega (arith, some))
trailing end (b ∷ more) tree some = let at : offset (end + length (b ∷ more)) (b ∷ more) ≡ end = omega arith in ap (λ (o : ℕ). Err (Trailing o)) at

cut_by : (end : ℕ) (more : List ℕ) (found later : CheckedTree) (tree : Tree) → Stays end (finished (end + length more) more) found later → later ≡ Ok tree → 0 < length more → found ≡ Err (Truncated end)
cut_by end more (Ok other) later tree stays is some = let clash : ◌≡◌ {A = CheckedTree} (Ok tree) (Err (Trailing end)) = sym is ∙ stays.still ∙ trailing end more other some in cc
cut_by end more (Err fault) later tree stays is some =
    elim stays.still [
      | inl cut_off ↦ ap (λ (f : ReadClassFault). Err f) cut_off
      | inr still ↦ let clash : ◌≡◌ {A = CheckedTree} (Ok tree) (Err fault) = sym is ∙ still in cc
    ]

-- A front of a class file that isn't all of it is cut off.
pub fronts_are_cut : (t : Tree) (bytes more : List ℕ) → Spells t (bytes ++ more) → 0 < length more → FirstFault bytes (Truncated (length bytes))
fronts_are_cut t bytes more spells some = cut_by (length bytes) more (class_of bytes) (class_of (bytes ++ more)) t (class_stays bytes more) (class_complete (bytes ++ more) t spells) some

tree_stays : (end : ℕ) (longer : Tree → CheckedTree) (found later : CheckedTree) (tree : Tree) → Stays end longer found later → found ≡ Ok tree → later ≡ longer tree
tree_stays end longer (Ok other) later tree stays e = let same : other ≡ tree = cc in stays.still ∙ ap longer same
tree_stays end longer (Err fault) later tree stays e = cc

-- Bytes behind a class file are trailing.
pub behind_is_trailing : (t : Tree) (bytes more : List ℕ) → Spells t bytes → 0 < length more → FirstFault (bytes ++ more) (Trailing (length bytes))
behind_is_trailing t bytes more spells some =
    tree_stays (length bytes) (finished (length bytes + length more) more) (class_of bytes) (class_of (bytes ++ more)) t (class_stays bytes more) (class_complete bytes t spells)
    ∙ trailing (length bytes) more t some
