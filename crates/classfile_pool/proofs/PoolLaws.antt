-- The laws of the constant pool: no entry has a fault where each is as it must be.
use Rattle.std.proofs.Common.{◌≡◌, ℕ, ◌-◌, ◌+◌, ◌<◌, Bool, true, false, List, [], ◌∷◌, ◌++◌, length, Option, Some, None, Ok, refl, ap, subst, ◌∙◌, append_assoc, arith}
use Rattle.std.specs.Prelude.{◌&&◌, is_none, is_some}
use Rattle.std.specs.List.{list_all, flat_map}
use Rattle.std.proofs.lemmas.Bool.{and_parts, and_from, ltb-true, lt-ltb, eqb-true}
use Rattle.jv_names.specs.Names.{Name}
use Rattle.class_tree.specs.declared.pool.Const.{Const}
use Rattle.class_tree.specs.declared.pool.Const.TheVariants as const
use Rattle.class_tree.specs.declared.members.MemberKind.{MemberKind}
use Rattle.class_tree.specs.declared.members.MemberKind.TheVariants as kinds
use Rattle.class_tree.specs.Ranges.{is_u2, is_short, are_bytes}
use Rattle.class_tree.specs.Spelling.{const_bytes, pool_bytes}
use Rattle.class_tree.specs.Spelling as bytes_of
use Rattle.class_tree.specs.Tree.{entry_at, text_at, names_class}
use Rattle.class_tree.specs.PoolRules.{kind_of, is_name, desc_flaw, class_text_flaw, has_text, is_pair, names_pair, is_const, are_laid_out, is_pool}
use Rattle.classfile_items.specs.declared.fault.ReadClassFault.TheVariants.{BadIndex, BadText}
use Rattle.classfile_items.specs.Reading.{offset}
use Rattle.classfile_pool.specs.PoolReading.{text_fault, named_text, member_fault, entry_fault, entries_fault, pool_at}
use Rattle.classfile_items.specs.Reading.{FaultOf, unless}
use Rattle.classfile_items.proofs.StepLaws.{sound_steps, joined}
use Rattle.classfile_items.proofs.NumberLaws.{u2_sound, u2_complete}
use Rattle.classfile_items.proofs.FaultLaws.{none, unless_holds, or_none, or_both, mapped_none, none_mapped, faultless_of}
use Rattle.classfile_items.proofs.Indices.{index_short, class_short, text_passes, has_text_short}
use Rattle.classfile_pool.proofs.EntryLaws.{is_shaped, places_sound, places_complete}

pair_some : (pool : List Const) (kind : MemberKind) (entry : Option Const) → is_pair pool kind entry ≡ true → is_some entry ≡ true
pair_some pool kind None is = is
pair_some pool kind (Some entry) is = refl

pair_short : (pool : List Const) (kind : MemberKind) (index : ℕ) → is_short pool ≡ true → names_pair pool kind index ≡ true → is_u2 index ≡ true
pair_short pool kind index short is = index_short pool index short (pair_some pool kind (entry_at pool index) is)

-- ---- an entry that is as it must be is in its ranges

member_shaped : (pool : List Const) (kind : MemberKind) (class pair : ℕ) → is_short pool ≡ true → (names_class pool class && names_pair pool kind pair) ≡ true → (is_u2 class && is_u2 pair) ≡ true
member_shaped pool kind class pair short is =
    let p = and_parts (names_class pool class) _ is in
    and_from _ _ (class_short pool class short p.0) (pair_short pool kind pair short p.1)

const_shaped : (pool : List Const) (c : Const) → is_short pool ≡ true → is_const pool c ≡ true → is_shaped c ≡ true
const_shaped pool (const.Utf8 text) short is = is
const_shaped pool (const.Integer n) short is = is
const_shaped pool (const.Long n) short is = is
const_shaped pool (const.Class name) short is = has_text_short pool name _ short is
const_shaped pool (const.Text text) short is = has_text_short pool text _ short is
const_shaped pool (const.Field class pair) short is = member_shaped pool kinds.Field class pair short is
const_shaped pool (const.Method class pair) short is = member_shaped pool kinds.Method class pair short is
const_shaped pool (const.InterfaceMethod class pair) short is = member_shaped pool kinds.Method class pair short is
const_shaped pool (const.NameType name desc) short is =
    let p = and_parts (has_text pool name (is_name (kind_of (text_at pool desc)))) _ is in
    and_from _ _ (has_text_short pool name _ short p.0) (has_text_short pool desc _ short p.1)
const_shaped pool const.Unused short is = refl

consts_shaped : (pool entries : List Const) → is_short pool ≡ true → list_all (is_const pool) entries ≡ true → list_all is_shaped entries ≡ true
consts_shaped pool [] short are = refl
consts_shaped pool (c ∷ entries) short are =
    let p = and_parts (is_const pool c) _ are in
    and_from _ _ (const_shaped pool c short p.0) (consts_shaped pool entries short p.1)

-- ---- no fault where each entry is as it must be

named_none : (at : ℕ) (fault : Name → FaultOf) (test : Name → Bool) (o : Option Name) → ((text : Name) → fault text ≡ none → test text ≡ true) → named_text at fault o ≡ none → text_passes test o ≡ true
named_none at fault test None sound e = cc
named_none at fault test (Some text) sound e = sound text e

none_named : (at : ℕ) (fault : Name → FaultOf) (test : Name → Bool) (o : Option Name) → ((text : Name) → test text ≡ true → fault text ≡ none) → text_passes test o ≡ true → named_text at fault o ≡ none
none_named at fault test None complete e = cc
none_named at fault test (Some text) complete e = complete text e

member_none : (pool : List Const) (kind : MemberKind) (at class pair : ℕ) → member_fault pool kind at class pair ≡ none → (names_class pool class && names_pair pool kind pair) ≡ true
member_none pool kind at class pair e =
    let p = or_none (unless (names_class pool class) (BadIndex at)) (unless (names_pair pool kind pair) (BadIndex (at + 2))) e in
    and_from _ _ (unless_holds _ (BadIndex at) p.0) (unless_holds _ (BadIndex (at + 2)) p.1)

none_member : (pool : List Const) (kind : MemberKind) (at class pair : ℕ) → (names_class pool class && names_pair pool kind pair) ≡ true → member_fault pool kind at class pair ≡ none
none_member pool kind at class pair is = let p = and_parts (names_class pool class) _ is in rw (p.0, p.1) refl

name_fault : ℕ → MemberKind → Name → FaultOf
name_fault at kind text = unless (is_name kind text) (BadText at)

entry_none : (pool : List Const) (at : ℕ) (c : Const) → is_shaped c ≡ true → entry_fault pool at c ≡ none → is_const pool c ≡ true
entry_none pool at (const.Utf8 text) shaped e = shaped
entry_none pool at (const.Integer n) shaped e = shaped
entry_none pool at (const.Long n) shaped e = shaped
entry_none pool at (const.Class name) shaped e = named_none at _ (λ text. is_none (class_text_flaw text)) (text_at pool name) (λ text f. mapped_none (text_fault at) (class_text_flaw text) f) e
entry_none pool at (const.Text text) shaped e = named_none at _ (λ _. true) (text_at pool text) (λ text f. refl) e
entry_none pool at (const.Field class pair) shaped e = member_none pool kinds.Field at class pair e
entry_none pool at (const.Method class pair) shaped e = member_none pool kinds.Method at class pair e
entry_none pool at (const.InterfaceMethod class pair) shaped e = member_none pool kinds.Method at class pair e
entry_none pool at (const.NameType name desc) shaped e =
    let kind = kind_of (text_at pool desc) in
    let p = or_none _ _ e in
    and_from _ _
    (named_none at _ (is_name kind) (text_at pool name) (λ text f. unless_holds (is_name kind text) (BadText at) f) p.0)
    (named_none (at + 2) _ (λ text. is_none (desc_flaw kind text)) (text_at pool desc) (λ text f. mapped_none (text_fault (at + 2)) (desc_flaw kind text) f) p.1)
entry_none pool at const.Unused shaped e = refl

none_entry : (pool : List Const) (at : ℕ) (c : Const) → is_const pool c ≡ true → entry_fault pool at c ≡ none
none_entry pool at (const.Utf8 text) is = refl
none_entry pool at (const.Integer n) is = refl
none_entry pool at (const.Long n) is = refl
none_entry pool at (const.Class name) is = none_named at _ (λ text. is_none (class_text_flaw text)) (text_at pool name) (λ text f. none_mapped (text_fault at) (class_text_flaw text) f) is
none_entry pool at (const.Text text) is = none_named at _ (λ _. true) (text_at pool text) (λ text f. refl) is
none_entry pool at (const.Field class pair) is = none_member pool kinds.Field at class pair is
none_entry pool at (const.Method class pair) is = none_member pool kinds.Method at class pair is
none_entry pool at (const.InterfaceMethod class pair) is = none_member pool kinds.Method at class pair is
none_entry pool at (const.NameType name desc) is =
    let kind = kind_of (text_at pool desc) in
    let p = and_parts (has_text pool name (is_name kind)) _ is in
    or_both _ _
    (none_named at _ (is_name kind) (text_at pool name) (λ text f. rw f refl) p.0)
    (none_named (at + 2) _ (λ text. is_none (desc_flaw kind text)) (text_at pool desc) (λ text f. none_mapped (text_fault (at + 2)) (desc_flaw kind text) f) p.1)
none_entry pool at const.Unused is = refl

entries_none : (pool : List Const) (at : ℕ) (entries : List Const) → list_all is_shaped entries ≡ true → entries_fault pool at entries ≡ none → list_all (is_const pool) entries ≡ true
entries_none pool at [] shaped e = refl
entries_none pool at (c ∷ entries) shaped e =
    let s = and_parts (is_shaped c) _ shaped in
    let p = or_none (entry_fault pool (at + 1) c) (entries_fault pool (at + length (const_bytes c)) entries) e in
    and_from _ _ (entry_none pool (at + 1) c s.0 p.0) (entries_none pool (at + length (const_bytes c)) entries s.1 p.1)

none_entries : (pool : List Const) (at : ℕ) (entries : List Const) → list_all (is_const pool) entries ≡ true → entries_fault pool at entries ≡ none
none_entries pool at [] are = refl
none_entries pool at (c ∷ entries) are =
    let p = and_parts (is_const pool c) _ are in
    or_both _ _ (none_entry pool (at + 1) c p.0) (none_entries pool (at + length (const_bytes c)) entries p.1)

-- ---- the whole pool

-- A pool that has entries is spelled; one that has none is read of the count 0 and of the count 1.
pub record PoolStands (bytes : List ℕ) (x : List Const × List ℕ) : Type 0 where
  pub passes : is_pool x.0 ≡ true
  pub left : are_bytes x.1 ≡ true
  pub spelled : 0 < length x.0 → bytes ≡ pool_bytes x.0 ++ x.1

pub pool_sound : (end : ℕ) (bytes : List ℕ) (x : List Const × List ℕ) → are_bytes bytes ≡ true → pool_at end bytes ≡ Ok x → PoolStands bytes x
pool_sound end bytes x are e =
    let n = sound_steps (u2_sound end) bytes _ x are e in
    let s = sound_steps (places_sound end false (n.value - 1) (λ _. refl)) n.rest _ x n.first.left n.second in
    let pool = s.value in
    let are = and_parts (list_all is_shaped pool && are_laid_out false pool) _ s.first.passes in
    let all = and_parts (list_all is_shaped pool) _ are.0 in
    let number : length pool ≡ n.value - 1 = eqb-true (length pool) (n.value - 1) are.1 in
    let p = faultless_of (entries_fault pool (offset end n.rest) pool) (pool, s.rest) x s.second in
    let below : n.value < 65536 = ltb-true n.value 65536 n.first.passes in
    subst (PoolStands bytes) p.same (record {
      passes = and_from _ _ (and_from _ _ (lt-ltb (length pool + 1) 65536 (omega arith)) all.1) (entries_none pool (offset end n.rest) pool all.0 p.none);
      left = s.first.left;
      spelled = λ some.
          let count : n.value ≡ length pool + 1 = omega arith in
          joined (bytes_of.u2 (length pool + 1)) (flat_map const_bytes pool) s.rest (n.first.spelled ∙ ap (λ (k : ℕ). bytes_of.u2 k ++ n.rest) count) s.first.spelled;
    })

pub pool_short : (pool : List Const) → is_pool pool ≡ true → is_short pool ≡ true
pool_short pool is =
    let p = and_parts (is_u2 (length pool + 1) && are_laid_out false pool) _ is in
    let below : length pool + 1 < 65536 = ltb-true (length pool + 1) 65536 (and_parts (is_u2 (length pool + 1)) _ p.0).0 in
    lt-ltb (length pool) 65536 (omega arith)

pub pool_complete : (end : ℕ) (pool : List Const) (rest : List ℕ) → is_pool pool ≡ true → pool_at end (pool_bytes pool ++ rest) ≡ Ok (pool, rest)
pool_complete end pool rest is =
    let p = and_parts (is_u2 (length pool + 1) && are_laid_out false pool) _ is in
    let q = and_parts (is_u2 (length pool + 1)) _ p.0 in
    let entries = flat_map const_bytes pool in
    let count : (length pool + 1) - 1 ≡ length pool = omega arith in
    rw (
      append_assoc (bytes_of.u2 (length pool + 1)) entries rest,
      u2_complete end (length pool + 1) (entries ++ rest) q.0,
      count,
      places_complete end false pool rest (consts_shaped pool pool (pool_short pool is) p.1) q.1,
      none_entries pool (offset end (entries ++ rest)) pool p.1,
    ) refl
