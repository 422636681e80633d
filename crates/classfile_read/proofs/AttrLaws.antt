-- The laws of the attributes of a class and its members.
use Rattle.std.proofs.Common.{◌≡◌, ℕ, Bool, true, not, List, ◌++◌, length, Option, Some, None, refl, ap, ◌∙◌, append_assoc}
use Rattle.std.specs.Prelude.{◌&&◌, if◌then◌else◌, is_some}
use Rattle.std.proofs.lemmas.Bool.{and_parts, and_from, not-true}
use Rattle.jv_names.specs.Names.{Name}
use Rattle.class_tree.specs.declared.pool.Const.{Const}
use Rattle.class_tree.specs.declared.members.Attr.{Attr}
use Rattle.class_tree.specs.declared.members.Attr.TheVariants as attr
use Rattle.class_tree.specs.Ranges.{is_short, are_bytes}
use Rattle.class_tree.specs.Spelling.{code_bytes, attr_bytes}
use Rattle.class_tree.specs.Spelling as bytes_of
use Rattle.class_tree.specs.Tree.{entry_at, text_at}
use Rattle.class_tree.specs.PoolRules.{has_text}
use Rattle.class_tree.specs.CodeRules.{is_content, is_code}
use Rattle.class_tree.specs.WellFormed.{Owner, Class, Method, Field, StaticField, is_read, is_value, is_attr}
use Rattle.classfile_items.specs.declared.fault.ReadClassFault.TheVariants.{BadIndex}
use Rattle.classfile_items.specs.Reading.{Found}
use Rattle.classfile_code.specs.CodeReading.{code}
use Rattle.classfile_read.specs.ClassReading.{raw_attr, value, owned, attr_at}
use Rattle.classfile_items.proofs.Laws.{IsSoundBehind, IsSound, IsComplete, on_test}
use Rattle.classfile_items.proofs.StepLaws.{second_step, step_known}
use Rattle.classfile_items.proofs.Indices.{index_short}
use Rattle.classfile_items.proofs.Indices.{has_text_parts, has_text_from}
use Rattle.classfile_items.proofs.TestLaws.{tested_sound, tested_complete}
use Rattle.classfile_items.proofs.ContentLaws.{IsText, name_known, text_index_complete, kept_sound, kept_complete, measured_sound, measured_complete}
use Rattle.classfile_code.proofs.CodeLaws.{code_sound, code_complete}

-- what is read as its owner says
owned_sound : (major : ℕ) (pool : List Const) (end : ℕ) (owner : Owner) (name : ℕ × Name) → IsText pool name → is_read owner name.1 ≡ true → IsSoundBehind (bytes_of.u2 name.0) (owned major pool end owner name.0) attr_bytes (is_attr major pool owner)
owned_sound major pool end Class name is reads = cc
owned_sound major pool end Field name is reads = cc
owned_sound major pool end Method name is reads =
    measured_sound (code_sound major pool end) (attr.Body name.0) end (λ c. refl) (λ c is_c fits. and_from _ _ (and_from _ _ (has_text_from pool name.0 (is_read Method) name.1 is reads) is_c) fits)
owned_sound major pool end (StaticField desc) name is reads =
    measured_sound (tested_sound end (λ i. is_value desc (entry_at pool i)) BadIndex) (attr.Constant name.0) end (λ v. refl)
    (λ v is_v fits. and_from _ _ (has_text_from pool name.0 (is_read (StaticField desc)) name.1 is reads) is_v)

pub attr_sound : (major : ℕ) (pool : List Const) (end : ℕ) (owner : Owner) → IsSound (attr_at major pool end owner) attr_bytes (is_attr major pool owner)
attr_sound major pool end owner = step_known (name_known pool end) (λ name is. on_test (is_read owner name.1)
    (λ reads. owned_sound major pool end owner name is reads)
    (λ keeps. kept_sound (attr.Raw name.0) end (λ content. refl)
    (λ content are fits. and_from _ _ (and_from _ _ (has_text_from pool name.0 (λ text. not (is_read owner text)) name.1 is (ap not keeps)) are) fits)))

-- what stands behind a name
abbrev named : ℕ → List Const → ℕ → Owner → (ℕ × Name) × List ℕ → Found Attr
named major pool end owner name = if is_read owner name.0.1 then owned major pool end owner name.0.0 name.1 else raw_attr end name.0.0 name.1

name_first : (major : ℕ) (pool : List Const) (end : ℕ) (owner : Owner) (index : ℕ) (text : Name) (measure rest : List ℕ) → is_short pool ≡ true → text_at pool index ≡ Some text → attr_at major pool end owner ((bytes_of.u2 index ++ measure) ++ rest) ≡ named major pool end owner ((index, text), measure ++ rest)
name_first major pool end owner index text measure rest short is =
    ap (attr_at major pool end owner) (append_assoc (bytes_of.u2 index) measure rest)
    ∙ second_step _ ((index, text), measure ++ rest) (named major pool end owner) (text_index_complete pool short end index text (measure ++ rest) is)

value_some : (desc : Name) (entry : Option Const) → is_value desc entry ≡ true → is_some entry ≡ true
value_some desc None is = is
value_some desc (Some entry) is = refl

two_bytes : (n : ℕ) → is_content (bytes_of.u2 n) ≡ true
unfolding bytes_of.u2
two_bytes n = refl

pub attr_complete : (major : ℕ) (pool : List Const) → is_short pool ≡ true → (end : ℕ) (owner : Owner) → IsComplete (attr_at major pool end owner) attr_bytes (is_attr major pool owner)
attr_complete major pool short end owner (attr.Raw index content) rest passes =
    let p = and_parts (has_text pool index (λ text. not (is_read owner text)) && are_bytes content) _ passes in
    let q = and_parts (has_text pool index (λ text. not (is_read owner text))) _ p.0 in
    let name = has_text_parts pool index _ q.0 in
    name_first major pool end owner index name.text (bytes_of.u4 (length content) ++ content) rest short name.is
    ∙ rw (not-true (is_read owner name.text) name.passes) (kept_complete (attr.Raw index) end content rest q.1 p.1)
attr_complete major pool short end Method (attr.Body index c) rest passes =
    let content = code_bytes c in
    let p = and_parts (has_text pool index (is_read Method) && is_code major pool c) (is_content content) passes in
    let q = and_parts (has_text pool index (is_read Method)) _ p.0 in
    let name = has_text_parts pool index _ q.0 in
    name_first major pool end Method index name.text (bytes_of.u4 (length content) ++ content) rest short name.is
    ∙ rw name.passes (measured_complete (code major pool end) code_bytes (is_code major pool) (code_complete major pool short end) (attr.Body index) end c rest q.1 p.1)
attr_complete major pool short end (StaticField desc) (attr.Constant index v) rest passes =
    let content = bytes_of.u2 v in
    let p = and_parts (has_text pool index (is_read (StaticField desc))) _ passes in
    let name = has_text_parts pool index _ p.0 in
    let holds : ℕ → Bool = λ i. is_value desc (entry_at pool i) in
    let found = tested_complete end holds BadIndex (λ i is. index_short pool i short (value_some desc (entry_at pool i) is)) in
    name_first major pool end (StaticField desc) index name.text (bytes_of.u4 (length content) ++ content) rest short name.is
    ∙ rw name.passes (measured_complete (value pool desc end) bytes_of.u2 holds found (attr.Constant index) end v rest p.1 (two_bytes v))
attr_complete major pool short end Class (attr.Body index c) rest passes = cc
attr_complete major pool short end Field (attr.Body index c) rest passes = cc
attr_complete major pool short end (StaticField desc) (attr.Body index c) rest passes = cc
attr_complete major pool short end Class (attr.Constant index v) rest passes = cc
attr_complete major pool short end Method (attr.Constant index v) rest passes = cc
attr_complete major pool short end Field (attr.Constant index v) rest passes = cc
