-- An index that names an entry of a pool is a number of two bytes; and the texts that indices name.
use Rattle.std.proofs.Common.{◌≡◌, ℕ, ◌-◌, ◌<◌, ◌≤◌, Bool, true, false, List, length, Option, Some, None, refl, sym, ap, ◌∙◌, arith}
use Rattle.std.specs.Prelude.{slice_get, is_some, if◌then◌else◌, ◌==◌}
use Rattle.std.proofs.lemmas.Bool.{ltb-true, lt-ltb}
use Rattle.std.proofs.lemmas.Option.{slice_get_within}
use Rattle.std.specs.Option.{option_and_then}
use Rattle.jv_names.specs.Names.{Name}
use Rattle.class_tree.specs.declared.pool.Const.{Const}
use Rattle.class_tree.specs.Ranges.{is_u2, is_short}
use Rattle.class_tree.specs.PoolRules.{has_text}
use Rattle.class_tree.specs.Tree.{entry_at, text_of, text_at, is_class, names_class}

some_within : (pool : List Const) (index : ℕ) (entry : Option Const) → slice_get pool (index - 1) ≡ entry → is_some entry ≡ true → index ≤ length pool
some_within pool index (Some entry) e is = let lt : index - 1 < length pool = slice_get_within pool (index - 1) entry e in omega arith
some_within pool index None e is = cc

from_one : (pool : List Const) (index : ℕ) (first : Bool) → is_some (if first then None else slice_get pool (index - 1)) ≡ true → index ≤ length pool
from_one pool index true is = cc
from_one pool index false is = some_within pool index (slice_get pool (index - 1)) refl is

pub index_short : (pool : List Const) (index : ℕ) → is_short pool ≡ true → is_some (entry_at pool index) ≡ true → is_u2 index ≡ true
index_short pool index short is =
    let within : index ≤ length pool = from_one pool index (index == 0) is in
    let below : length pool < 65536 = ltb-true (length pool) 65536 short in
    lt-ltb index 65536 (omega arith)

class_some : (entry : Option Const) → is_class entry ≡ true → is_some entry ≡ true
class_some (Some entry) is = refl
class_some None is = is

pub class_short : (pool : List Const) (index : ℕ) → is_short pool ≡ true → names_class pool index ≡ true → is_u2 index ≡ true
class_short pool index short is = index_short pool index short (class_some (entry_at pool index) is)

-- ---- texts that are named

abbrev pub text_passes : (Name → Bool) → Option Name → Bool
text_passes test None = false
text_passes test (Some text) = test text

-- a text that passes a test stands at an index
pub record HasText (pool : List Const) (index : ℕ) (test : Name → Bool) : Type 0 where
  pub text : Name
  pub is : text_at pool index ≡ Some text
  pub passes : test text ≡ true

text_parts : (pool : List Const) (index : ℕ) (test : Name → Bool) (o : Option Name) → text_at pool index ≡ o → text_passes test o ≡ true → HasText pool index test
text_parts pool index test None is e = cc
text_parts pool index test (Some text) is e = record { text = text; is = is; passes = e }

pub has_text_parts : (pool : List Const) (index : ℕ) (test : Name → Bool) → has_text pool index test ≡ true → HasText pool index test
has_text_parts pool index test e = text_parts pool index test (text_at pool index) refl e

pub has_text_from : (pool : List Const) (index : ℕ) (test : Name → Bool) (text : Name) → text_at pool index ≡ Some text → test text ≡ true → has_text pool index test ≡ true
has_text_from pool index test text is passes = ap (text_passes test) is ∙ passes

pub text_holds : (pool : List Const) (index : ℕ) (test : Name → Bool) (text : Name) → text_at pool index ≡ Some text → has_text pool index test ≡ true → test text ≡ true
text_holds pool index test text is passes = ap (text_passes test) (sym is) ∙ passes

text_some : (entry : Option Const) (text : Name) → option_and_then text_of entry ≡ Some text → is_some entry ≡ true
text_some None text is = cc
text_some (Some entry) text is = refl

pub text_short : (pool : List Const) (index : ℕ) (text : Name) → is_short pool ≡ true → text_at pool index ≡ Some text → is_u2 index ≡ true
text_short pool index text short is = index_short pool index short (text_some (entry_at pool index) text is)

pub has_text_short : (pool : List Const) (index : ℕ) (test : Name → Bool) → is_short pool ≡ true → has_text pool index test ≡ true → is_u2 index ≡ true
has_text_short pool index test short e = let h = has_text_parts pool index test e in text_short pool index h.text short h.is
