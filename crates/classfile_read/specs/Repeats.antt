-- What the reader of members remembers of those before: which index stands for each text that named one of them, and the pairs of
-- the indices that stand for their names and descriptors.
use Rattle.std.specs.Prelude.{◌≡◌, ℕ, true, false, Bool, List, [], Option, Some, None, slice_get, if◌then◌else◌, bytes_eq}
use Rattle.std.specs.Option.{option_or}
use Rattle.std.specs.Borrow.{Bor}
use Rattle.std.specs.BTreeMap.{BTreeMap, get_by}
use Rattle.std.specs.BTreeSet.{contains}
use Rattle.std.specs.Cmp.Lexicographic.{slice_cmp}
use Rattle.std.specs.Ordering.{nat_cmp, ordering_then}
use Rattle.std.specs.declared.cmp.Ordering.{Ordering}
use Rattle.jv_names.specs.Names.{Name}
use Rattle.class_tree.specs.declared.pool.Const.{Const}
use Rattle.class_tree.specs.declared.members.Member.{Member}
use Rattle.class_tree.specs.Tree.{text_at}
use Rattle.classfile_read.specs.declared.seen.SeenNames.{SeenNames}
use Rattle.classfile_read.specs.ClassReading.{Names, is_among}

-- ---- texts by their indices

-- the text at an index, where one is there
abbrev pub text_or_empty : Option Name → Name
text_or_empty None = []
text_or_empty (Some text) = text

abbrev pub named : List Const → ℕ → Name
named pool index = text_or_empty (text_at pool index)

-- the name and the descriptor at these indices
abbrev pub names_at : List Const → ℕ → ℕ → Names
names_at pool name desc = (named pool name, named pool desc)

abbrev pub names_of : List Const → Member → Names
names_of pool member = names_at pool member.name member.desc

-- ---- the index that stands for a text

-- that of a text in a map of them
abbrev pub index_of : BTreeMap (Bor (List ℕ)) ℕ → Name → Option ℕ
index_of texts text = get_by (λ key. slice_cmp nat_cmp text key.now) texts

-- the same, once this index stands for a text for which none did
abbrev pub with_index : (Name → Option ℕ) → Name → ℕ → Name → Option ℕ
with_index standing text index other = option_or (standing other) (if bytes_eq text other then Some index else None)

-- each stands for the text that it names, and for no other; what was noted at an index stands for the text there
pub record KnowsTexts (pool : List Const) (known : List (Option ℕ)) (standing : Name → Option ℕ) : Type 0 where
  pub named_there : (text : Name) (at : ℕ) → standing text ≡ Some at → text_at pool at ≡ Some text
  pub noted : (index at : ℕ) (text : Name) → slice_get known index ≡ Some (Some at) → text_at pool index ≡ Some text → standing text ≡ Some at

-- This index stands for the text that another one names, which stands for it where none did before.
pub record Stands (pool : List Const) (text : Name) (index : ℕ) (known : List (Option ℕ)) (before after : Name → Option ℕ) (at : ℕ) : Type 0 where
  pub knows : KnowsTexts pool known after
  pub stands : after text ≡ Some at
  pub others : (other : Name) → after other ≡ with_index before text index other

-- ---- pairs of indices

abbrev pub IndexPair : Type 0
IndexPair = ℕ × ℕ

abbrev pub pair_cmp : IndexPair → IndexPair → Ordering
pair_cmp a b = ordering_then (nat_cmp a.0 b.0) (nat_cmp a.1 b.1)

-- the pair of these indices is there, if there are both
abbrev pub holds_both : (IndexPair → Bool) → Option ℕ → Option ℕ → Bool
holds_both holds None second = false
holds_both holds (Some first) None = false
holds_both holds (Some first) (Some second) = holds (first, second)

-- the pairs tell of all names whether they are among these; each is of indices that stand for texts
pub record KnowsPairs (pool : List Const) (standing : Name → Option ℕ) (holds : IndexPair → Bool) (earlier : List Names) : Type 0 where
  pub told : (names : Names) → holds_both holds (standing names.0) (standing names.1) ≡ is_among names earlier
  pub first_stands : (pair : IndexPair) → holds pair ≡ true → standing (named pool pair.0) ≡ Some pair.0
  pub second_stands : (pair : IndexPair) → holds pair ≡ true → standing (named pool pair.1) ≡ Some pair.1

-- what is remembered of members with these names
pub record Remembers (pool : List Const) (seen : SeenNames) (earlier : List Names) : Type 0 where
  pub texts : KnowsTexts pool seen.known.items (index_of seen.texts)
  pub pairs : KnowsPairs pool (index_of seen.texts) (contains pair_cmp seen.pairs) earlier

-- this holds of all names that are remembered
abbrev pub OfNames : List Const → SeenNames → (List Names → Type 0) → Type 0
OfNames pool seen P = (earlier : List Names) → Remembers pool seen earlier → P earlier
