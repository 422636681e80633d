-- The laws of a list of fields or methods, of which no two have one name and one descriptor.
use Rattle.std.proofs.Common.{◌≡◌, ℕ, zero, suc, Bool, true, false, not, List, [], ◌∷◌, ◌++◌, length, Option, Ok, refl, sym, ap, ◌∙◌, append_assoc}
use Rattle.std.specs.Prelude.{◌&&◌, bytes_eq}
use Rattle.std.specs.List.{list_all, list_any, flat_map}
use Rattle.std.proofs.lemmas.Bool.{and_parts, and_from, or_parts, or_from, not-true}
use Rattle.class_tree.specs.declared.pool.Const.{Const}
use Rattle.class_tree.specs.declared.members.Member.{Member}
use Rattle.class_tree.specs.declared.members.MemberKind.{MemberKind}
use Rattle.class_tree.specs.Ranges.{is_u2, is_short, are_counted, are_bytes}
use Rattle.class_tree.specs.Spelling.{member_bytes}
use Rattle.class_tree.specs.Spelling as bytes_of
use Rattle.class_tree.specs.Tree.{text_at}
use Rattle.class_tree.specs.PoolRules.{has_text}
use Rattle.class_tree.specs.WellFormed.{is_member, same_names, are_distinct, are_members}
use Rattle.classfile_read.specs.ClassReading.{Names, is_among, member, members_from, members}
use Rattle.classfile_items.proofs.Laws.{Stands, IsSound, IsComplete, steps_of, of_found}
use Rattle.classfile_items.proofs.StepLaws.{sound_steps, joined}
use Rattle.classfile_items.proofs.NumberLaws.{u2_sound, u2_complete}
use Rattle.classfile_items.proofs.Indices.{text_passes}
use Rattle.classfile_read.proofs.MemberLaws.{HasNames, member_sound, member_named, member_complete}

-- ---- names that are new

-- a member has these names
abbrev is_called : List Const → Names → Member → Bool
is_called pool names m = has_text pool m.name (bytes_eq names.0) && has_text pool m.desc (bytes_eq names.1)

-- no member has names of earlier ones
abbrev are_fresh : List Const → List Names → List Member → Bool
are_fresh pool earlier members = list_all (λ names. not (list_any (is_called pool names) members)) earlier

called_by : (pool : List Const) (m : Member) (names other : Names) → HasNames pool m names → is_called pool other m ≡ (bytes_eq other.0 names.0 && bytes_eq other.1 names.1)
called_by pool m names other has =
    ap (λ (o : Option _). text_passes (bytes_eq other.0) o && has_text pool m.desc (bytes_eq other.1)) has.name
    ∙ ap (λ (o : Option _). bytes_eq other.0 names.0 && text_passes (bytes_eq other.1) o) has.desc

same_called : (pool : List Const) (m : Member) (names : Names) (members : List Member) → HasNames pool m names → list_any (same_names pool m) members ≡ list_any (is_called pool names) members
same_called pool m names members has =
    ap (λ (o : Option _). list_any (λ b. text_passes (λ name. has_text pool b.name (bytes_eq name)) o && text_passes (λ desc. has_text pool b.desc (bytes_eq desc)) (text_at pool m.desc)) members) has.name
    ∙ ap (λ (o : Option _). list_any (λ b. has_text pool b.name (bytes_eq names.0) && text_passes (λ desc. has_text pool b.desc (bytes_eq desc)) o) members) has.desc

fresh_more : (pool : List Const) (m : Member) (names : Names) (earlier : List Names) (members : List Member) → HasNames pool m names → is_among names earlier ≡ false → are_fresh pool earlier members ≡ true → are_fresh pool earlier (m ∷ members) ≡ true
fresh_more pool m names [] members has new fresh = refl
fresh_more pool m names (other ∷ earlier) members has new fresh =
    let n = or_parts (bytes_eq other.0 names.0 && bytes_eq other.1 names.1) _ new in
    let f = and_parts (not (list_any (is_called pool other) members)) _ fresh in
    let none = or_from (is_called pool other m) _ (called_by pool m names other has ∙ n.0) (not-true (list_any (is_called pool other) members) f.0) in
    and_from _ _ (ap not none) (fresh_more pool m names earlier members has n.1 f.1)

-- what is new of a member and the others
record FreshParts (pool : List Const) (names : Names) (earlier : List Names) (members : List Member) : Type 0 where
  first : is_among names earlier ≡ false
  others : are_fresh pool earlier members ≡ true

fresh_parts : (pool : List Const) (m : Member) (names : Names) (earlier : List Names) (members : List Member) → HasNames pool m names → are_fresh pool earlier (m ∷ members) ≡ true → FreshParts pool names earlier members
fresh_parts pool m names [] members has fresh = record { first = refl; others = refl }
fresh_parts pool m names (other ∷ earlier) members has fresh =
    let f = and_parts (not (list_any (is_called pool other) (m ∷ members))) _ fresh in
    let none = or_parts (is_called pool other m) (list_any (is_called pool other) members) (not-true _ f.0) in
    let more = fresh_parts pool m names earlier members has f.1 in
    record {
      first = or_from _ _ (sym (called_by pool m names other has) ∙ none.0) more.first;
      others = and_from _ _ (ap not none.1) more.others;
    }

-- ---- members one after the other

record MembersStand (major : ℕ) (pool : List Const) (kind : MemberKind) (earlier : List Names) (n : ℕ) (bytes : List ℕ) (x : List Member × List ℕ) : Type 0 where
  items : Stands (flat_map member_bytes) (list_all (is_member major pool kind)) bytes x
  number : length x.0 ≡ n
  distinct : are_distinct pool x.0 ≡ true
  fresh : are_fresh pool earlier x.0 ≡ true

none_fresh : (pool : List Const) (earlier : List Names) → are_fresh pool earlier [] ≡ true
none_fresh pool [] = refl
none_fresh pool (names ∷ earlier) = none_fresh pool earlier

from_sound : (major : ℕ) (pool : List Const) (end : ℕ) (kind : MemberKind) (earlier : List Names) (n : ℕ) (bytes : List ℕ) (x : List Member × List ℕ) → are_bytes bytes ≡ true → members_from major pool end kind earlier n bytes ≡ Ok x → MembersStand major pool kind earlier n bytes x
from_sound major pool end kind earlier zero bytes x are e =
    of_found (MembersStand major pool kind earlier zero bytes) ([], bytes) x e (record {
      items = record { spelled = refl; passes = refl; left = are };
      number = refl;
      distinct = refl;
      fresh = none_fresh pool earlier;
    })
from_sound major pool end kind earlier (suc n) bytes x are e =
    let s = steps_of (member major pool end kind earlier bytes) _ x e in
    let first = member_sound major pool end kind earlier bytes s.value are s.first in
    let m = s.value.0.0 in
    let names = s.value.0.1 in
    let t = steps_of (members_from major pool end kind (names ∷ earlier) n s.value.1) _ x s.second in
    let others = from_sound major pool end kind (names ∷ earlier) n s.value.1 t.value first.stands.left t.first in
    let f = and_parts (not (list_any (is_called pool names) t.value.0)) _ others.fresh in
    of_found (MembersStand major pool kind earlier (suc n) bytes) (m ∷ t.value.0, t.value.1) x t.second (record {
      items = record {
        spelled = joined (member_bytes m) (flat_map member_bytes t.value.0) t.value.1 first.stands.spelled others.items.spelled;
        passes = and_from _ _ first.stands.passes others.items.passes;
        left = others.items.left;
      };
      number = ap suc others.number;
      distinct = and_from _ _ (ap not (same_called pool m names t.value.0 first.names) ∙ f.0) others.distinct;
      fresh = fresh_more pool m names earlier t.value.0 first.names first.fresh f.1;
    })

from_complete : (major : ℕ) (pool : List Const) → is_short pool ≡ true → (end : ℕ) (kind : MemberKind) (earlier : List Names) (ms : List Member) (rest : List ℕ) → list_all (is_member major pool kind) ms ≡ true → are_distinct pool ms ≡ true → are_fresh pool earlier ms ≡ true → members_from major pool end kind earlier (length ms) (flat_map member_bytes ms ++ rest) ≡ Ok (ms, rest)
from_complete major pool short end kind earlier [] rest are distinct fresh = refl
from_complete major pool short end kind earlier (m ∷ ms) rest are distinct fresh =
    let p = and_parts (is_member major pool kind m) _ are in
    let d = and_parts (not (list_any (same_names pool m) ms)) _ distinct in
    let named = member_named major pool kind m p.0 in
    let f = fresh_parts pool m named.names earlier ms named.has fresh in
    let new : not (list_any (is_called pool named.names) ms) ≡ true = ap not (sym (same_called pool m named.names ms named.has)) ∙ d.0 in
    let after : List ℕ = flat_map member_bytes ms ++ rest in
    ap (members_from major pool end kind earlier (suc (length ms))) (append_assoc (member_bytes m) (flat_map member_bytes ms) rest)
    ∙ rw (
      member_complete major pool short end kind earlier m named.names after p.0 named.has f.first,
      from_complete major pool short end kind (named.names ∷ earlier) ms rest p.1 d.1 (and_from _ _ new f.others),
    ) refl

-- ---- all members of a kind

members_stand : (major : ℕ) (pool : List Const) (end : ℕ) (kind : MemberKind) (bytes : List ℕ) (x : List Member × List ℕ) → are_bytes bytes ≡ true → members major pool end kind bytes ≡ Ok x → Stands (bytes_of.counted member_bytes) (are_members major pool kind) bytes x
unfolding bytes_of.counted
members_stand major pool end kind bytes x are e =
    let n = sound_steps (u2_sound end) bytes _ x are e in
    let all = from_sound major pool end kind [] n.value n.rest x n.first.left n.second in
    let number : bytes ≡ bytes_of.u2 (length x.0) ++ n.rest = n.first.spelled ∙ ap (λ (k : ℕ). bytes_of.u2 k ++ n.rest) (sym all.number) in
    record {
      spelled = joined (bytes_of.u2 (length x.0)) (flat_map member_bytes x.0) x.1 number all.items.spelled;
      passes = and_from _ _ (and_from _ _ (ap is_u2 all.number ∙ n.first.passes) all.items.passes) all.distinct;
      left = all.items.left;
    }

pub members_sound : (major : ℕ) (pool : List Const) (end : ℕ) (kind : MemberKind) → IsSound (members major pool end kind) (bytes_of.counted member_bytes) (are_members major pool kind)
members_sound major pool end kind = record { stands = members_stand major pool end kind }

pub members_complete : (major : ℕ) (pool : List Const) → is_short pool ≡ true → (end : ℕ) (kind : MemberKind) → IsComplete (members major pool end kind) (bytes_of.counted member_bytes) (are_members major pool kind)
unfolding bytes_of.counted
members_complete major pool short end kind ms rest passes =
    let p = and_parts (are_counted (is_member major pool kind) ms) _ passes in
    let q = and_parts (is_short ms) _ p.0 in
    let items = flat_map member_bytes ms in
    ap (members major pool end kind) (append_assoc (bytes_of.u2 (length ms)) items rest)
    ∙ rw (u2_complete end (length ms) (items ++ rest) q.0) (from_complete major pool short end kind [] ms rest q.1 p.1 refl)
