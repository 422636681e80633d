-- A version that keeps what the newest one of its class has keeps what the first one has.
use Rattle.std.proofs.Common.{◌≡◌, ℕ, zero, suc, ◌==◌, Bool, true, false, List, [], ◌∷◌, length, map, reverse, refl, sym, subst, ◌∙◌, Option, Some, None}
use Rattle.std.specs.Prelude.{slice_get}
use Rattle.std.specs.List.{AllByRecursion}
use Rattle.std.proofs.lemmas.Bool.{cond-true, cond-false}
use Rattle.std.proofs.lemmas.Option.{same_Some}
use Rattle.std.proofs.lemmas.List.Sorted.{IsPermutation-refl, IsPermutation-trans}
use Rattle.ti_ids.specs.declared.number.ClassNo.{ClassNo}
use Rattle.class_tree.specs.Trees.{Tree}
use Rattle.link_versions.specs.declared.class.Entry.{Entry}
use Rattle.link_versions.specs.Classes.{Class, Kind, OfFile, OfArray, numbered, versions_of, first_version, newest_version}
use Rattle.link_versions.specs.Changes.{Keeps, CanInstall, IsOfKind}
use Rattle.link_versions.specs.Entries.{kind_of, class_of, classes_of, AreSound, IsTable}
use Rattle.link_versions.proofs.Held.{first_version-some, version_at-some, version_at-none}

pub Keeps-refl : (t : Tree) → Keeps t t
Keeps-refl t = record { name = refl; parent = refl; interfaces = refl; flags = refl; fields = refl; methods = IsPermutation-refl _ }

Keeps-trans : (a b c : Tree) → Keeps a b → Keeps b c → Keeps a c
Keeps-trans a b c p q = record {
  name = q.name ∙ p.name;
  parent = q.parent ∙ p.parent;
  interfaces = q.interfaces ∙ p.interfaces;
  flags = q.flags ∙ p.flags;
  fields = q.fields ∙ p.fields;
  methods = IsPermutation-trans _ _ _ p.methods q.methods;
}

all_of : (P : Tree → Type 0) (ts : List Tree) (i : ℕ) (t : Tree) → AllByRecursion P ts → slice_get ts i ≡ Some t → P t
all_of P [] i t all at = absurd cc
all_of P (u ∷ ts) zero t all at = subst P (same_Some _ _ at) all.0
all_of P (u ∷ ts) (suc i) t all at = all_of P ts i t all.1 at

pub kept_at : (first : Tree) (later : List Tree) (i : ℕ) (t : Tree) → AllByRecursion (Keeps first) later → slice_get (first ∷ later) i ≡ Some t → Keeps first t
kept_at first later zero t all at = subst (Keeps first) (same_Some _ _ at) (Keeps-refl first)
kept_at first later (suc i) t all at = all_of (Keeps first) later i t all at

record KeepsFirst (kind : Kind) (t : Tree) : Type 0 where
  pub first : Tree
  pub is_first : slice_get (versions_of kind) 0 ≡ Some first
  pub keeps : Keeps first t

of_kind : (older : List Class) (c : Class) (kind : Kind) (place : ℕ) (t : Tree) → IsOfKind older c kind → slice_get (versions_of kind) place ≡ Some t → KeepsFirst kind t
of_kind older c (OfFile []) place t k at = absurd k
of_kind older c (OfFile (first ∷ later)) place t k at = record { first = first; is_first = refl; keeps = kept_at first later place t k.keep at }
of_kind older c (OfArray dimensions e) place t k at = absurd cc

pub record HasKind (e : Entry) : Type 0 where
  pub older : List Class
  pub kind : IsOfKind older (class_of e) (kind_of e.kind)

has_kind : (rs : List Entry) (n : ℕ) (e : Entry) → AreSound rs → numbered rs n ≡ Some e → HasKind e
has_kind [] n e sound found = absurd cc
has_kind (r ∷ rs) n e sound found = by (n == length (r ∷ rs)) refl (has_kind rs n e sound.1)
  where
    by : (b : Bool) → (n == length (r ∷ rs)) ≡ b → (numbered rs n ≡ Some e → HasKind e) → HasKind e
    by true t rest = subst HasKind (same_Some _ _ (sym (cond-true (n == length (r ∷ rs)) (Some r) (numbered rs n) t) ∙ found)) (record { older = map class_of rs; kind = sound.0.lawful.kind })
    by false t rest = rest (sym (cond-false (n == length (r ∷ rs)) (Some r) (numbered rs n) t) ∙ found)

pub kind_held : (es : List Entry) (n : ℕ) (e : Entry) → IsTable es → numbered (reverse es) n ≡ Some e → HasKind e
unfolding IsTable
kind_held es n e table found = has_kind (reverse es) n e table found

-- a version may follow the first one of a class
pub record CanFollow (classes : List Class) (n : ClassNo) (t : Tree) : Type 0 where
  pub first : Tree
  pub is_first : first_version classes n ≡ Some first
  pub keeps : Keeps first t

pub can_follow : (es : List Entry) (n : ClassNo) (t : Tree) → IsTable es → CanInstall (classes_of es) n t → CanFollow (classes_of es) n t
can_follow es n t table can = by (numbered (reverse es) n.0) refl
  where
    by : (found : Option Entry) → numbered (reverse es) n.0 ≡ found → CanFollow (classes_of es) n t
    by None e = absurd (cc (can.is_newest, version_at-none es (newest_version (classes_of es) n) e))
    by (Some entry) e =
        let v = newest_version (classes_of es) n in
        let held = kind_held es n.0 entry table e in
        let k = of_kind held.older (class_of entry) (kind_of entry.kind) v.place can.newest held.kind (sym (version_at-some es v entry e) ∙ can.is_newest) in
        record { first = k.first; is_first = first_version-some es n entry e ∙ k.is_first; keeps = Keeps-trans k.first can.newest t k.keeps can.keeps }
