-- The entry of a class, and the table after a version more or another state.
use Rattle.std.proofs.Common.{◌≡◌, ℕ, zero, suc, ◌+◌, ◌-◌, ◌<◌, ◌^◌, List, [], ◌∷◌, ◌++◌, length, map, reverse, refl, sym, ap, subst, ◌∙◌, Option, Some, None, arith}
use Rattle.std.specs.Prelude.{IsTrue, IfSome, slice_get}
use Rattle.std.specs.List.{AllByRecursion}
use Rattle.std.specs.Option.{option_map_or}
use Rattle.std.proofs.lemmas.List.{length-append, map-append}
use Rattle.std.proofs.lemmas.Option.{slice_get_within, same_Some}
use Rattle.ti_ids.specs.declared.number.ClassNo.{ClassNo}
use Rattle.class_tree.specs.Trees.{Tree}
use Rattle.class_tree.specs.WellFormed.{is_well_formed}
use Rattle.link_versions.specs.declared.class.Entry.{Entry}
use Rattle.link_versions.specs.declared.class.EntryKind.{EntryKind}
use Rattle.link_versions.specs.declared.class.EntryKind.TheVariants as entry_kinds
use Rattle.ti_ids.specs.declared.state.InitState.{InitState}
use Rattle.link_versions.specs.declared.class.Version.{Version}
use Rattle.link_versions.specs.Classes.{Class, numbered, versions_of, first_version, version_count}
use Rattle.link_versions.specs.Changes.{IsThere, Keeps, with_class, with_version, with_state, IsOfKind}
use Rattle.link_versions.specs.Entries.{kind_of, class_of, classes_of, IsReady, AreReady, IsTable, kind_with, with_added, with_init_state, IsFileKind, IsFileEntry, changed_at}
use Rattle.link_versions.proofs.Numbered.{numbered-zero, numbered-reverse}
use Rattle.link_versions.proofs.Held.{class_at-is, first_version-none, first_version-some}
use Rattle.link_versions.proofs.Tables.{length-classes_of}
use Rattle.link_versions.proofs.Newest.{CanFollow}
use Rattle.link_versions.proofs.Alike.{IsAlike, all_themselves, kind_alike}
use Rattle.link_versions.proofs.Changed.{classes_of-changed_at, class_of-with_added, sound_changed, IsTable-changed_at}

-- ---- the entry of a class

pub inside : {A : Type 0} (xs : List A) (i : ℕ) → i < length xs → (x : A) × (slice_get xs i ≡ Some x)
inside [] i low = absurd (omega arith)
inside (x ∷ xs) zero low = (x, refl)
inside (x ∷ xs) (suc i) low = inside xs i (omega arith)

pub record IsHeld (es : List Entry) (n : ClassNo) : Type 0 where
  pub entry : Entry
  pub positive : 0 < n.0
  pub within : n.0 - 1 < length es
  pub at : slice_get es (n.0 - 1) ≡ Some entry
  pub found : numbered (reverse es) (suc (n.0 - 1)) ≡ Some entry

counted_from_one : (n : ℕ) → 0 < n → n ≡ suc (n - 1)
counted_from_one n some = omega arith

pub there_held : (es : List Entry) (n : ClassNo) → IsThere (classes_of es) n → IsHeld es n
there_held es n there =
    let low : n.0 - 1 < length es = omega (arith, length-classes_of es, there.0, there.1) in
    let e = inside es (n.0 - 1) low in
    record {
      entry = e.0;
      positive = there.0;
      within = low;
      at = e.1;
      found = ap (numbered (reverse es)) (sym (counted_from_one n.0 there.0)) ∙ numbered-reverse es n.0 there.0 ∙ e.1;
    }

-- ---- a class of a file

pub record IsFileHeld (es : List Entry) (n : ClassNo) (first : Tree) : Type 0 where
  pub held : IsHeld es n
  pub first_held : slice_get (versions_of (kind_of held.entry.kind)) 0 ≡ Some first

pub file_held : (es : List Entry) (n : ClassNo) (first : Tree) → first_version (classes_of es) n ≡ Some first → IsFileHeld es n first
file_held es n first is_first = by (numbered (reverse es) n.0) refl
  where
    by : (found : Option Entry) → numbered (reverse es) n.0 ≡ found → IsFileHeld es n first
    by None e = absurd (cc (is_first, first_version-none es n e))
    by (Some entry) e =
        let zero_is_none : n.0 ≡ 0 → ⊥ = λ z. cc (e, ap (numbered (reverse es)) z ∙ numbered-zero (reverse es)) in
        let some : 0 < n.0 = omega (arith, zero_is_none) in
        let at : slice_get es (n.0 - 1) ≡ Some entry = sym (numbered-reverse es n.0 some) ∙ e in
        record {
          held = record {
            entry = entry;
            positive = some;
            within = slice_get_within es (n.0 - 1) entry at;
            at = at;
            found = ap (numbered (reverse es)) (sym (counted_from_one n.0 some)) ∙ e;
          };
          first_held = sym (first_version-some es n entry e) ∙ is_first;
        }

file_kind : (kind : EntryKind) (first : Tree) → slice_get (versions_of (kind_of kind)) 0 ≡ Some first → IsFileKind kind
file_kind (entry_kinds.File versions) first e = tt
file_kind (entry_kinds.Array dimensions element) first e = absurd cc

pub file_entry_at : (es : List Entry) (n : ClassNo) (first : Tree) → IsFileHeld es n first → IfSome (slice_get es (n.0 - 1)) IsFileEntry
file_entry_at es n first f = rw f.held.at (file_kind f.held.entry.kind first f.first_held)

-- ---- a version more

all_and : {A B : Type 0} (P : B → Type 0) (f : A → B) (xs : List A) (y : A) → AllByRecursion P (map f xs) → P (f y) → AllByRecursion P (map f (xs ++ y ∷ []))
all_and P f [] y all last = (last, tt)
all_and P f (x ∷ xs) y all last = (all.0, all_and P f xs y all.1 last)

all_ready : (vs : List Version) (v : Version) → AllByRecursion IsReady vs → IsReady v → AllByRecursion IsReady (vs ++ v ∷ [])
all_ready [] v all last = (last, tt)
all_ready (w ∷ vs) v all last = (all.0, all_ready vs v all.1 last)

ready_after : (kind : EntryKind) (v : Version) → IsReady v → AreReady kind → AreReady (kind_with v kind)
ready_after (entry_kinds.File versions) v ready all = all_ready versions v all ready
ready_after (entry_kinds.Array dimensions element) v ready all = all

kind_after : (older : List Class) (c : Class) (kind : EntryKind) (v : Version) (first : Tree) → slice_get (versions_of (kind_of kind)) 0 ≡ Some first → Keeps first v.tree
    → IsTrue (is_well_formed v.tree) → length (versions_of (kind_of kind)) + 1 < 2 ^ 32 → IsOfKind older c (kind_of kind) → IsOfKind older c (kind_of (kind_with v kind))
kind_after older c (entry_kinds.File []) v first e keeps formed few k = absurd k
kind_after older c (entry_kinds.File (w ∷ ws)) v first e keeps formed few k =
    let tree : Version → Tree = λ u. u.tree in
    let same : first ≡ w.tree = sym (same_Some _ _ e) in
    let P : Tree → Type 0 = λ t. Keeps t v.tree in
    let size : length (map tree (ws ++ v ∷ [])) ≡ length (map tree ws) + 1 = ap length (map-append tree ws (v ∷ [])) ∙ length-append (map tree ws) (v.tree ∷ []) in
    record {
      name = k.name;
      defined = k.defined;
      parent = k.parent;
      interfaces = k.interfaces;
      keep = all_and (Keeps w.tree) tree ws v k.keep (subst P same keeps);
      well_formed = all_and (λ t. IsTrue (is_well_formed t)) tree (w ∷ ws) v k.well_formed formed;
      few = omega (arith, size, few);
    }
kind_after older c (entry_kinds.Array dimensions element) v first e keeps formed few k = absurd cc

pub count_is : (es : List Entry) (n : ClassNo) (e : Entry) → numbered (reverse es) n.0 ≡ Some e → version_count (classes_of es) n ≡ length (versions_of (kind_of e.kind))
unfolding version_count
count_is es n e found = ap (λ c. option_map_or (λ k. length (versions_of k.kind)) c 0) (class_at-is es n (Some e) found)

pub count_none : (es : List Entry) (n : ClassNo) → numbered (reverse es) n.0 ≡ None → version_count (classes_of es) n ≡ 0
unfolding version_count
count_none es n found = ap (λ c. option_map_or (λ k. length (versions_of k.kind)) c 0) (class_at-is es n None found)

-- the table with a version more of a class
pub IsTable-added : (es : List Entry) (n : ClassNo) (v : Version) → IsTable es → CanFollow (classes_of es) n v.tree → version_count (classes_of es) n + 1 < 2 ^ 32 → IsReady v
    → IsTable (changed_at (with_added v) es (n.0 - 1))
IsTable-added es n v table can room ready =
    let f = file_held es n can.first can.is_first in
    let e = f.held.entry in
    let found : numbered (reverse es) n.0 ≡ Some e = ap (numbered (reverse es)) (counted_from_one n.0 f.held.positive) ∙ f.held.found in
    let few : length (versions_of (kind_of e.kind)) + 1 < 2 ^ 32 = omega (arith, room, count_is es n e found) in
    IsTable-changed_at (with_added v) (λ d. record { alike = record { name = refl; parent = refl; interfaces = refl }; order = refl; supers = refl }) e
    (λ older s.
    let alike : IsAlike (class_of e) (class_of (with_added v e)) = record { name = refl; parent = refl; interfaces = refl } in
    let before : IsOfKind older (class_of (with_added v e)) (kind_of e.kind) = kind_alike older older (class_of e) (class_of (with_added v e)) (kind_of e.kind) (all_themselves older) alike s.lawful.kind in
    sound_changed older e (with_added v e) (record { alike = alike; order = refl; supers = refl })
    (kind_after older (class_of (with_added v e)) e.kind v can.first f.first_held can.keeps ready.well_formed few before) (ready_after e.kind v ready s.codes) s)
    es (n.0 - 1) f.held.found table

pub classes_of-added : (es : List Entry) (n : ClassNo) (v : Version) → 0 < n.0 → classes_of (changed_at (with_added v) es (n.0 - 1)) ≡ with_class (with_version v.tree) n (classes_of es)
classes_of-added es n v some = classes_of-changed_at (with_added v) (with_version v.tree) (class_of-with_added v) es (n.0 - 1) n.0 (counted_from_one n.0 some)

-- ---- another state

pub IsTable-in_state : (es : List Entry) (n : ClassNo) (state : InitState) → IsTable es → IsThere (classes_of es) n → IsTable (changed_at (with_init_state state) es (n.0 - 1))
IsTable-in_state es n state table there =
    let held = there_held es n there in
    let e = held.entry in
    IsTable-changed_at (with_init_state state) (λ d. record { alike = record { name = refl; parent = refl; interfaces = refl }; order = refl; supers = refl }) e
    (λ older s.
    let alike : IsAlike (class_of e) (class_of (with_init_state state e)) = record { name = refl; parent = refl; interfaces = refl } in
    sound_changed older e (with_init_state state e) (record { alike = alike; order = refl; supers = refl })
    (kind_alike older older (class_of e) (class_of (with_init_state state e)) (kind_of e.kind) (all_themselves older) alike s.lawful.kind) s.codes s)
    es (n.0 - 1) held.found table

pub classes_of-in_state : (es : List Entry) (n : ClassNo) (state : InitState) → 0 < n.0 → classes_of (changed_at (with_init_state state) es (n.0 - 1)) ≡ with_class (with_state state) n (classes_of es)
classes_of-in_state es n state some = classes_of-changed_at (with_init_state state) (with_state state) (λ e. refl) es (n.0 - 1) n.0 (counted_from_one n.0 some)
