-- What a call keeps of the classes, where it does what it does by records, and each version that they make may be installed.
use Rattle.class_tree.specs.Trees.{Tree}
use Rattle.jv_names.specs.Names.{Name}
use Rattle.jv_names.specs.declared.descriptor.FieldType.{FieldType}
use Rattle.link_versions.specs.Changes.{Keeps, signature}
use Rattle.link_versions.specs.Classes.{Class, Kind, OfFile, newest_version, numbered, version_at, versions_of}
use Rattle.machine_state.proofs.Alike.{kind_at, kind_in}
use Rattle.machine_state.specs.Acts.{Act, Changes, Notes, State, acted}
use Rattle.machine_state.specs.Laws.{names_of}
use Rattle.machine_state.specs.Linked.{array_type, base_tree_of, trees}
use Rattle.machine_state.specs.Trace.{Record}
use Rattle.machine_steps.proofs.AddedTrees.{KeepsFirst, kept_more}
use Rattle.machine_steps.proofs.ClassNames.{there_named}
use Rattle.machine_steps.proofs.FoundKinds.{found, made_at}
use Rattle.machine_steps.proofs.KeptActs.{Kept, entry_of}
use Rattle.machine_steps.proofs.LoadingSupers.{IsIn}
use Rattle.machine_steps.proofs.MadeClasses.{IsMade, IsMadeAs, file_trees}
use Rattle.machine_steps.specs.LawfulClasses.{InstallsOnly, MayInstall, tree_made}
use Rattle.machine_steps.specs.Reachable.{IsRecord}
use Rattle.machine_steps.specs.Sites.{classes_now}
use Rattle.machine_steps.specs.World.{World}
use Rattle.std.proofs.Common.{List, None, Option, Some, [], ap, map, refl, subst, suc, sym, zero, ℕ, ◌∙◌, ◌∷◌, ◌≡◌}
use Rattle.std.proofs.lemmas.List.Sorted.{IsPermutation-refl, IsPermutation-trans}
use Rattle.std.specs.List.{AllByRecursion}
use Rattle.std.specs.Option.{option_and_then}
use Rattle.std.specs.Prelude.{IfSome, fold, is_some, option_map, slice_get}
use Rattle.ti_ids.specs.declared.actor.Actor.{Actor}
use Rattle.ti_ids.specs.declared.number.ClassNo.{ClassNo}

-- ---- a version that keeps one that keeps the first

keep_itself : (t : Tree) → Keeps t t
keep_itself t = record {
  name = refl;
  parent = refl;
  interfaces = refl;
  flags = refl;
  fields = refl;
  methods = IsPermutation-refl (map (signature t.pool) t.methods);
}

keep_both : (t u v : Tree) → Keeps t u → Keeps u v → Keeps t v
keep_both t u v h k = record {
  name = k.name ∙ h.name;
  parent = k.parent ∙ h.parent;
  interfaces = k.interfaces ∙ h.interfaces;
  flags = k.flags ∙ h.flags;
  fields = k.fields ∙ h.fields;
  methods = IsPermutation-trans (map (signature t.pool) t.methods) (map (signature u.pool) u.methods) (map (signature v.pool) v.methods) h.methods
      k.methods;
}

later_keeps : (first : Tree) (later : List Tree) (place : ℕ) (u : Tree) → AllByRecursion (Keeps first) later → slice_get later place ≡ Some u
    → Keeps first u
later_keeps first [] place u all e = absurd cc
later_keeps first (t ∷ later) zero u all e = let same : t ≡ u = cc in subst (Keeps first) same all.0
later_keeps first (t ∷ later) (suc place) u all e = later_keeps first later place u all.1 e

first_keeps : (first : Tree) (later : List Tree) (place : ℕ) (u : Tree) → AllByRecursion (Keeps first) later
    → slice_get (first ∷ later) place ≡ Some u → Keeps first u
first_keeps first later zero u all e = let same : first ≡ u = cc in subst (Keeps first) same (keep_itself first)
first_keeps first later (suc place) u all e = later_keeps first later place u all e

newest_keeps : (older : List Name) (name : Name) (ts : List Tree) (place : ℕ) (u t : Tree) → IsMade older name ts → slice_get ts place ≡ Some u
    → Keeps u t → KeepsFirst ts t
newest_keeps older name [] place u t made e k = absurd made
newest_keeps older name (first ∷ later) place u t made e k = keep_both first u t (first_keeps first later place u made.keep e) k

version_by : (found : Option Class) (k : Kind) (place : ℕ) → option_map (λ c. c.kind) found ≡ Some k
    → option_and_then (λ c. slice_get (versions_of c.kind) place) found ≡ slice_get (versions_of k) place
version_by None k place e = absurd cc
version_by (Some c) k place e = let same : c.kind ≡ k = cc in ap (λ (k : Kind). slice_get (versions_of k) place) same

-- ---- the records of a call

module _ (w : World) (s : State) (name : Name) (t : Tree) (kept : Kept w s) (may : MayInstall (classes_now w s) name t) where
  abbrev now : List Class
  now = classes_now w s

  pub may_there : IsIn name (names_of s.core.classes)
  may_there = there_named w.job w.turns s.trace name s.core.classes (ap (λ (o : Option ClassNo). is_some o) may.there)

  module _ (plain : array_type name ≡ None) (base : base_tree_of name ≡ None) where
    trees_are : trees w.job w.turns s.trace name ≡ file_trees w.job w.turns s.trace name
    trees_are =
        ap (λ (o : Option Tree). elim o as (λ _. List Tree) [ Some t ↦ t ∷ [] | None ↦ file_trees w.job w.turns s.trace name ]) base

    pub may_keep : KeepsFirst (file_trees w.job w.turns s.trace name) t
    unfolding version_at
    may_keep =
        let f = found w.job w.turns s.trace s.core.classes name may.number may.there in
        let m = made_at w.job w.turns s.trace (names_of s.core.classes) name kept.made may_there in
        let ts = file_trees w.job w.turns s.trace name in
        let made : IsMade m.older name ts =
        subst (IsMade m.older name) trees_are
        (subst (λ (o : Option FieldType). IsMadeAs m.older name o (trees w.job w.turns s.trace name)) plain m.made) in
        let kind : kind_at now may.number.0 ≡ Some (OfFile ts) =
        f.is ∙ ap (λ (o : Option FieldType). Some (kind_in f.find o (trees w.job w.turns s.trace name))) plain
        ∙ ap (λ (l : List Tree). Some (OfFile l)) trees_are in
        let place = (newest_version now may.number).place in
        newest_keeps m.older name ts place may.can.newest t made
        (sym (version_by (numbered now may.number.0) (OfFile ts) place kind) ∙ may.can.is_newest) may.can.keeps

module _ (w : World) (actor : Actor) (birth : ℕ) where
  may_of : (s : State) (name : Name) (made : Option Tree) (t : Tree) → IfSome made (MayInstall (classes_now w s) name) → made ≡ Some t
      → MayInstall (classes_now w s) name t
  may_of s name made t may is = subst (λ (o : Option Tree). IfSome o (MayInstall (classes_now w s) name)) is may

  one_kept : (s : State) (what : Record) → ((name : Name) → IfSome (tree_made w s actor what name) (MayInstall (classes_now w s) name))
      → Kept w s → Kept w (acted w.job actor birth s (Notes what))
  one_kept s what may kept =
      kept_more w.job w.turns s.trace (entry_of w s actor what) (names_of s.core.classes)
      (λ name t is. may_there w s name t kept (may_of s name (tree_made w s actor what name) t (may name) is))
      (λ name there t is plain base.
      may_keep w s name t kept (may_of s name (tree_made w s actor what name) t (may name) is) plain base)
      kept

  pub records_kept : (s : State) (acts : List Act) → AllByRecursion IsRecord acts → InstallsOnly w actor s acts → Kept w s
      → Kept w (fold (acted w.job actor birth) s acts)
  records_kept s [] records only kept = kept
  records_kept s (Changes c ∷ acts) records only kept = absurd records.0
  records_kept s (Notes what ∷ acts) records only kept =
      records_kept (acted w.job actor birth s (Notes what)) acts records.1 only.1 (one_kept s what only.0 kept)
