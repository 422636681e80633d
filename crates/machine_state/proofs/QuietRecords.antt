-- Records that make no version leave the classes as they are linked.
use Rattle.class_tree.specs.Trees.{Tree}
use Rattle.jv_names.specs.Names.{Name}
use Rattle.link_versions.specs.Changes.{array_class}
use Rattle.link_versions.specs.Classes.{Class, number_of}
use Rattle.machine_state.specs.Core.{CoreClass}
use Rattle.machine_state.specs.Jobs.{Job}
use Rattle.machine_state.specs.Linked.{array_type, base_tree_of, class_of_trees, linked, linked_class, tree_of, trees}
use Rattle.machine_state.specs.Trace.{Entry, Trace}
use Rattle.machine_state.specs.Versions.{Making, Nothing, Turns, Version, making, version_made, versions_from}
use Rattle.std.proofs.Common.{List, None, Option, Some, [], ap, refl, ℕ, ◌++◌, ◌∙◌, ◌∷◌, ◌≡◌}
use Rattle.std.specs.List.{AllByRecursion, filter_map}

-- a record makes no version of any class
abbrev pub IsQuiet : Entry → Type 0
IsQuiet e = (class : Name) → making class e.what ≡ Nothing

module _ (job : Job) (turns : Turns) where
  none_made : (class : Name) (before : Trace) (kept : List ℕ) (more : Trace) → AllByRecursion IsQuiet more
      → versions_from job turns class before kept more ≡ []
  none_made class before kept [] quiet = refl
  none_made class before kept (e ∷ more) quiet =
      ap (λ (m : Making). elim (version_made job turns class before e.actor kept m) as (λ _. List Version) [
        | None ↦ versions_from job turns class (before ++ e ∷ []) kept more
        | Some v ↦ v ∷ versions_from job turns class (before ++ e ∷ []) v.kept more
      ]) (quiet.0 class)
      ∙ none_made class (before ++ e ∷ []) kept more quiet.1

  made_by : (class : Name) (before : Trace) (e : Entry) (rest more : Trace) (kept : List ℕ) (made : Option Version)
      → ((left : List ℕ) → versions_from job turns class (before ++ e ∷ []) left (rest ++ more) ≡ versions_from job turns class (before ++ e ∷ []) left rest)
      → (elim made as (λ _. List Version) [
        | None ↦ versions_from job turns class (before ++ e ∷ []) kept (rest ++ more)
        | Some v ↦ v ∷ versions_from job turns class (before ++ e ∷ []) v.kept (rest ++ more)
      ])
      ≡ (elim made as (λ _. List Version) [
        | None ↦ versions_from job turns class (before ++ e ∷ []) kept rest
        | Some v ↦ v ∷ versions_from job turns class (before ++ e ∷ []) v.kept rest
      ])
  made_by class before e rest more kept None h = h kept
  made_by class before e rest more kept (Some v) h = ap (λ (vs : List Version). v ∷ vs) (h v.kept)

  versions_quiet : (class : Name) (before : Trace) (kept : List ℕ) (rest more : Trace) → AllByRecursion IsQuiet more
      → versions_from job turns class before kept (rest ++ more) ≡ versions_from job turns class before kept rest
  versions_quiet class before kept [] more quiet = none_made class before kept more quiet
  versions_quiet class before kept (e ∷ rest) more quiet =
      made_by class before e rest more kept (version_made job turns class before e.actor kept (making class e.what))
      (λ left. versions_quiet class (before ++ e ∷ []) left rest more quiet)

  trees_quiet : (trace more : Trace) (name : Name) → AllByRecursion IsQuiet more → trees job turns (trace ++ more) name ≡ trees job turns trace name
  trees_quiet trace more name quiet =
      ap (λ (vs : List Version). elim (base_tree_of name) as (λ _. List Tree) [ Some t ↦ t ∷ [] | None ↦ filter_map (λ v. tree_of v.bytes) vs ])
      (versions_quiet name [] [] trace more quiet)

  pub linked_quiet : (trace more : Trace) (classes : List CoreClass) → AllByRecursion IsQuiet more
      → linked job turns (trace ++ more) classes ≡ linked job turns trace classes
  unfolding linked
  linked_quiet trace more [] quiet = refl
  linked_quiet trace more (c ∷ older) quiet =
      ap (λ (ts : List Tree). (let before = linked job turns (trace ++ more) older in
      elim (array_type c.name) as (λ _. Class) [
        | Some t ↦ record (array_class (number_of before) c.name t) { state = c.state }
        | None ↦ class_of_trees job turns (number_of before) c ts
      ] ∷ before)) (trees_quiet trace more c.name quiet)
      ∙ ap (λ (before : List Class). linked_class job turns trace (number_of before) c ∷ before) (linked_quiet trace more older quiet)
