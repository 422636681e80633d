-- The trees of a class after one record more: one more, where the record makes a version of it. And what is kept of the classes then.
use Rattle.class_tree.specs.Tree.{class_at}
use Rattle.class_tree.specs.Trees.{Tree}
use Rattle.jv_names.specs.Names.{Name}
use Rattle.jv_names.specs.declared.descriptor.FieldType.{FieldType}
use Rattle.link_versions.specs.Changes.{Keeps}
use Rattle.machine_state.specs.Jobs.{Job}
use Rattle.machine_state.specs.Linked.{array_type, base_tree_of, tree_of, trees}
use Rattle.machine_state.specs.Trace.{Entry, Loaded, Trace}
use Rattle.machine_state.specs.Versions.{Making, Nothing, Turns, Version, left, making, version_made, versions, versions_from}
use Rattle.machine_steps.proofs.LoadingSupers.{IsIn}
use Rattle.machine_steps.proofs.MadeClasses.{AreMade, IsElementIn, IsKept, IsMade, IsMadeAs, file_trees}
use Rattle.machine_steps.specs.Loading.{supers_in}
use Rattle.std.proofs.Common.{Bool, List, None, Option, Some, [], ap, append-nil, append_assoc, false, inl, inr, refl, subst, sym, true, ℕ, ◌++◌, ◌∙◌, ◌∷◌, ◌≡◌}
use Rattle.std.proofs.lemmas.List.Elements.{filter_map-append}
use Rattle.std.proofs.lemmas.Slice.Eq.{bytes_eq-Decides}
use Rattle.std.specs.List.{AllByRecursion, cons_option, filter_map}
use Rattle.std.specs.Option.{option_and_then}
use Rattle.std.specs.Prelude.{bytes_eq, fold, unwrap_or}

-- ---- the bytes that are kept

abbrev kept_after : List ℕ → List Version → List ℕ
kept_after kept vs = fold (λ last v. v.kept) kept vs

left_by : (o : Option (List ℕ)) (vs : List Version) → unwrap_or (fold (λ last v. Some v.kept) o vs) [] ≡ kept_after (unwrap_or o []) vs
left_by o [] = refl
left_by o (v ∷ vs) = left_by (Some v.kept) vs

-- a tree keeps what the first one of these has
abbrev pub KeepsFirst : List Tree → Tree → Type 0
KeepsFirst [] t = ⊥
KeepsFirst (first ∷ later) t = Keeps first t

-- ---- versions

module _ (job : Job) (turns : Turns) where
  module _ (class : Name) (e : Entry) where
    -- the version that the last record makes
    abbrev at_last : Trace → List ℕ → List Version
    at_last before kept = cons_option (version_made job turns class before e.actor kept (making class e.what)) []

    one_by : (made : Option Version) (more : List ℕ → List Version) (kept : List ℕ) → ((left : List ℕ) → more left ≡ [])
        → (elim made as (λ _. List Version) [ None ↦ more kept | Some v ↦ v ∷ more v.kept ]) ≡ cons_option made []
    one_by None more kept h = h kept
    one_by (Some v) more kept h = ap (λ (vs : List Version). v ∷ vs) (h v.kept)

    more_by : (made : Option Version) (before : Trace) (some more : List ℕ → List Version) (kept : List ℕ)
        → ((left : List ℕ) → more left ≡ some left ++ at_last before (kept_after left (some left)))
        → (let old = elim made as (λ _. List Version) [ None ↦ some kept | Some v ↦ v ∷ some v.kept ] in
        (elim made as (λ _. List Version) [ None ↦ more kept | Some v ↦ v ∷ more v.kept ]) ≡ old ++ at_last before (kept_after kept old))
    more_by None before some more kept h = h kept
    more_by (Some v) before some more kept h = ap (λ (vs : List Version). v ∷ vs) (h v.kept)

    versions_more : (before : Trace) (kept : List ℕ) (rest : Trace)
        → (let old = versions_from job turns class before kept rest in
        versions_from job turns class before kept (rest ++ e ∷ []) ≡ old ++ at_last (before ++ rest) (kept_after kept old))
    versions_more before kept [] =
        one_by (version_made job turns class before e.actor kept (making class e.what)) (λ left. versions_from job turns class (before ++ e ∷ []) left [])
        kept (λ left. refl)
        ∙ ap (λ (t : Trace). at_last t kept) (sym (append-nil before))
    versions_more before kept (f ∷ rest) =
        more_by (version_made job turns class before f.actor kept (making class f.what)) (before ++ f ∷ rest)
        (λ left. versions_from job turns class (before ++ f ∷ []) left rest)
        (λ left. versions_from job turns class (before ++ f ∷ []) left (rest ++ e ∷ [])) kept
        (λ left.
        versions_more (before ++ f ∷ []) left rest
        ∙ ap (λ (t : Trace). (let old = versions_from job turns class (before ++ f ∷ []) left rest in old ++ at_last t (kept_after left old)))
        (append_assoc before (f ∷ []) rest))

  -- ---- trees

  -- the version that a record behind these makes of a class, and its tree
  abbrev pub version_by : Trace → Entry → Name → Option Version
  version_by trace e name = version_made job turns name trace e.actor (unwrap_or (left job turns name trace) []) (making name e.what)

  abbrev pub tree_by : Trace → Entry → Name → Option Tree
  tree_by trace e name = option_and_then (λ v. tree_of v.bytes) (version_by trace e name)

  mapped_one : (made : Option Version)
      → filter_map (λ (v : Version). tree_of v.bytes) (cons_option made []) ≡ cons_option (option_and_then (λ v. tree_of v.bytes) made) []
  mapped_one None = refl
  mapped_one (Some v) = refl

  pub trees_more : (trace : Trace) (e : Entry) (name : Name)
      → file_trees job turns (trace ++ e ∷ []) name ≡ file_trees job turns trace name ++ cons_option (tree_by trace e name) []
  trees_more trace e name =
      let old = versions job turns name trace in
      ap (λ (vs : List Version). filter_map (λ v. tree_of v.bytes) vs)
      (versions_more name e [] [] trace ∙ ap (λ (kept : List ℕ). old ++ at_last name e trace kept) (sym (left_by None old)))
      ∙ filter_map-append (λ (v : Version). tree_of v.bytes) old (cons_option (version_by trace e name) [])
      ∙ ap (λ (ts : List Tree). file_trees job turns trace name ++ ts) (mapped_one (version_by trace e name))

  -- ---- what is kept of the classes

  -- the tree that a record behind these makes of a class of a file, if it makes one, keeps the first
  abbrev pub MakesKeeping : Trace → Entry → Name → Type 0
  MakesKeeping trace e name =
      (t : Tree) → tree_by trace e name ≡ Some t → array_type name ≡ None → base_tree_of name ≡ None → KeepsFirst (file_trees job turns trace name) t

  last_kept : (first : Tree) (later : List Tree) (t : Tree) → AllByRecursion (Keeps first) later → Keeps first t
      → AllByRecursion (Keeps first) (later ++ t ∷ [])
  last_kept first [] t all k = (k, tt)
  last_kept first (u ∷ later) t all k = (all.0, last_kept first later t all.1 k)

  added_by : (older : List Name) (name : Name) (ts : List Tree) (made : Option Tree) → ((t : Tree) → made ≡ Some t → KeepsFirst ts t)
      → IsMade older name ts → IsMade older name (ts ++ cons_option made [])
  added_by older name [] made h m = absurd m
  added_by older name (first ∷ later) None h m =
      subst (λ (ts : List Tree). IsMade older name (first ∷ ts)) (sym (append-nil later)) m
  added_by older name (first ∷ later) (Some t) h m =
      record { named = m.named; supers = m.supers; keep = last_kept first later t m.keep (h t refl) }

  file_by : (trace : Trace) (e : Entry) (older : List Name) (name : Name) (base : Option Tree) → base_tree_of name ≡ base → array_type name ≡ None
      → MakesKeeping trace e name
      → IsMade older name (elim base as (λ _. List Tree) [ Some t ↦ t ∷ [] | None ↦ file_trees job turns trace name ])
      → IsMade older name (elim base as (λ _. List Tree) [ Some t ↦ t ∷ [] | None ↦ file_trees job turns (trace ++ e ∷ []) name ])
  file_by trace e older name (Some t) is plain h m = m
  file_by trace e older name None is plain h m =
      subst (IsMade older name) (sym (trees_more trace e name))
      (added_by older name (file_trees job turns trace name) (tree_by trace e name) (λ t made. h t made plain is) m)

  one_more : (trace : Trace) (e : Entry) (older : List Name) (name : Name) (type : Option FieldType) → array_type name ≡ type
      → MakesKeeping trace e name → IsMadeAs older name type (trees job turns trace name)
      → IsMadeAs older name type (trees job turns (trace ++ e ∷ []) name)
  one_more trace e older name (Some type) is h m = m
  one_more trace e older name None is h m = file_by trace e older name (base_tree_of name) refl is h m

  made_more : (trace : Trace) (e : Entry) (names : List Name) → ((name : Name) → IsIn name names → MakesKeeping trace e name)
      → AreMade job turns trace names → AreMade job turns (trace ++ e ∷ []) names
  made_more trace e [] h all = tt
  made_more trace e (name ∷ older) h all = (
    one_more trace e older name (array_type name) refl (h name (inl refl)) all.0,
    made_more trace e older (λ n there. h n (inr there)) all.1,
  )

  none_by : (ts : List Tree) (made : Option Tree) → ((t : Tree) → made ≡ Some t → ⊥) → ts ≡ [] → ts ++ cons_option made [] ≡ []
  none_by ts None h e = append-nil ts ∙ e
  none_by ts (Some t) h e = absurd (h t refl)

  -- a record that makes trees of classes that are there alone, each of which keeps the first
  pub kept_more : (trace : Trace) (e : Entry) (names : List Name)
      → ((name : Name) (t : Tree) → tree_by trace e name ≡ Some t → IsIn name names)
      → ((name : Name) → IsIn name names → MakesKeeping trace e name)
      → IsKept job turns trace names → IsKept job turns (trace ++ e ∷ []) names
  kept_more trace e names there keeps kept = record {
    made = made_more trace e names keeps kept.made;
    unmade = λ name absent.
        trees_more trace e name
        ∙ none_by (file_trees job turns trace name) (tree_by trace e name) (λ t is. absent (there name t is)) (kept.unmade name absent);
  }

  none_made : (trace : Trace) (e : Entry) (name : Name) → making name e.what ≡ Nothing → tree_by trace e name ≡ None
  none_made trace e name quiet =
      ap (λ (m : Making). option_and_then (λ (v : Version). tree_of v.bytes)
      (version_made job turns name trace e.actor (unwrap_or (left job turns name trace) []) m)) quiet

  not_made : (trace : Trace) (e : Entry) (name : Name) (t : Tree) → making name e.what ≡ Nothing → tree_by trace e name ≡ Some t → ⊥
  not_made trace e name t quiet is = absurd (let bad : None ≡ Some t = sym (none_made trace e name quiet) ∙ is in cc)

  pub kept_quiet : (trace : Trace) (e : Entry) (names : List Name) → ((name : Name) → making name e.what ≡ Nothing)
      → IsKept job turns trace names → IsKept job turns (trace ++ e ∷ []) names
  kept_quiet trace e names quiet kept =
      kept_more trace e names (λ name t is. absurd (not_made trace e name t (quiet name) is))
      (λ name there t is plain base. absurd (not_made trace e name t (quiet name) is)) kept

  -- ---- a class is added

  -- of an array whose element is there
  pub kept_array : (trace : Trace) (names : List Name) (name : Name) (type : FieldType) → array_type name ≡ Some type
      → IsElementIn names type.element → IsKept job turns trace names → IsKept job turns trace (name ∷ names)
  kept_array trace names name type is there kept = record {
    made = (subst (λ (o : Option FieldType). IsMadeAs names name o (trees job turns trace name)) (sym is) there, kept.made);
    unmade = λ other absent. kept.unmade other (λ there. absent (inr there));
  }

  other_by : (name other : Name) (bytes : List ℕ) (same : Bool) → bytes_eq name other ≡ same → (name ≡ other → ⊥)
      → making other (Loaded name bytes) ≡ Nothing
  other_by name other bytes true is differ = absurd (differ ((bytes_eq-Decides name other).0 is))
  other_by name other bytes false is differ = rw is refl

  pub first_trees : (trace : Trace) (e : Entry) (name : Name) (t : Tree) → base_tree_of name ≡ None → tree_by trace e name ≡ Some t
      → file_trees job turns trace name ≡ [] → trees job turns (trace ++ e ∷ []) name ≡ t ∷ []
  first_trees trace e name t base is none =
      ap (λ (o : Option Tree). elim o as (λ _. List Tree) [ Some t ↦ t ∷ [] | None ↦ file_trees job turns (trace ++ e ∷ []) name ]) base
      ∙ trees_more trace e name ∙ ap (λ (ts : List Tree). ts ++ cons_option (tree_by trace e name) []) none
      ∙ ap (λ (o : Option Tree). cons_option o []) is

  -- of a file that is loaded by the last record
  pub kept_loaded : (trace : Trace) (e : Entry) (names : List Name) (name : Name) (bytes : List ℕ) (t : Tree) → e.what ≡ Loaded name bytes
      → (IsIn name names → ⊥) → base_tree_of name ≡ None → array_type name ≡ None → tree_by trace e name ≡ Some t
      → class_at t.pool t.this_class ≡ Some name → AllByRecursion (λ super. IsIn super names) (supers_in t)
      → IsKept job turns trace names → IsKept job turns (trace ++ e ∷ []) (name ∷ names)
  kept_loaded trace e names name bytes t what new base plain is named supers kept =
      let others : (other : Name) → (name ≡ other → ⊥) → making other e.what ≡ Nothing =
      λ other differ. ap (making other) what ∙ other_by name other bytes (bytes_eq name other) refl differ in
      let here : trees job turns (trace ++ e ∷ []) name ≡ t ∷ [] = first_trees trace e name t base is (kept.unmade name new) in
      let one : IsMadeAs names name None (t ∷ []) = record { named = named; supers = supers; keep = tt } in
      record {
        made = (
          subst (λ (o : Option FieldType). IsMadeAs names name o (trees job turns (trace ++ e ∷ []) name)) (sym plain)
              (subst (IsMade names name) (sym here) one),
          made_more trace e names (λ other there u made array none. absurd (not_made trace e other u
              (others other (λ same. new (subst (λ (n : Name). IsIn n names) (sym same) there))) made)) kept.made,
        );
        unmade = λ other absent.
            trees_more trace e other
            ∙ none_by (file_trees job turns trace other) (tree_by trace e other)
            (λ u made. not_made trace e other u (others other (λ same. absent (inl (sym same)))) made)
            (kept.unmade other (λ there. absent (inr there)));
      }
