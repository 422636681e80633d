-- What a load that is accepted keeps of the classes: the class that it adds is made as its file says, over its supertypes, which are there.
use Rattle.base_set.specs.BaseSet.{BaseClass, base_set, has_name}
use Rattle.base_set.specs.BaseTrees.{base_tree}
use Rattle.class_tree.specs.Trees.{Tree}
use Rattle.class_tree.specs.WellFormed.{is_well_formed}
use Rattle.jv_names.specs.Names.{Name}
use Rattle.link_versions.specs.Classes.{Class, number_of}
use Rattle.machine_state.proofs.FormedTrees.{trees_all}
use Rattle.machine_state.specs.Acts.{Act, AddsClass, Changes, Notes, State, acted, has_failed_load, is_barred, raises}
use Rattle.machine_state.specs.Bytes.{AllHoldBytes, HoldsBytes}
use Rattle.machine_state.specs.Chains.{chain, rules_do}
use Rattle.machine_state.specs.Core.{Failure, failure_of}
use Rattle.machine_state.specs.Jobs.{bytes_of}
use Rattle.machine_state.specs.Laws.{names_of}
use Rattle.machine_state.specs.Linked.{array_type, base_tree_of, tree_of, trees}
use Rattle.machine_state.specs.Trace.{ClassLoad, Loaded, Raised}
use Rattle.machine_state.specs.Versions.{Given, Making, Version, left, making, version_made}
use Rattle.machine_steps.proofs.AcceptedNames.{accepts_same_names}
use Rattle.machine_steps.proofs.AcceptedTrees.{version_is}
use Rattle.machine_steps.proofs.AddedTrees.{first_trees, kept_loaded, kept_quiet, tree_by}
use Rattle.machine_steps.proofs.BaseTreesFormed.{base_formed}
use Rattle.machine_steps.proofs.ClassNames.{of_file, there_named}
use Rattle.machine_steps.proofs.FailingLoads.{absent}
use Rattle.machine_steps.proofs.FittingSteps.{append_all}
use Rattle.machine_steps.proofs.GivenLoads.{loads_given}
use Rattle.machine_steps.proofs.KeptActs.{Kept, Stays, before_stays, entry_of, names_with}
use Rattle.machine_steps.proofs.LoadSteps.{IsBefore, LoadsNow, made_of, turns_before}
use Rattle.machine_steps.proofs.LoadingOnce.{loads_once}
use Rattle.machine_steps.proofs.LoadingSupers.{IsIn, base_there, in_any, loads_supers_first, none_there, same_true}
use Rattle.machine_steps.proofs.MadeClasses.{IsKept}
use Rattle.machine_steps.specs.Laws.{IsNew}
use Rattle.machine_steps.specs.LawfulClasses.{HasBaseClasses, HasNamesOf}
use Rattle.machine_steps.specs.Loading.{Loads, bytes_given, is_accepted, load_ends, next_load, supers_in, supers_of, turn_notes}
use Rattle.machine_steps.specs.Reachable.{IsOrderly}
use Rattle.machine_steps.specs.Sites.{classes_now}
use Rattle.machine_steps.specs.Threads.{announced_state}
use Rattle.machine_steps.specs.World.{World}
use Rattle.std.proofs.Common.{Bool, List, None, Option, Some, [], ap, append_assoc, cond, false, length, refl, subst, sym, true, ℕ, ◌++◌, ◌||◌, ◌∙◌, ◌∷◌, ◌≡◌}
use Rattle.std.proofs.lemmas.List.Sums.{fold-append}
use Rattle.std.specs.List.{AllByRecursion, list_any}
use Rattle.std.specs.Option.{option_and_then, option_map_or, option_or}
use Rattle.std.specs.Prelude.{IsSome, bytes_eq, find, fold, is_none, is_some, option_map, unwrap_or, ◌&&◌}
use Rattle.ti_ids.specs.declared.actor.Actor.{Actor}
use Rattle.ti_ids.specs.declared.actor.Actor.TheVariants as actors
use Rattle.ti_ids.specs.declared.number.ThreadNo.{ThreadNo}
use Rattle.ti_ids.specs.declared.state.InitState.TheVariants as states
use Rattle.transform_chain.specs.Turns.{Does, fold_from}
use Rattle.transform_chain.specs.declared.active.Active.{Active}

-- ---- what was accepted

record Accepted (name : Name) (given made : Option Tree) : Type 0 where
  before : Tree
  after : Tree
  is_given : given ≡ Some before
  is_made : made ≡ Some after
  names : HasNamesOf name before after

accepted_by : (name : Name) (given made : Option Tree) → is_accepted name given made ≡ true → Accepted name given made
accepted_by name None made e = absurd cc
accepted_by name (Some t) None e = absurd cc
accepted_by name (Some t) (Some u) e =
    record { before = t; after = u; is_given = refl; is_made = refl; names = accepts_same_names name t u e }

-- a class of no file has no bytes
of_bytes : (base : Option Tree) (bytes : Option (List ℕ)) (t : Tree) → base ≡ None → IsSome (option_or base (option_and_then tree_of bytes))
    → tree_of (unwrap_or bytes []) ≡ Some t → option_and_then tree_of bytes ≡ Some t
of_bytes (Some b) bytes t none given e = absurd cc
of_bytes None None t none given e = absurd cc
of_bytes None (Some b) t none given e = e

-- ---- a class that isn't there is no base class

base_by : (classes : List Class) (name : Name) → HasBaseClasses classes → number_of classes name ≡ None → (found : Option BaseClass)
    → find (has_name name) base_set ≡ found → option_map base_tree found ≡ None
base_by classes name bases new None is = refl
base_by classes name bases new (Some c) is = absurd (none_there classes name new (base_there classes name base_set c bases is))

-- ---- what bars a class

not_failed : (failed : Option Name) (none : Bool) → failed ≡ None → (is_some failed && none) ≡ false
not_failed failed none e = rw e refl

all_front : {A : Type 0} (P : A → Type 0) (xs ys : List A) → AllByRecursion P (xs ++ ys) → AllByRecursion P xs
all_front P [] ys h = tt
all_front P (x ∷ xs) ys h = (h.0, all_front P xs ys h.1)

all_named : (w : World) (s : State) (names : List Name) → AllByRecursion (λ name. IsSome (number_of (classes_now w s) name)) names
    → AllByRecursion (λ name. IsIn name (names_of s.core.classes)) names
all_named w s [] h = tt
all_named w s (name ∷ names) h = (there_named w.job w.turns s.trace name s.core.classes h.0, all_named w s names h.1)

-- ---- the records of a load, behind what comes before it in its step

module _ (w : World) (plain : IsOrderly w) (s : State) (t : ThreadNo) (birth : ℕ) (bases : HasBaseClasses (classes_now w s)) where
  abbrev actor : Actor
  actor = actors.Thread t

  abbrev now : List Class
  now = classes_now w s

  abbrev names : List Name
  names = names_of s.core.classes

  -- behind these two, with the chain of the first, the class is loaded
  module _ (u v : State) (stays : Stays w s u) (more : Stays w s v) (name wanted : Name) (next : next_load w u.core now wanted ≡ Loads name)
      (accepted : made_of w u t name ≡ true) where
    abbrev bytes : List ℕ
    bytes = bytes_given w.job name

    abbrev noted : State
    noted = acted w.job actor birth v (Notes (Loaded name bytes))

    abbrev added : State
    added = acted w.job actor birth noted (Changes (AddsClass name states.Loaded))

    new : IsNew u.core now name
    new = loads_once w u.core now wanted name next

    abbrev ts_of : State → List (Active Does)
    ts_of x = chain w.job (rules_do w.turns) x.trace actor

    here : Accepted name (tree_of bytes) (tree_of (fold_from name 1 (ts_of u) bytes).made)
    here = accepted_by name (tree_of bytes) (tree_of (fold_from name 1 (ts_of u) bytes).made) accepted

    -- the tree of the version that the record makes is the one that was accepted
    given_by : (same : Bool) → bytes_eq name name ≡ same → same ≡ true → making name (Loaded name bytes) ≡ Given bytes
    given_by same is own = rw (is ∙ own) refl

    chains_same : ts_of v ≡ ts_of u
    chains_same = more.chains actor ∙ sym (stays.chains actor)

    tree_is : tree_by w.job w.turns v.trace (entry_of w v actor (Loaded name bytes)) name ≡ Some here.after
    tree_is =
        ap (λ (m : Making). option_and_then (λ (x : Version). tree_of x.bytes)
        (version_made w.job w.turns name v.trace actor (unwrap_or (left w.job w.turns name v.trace) []) m))
        (given_by (bytes_eq name name) refl (same_true name))
        ∙ ap tree_of (version_is w.job w.turns v.trace actor name bytes)
        ∙ ap (λ (ts : List (Active Does)). tree_of (fold_from name 1 ts bytes).made) chains_same
        ∙ here.is_made

    no_base : base_tree_of name ≡ None
    no_base = base_by now name bases new.absent (find (has_name name) base_set) refl

    supers_are : supers_of w.job name ≡ supers_in here.after
    supers_are =
        ap (λ (o : Option Tree). option_map_or supers_in (option_or o (option_and_then tree_of (bytes_of w.job name))) []) no_base
        ∙ ap (λ (o : Option Tree). option_map_or supers_in o []) (of_bytes (base_tree_of name) (bytes_of w.job name) here.before no_base (loads_given w u.core now wanted name next) here.is_given)
        ∙ sym here.names.supers

    supers_there : AllByRecursion (λ super. IsIn super names) (supers_in here.after)
    supers_there =
        all_named w s (supers_in here.after)
        (subst (λ (l : List Name). AllByRecursion (λ super. IsSome (number_of now super)) l) supers_are
        (loads_supers_first w u.core now wanted name bases next))

    not_there : list_any (bytes_eq name) names ≡ false
    not_there = absent w.job w.turns s.trace s.core.classes name new.absent

    not_in : IsIn name names → ⊥
    not_in there = absurd (let bad : true ≡ false = sym (in_any name names there) ∙ not_there in cc)

    unfailed : failure_of v.core name ≡ None
    unfailed =
        ap (λ (l : List Failure). option_map (λ (f : Failure). f.error) (find (λ f. bytes_eq f.class name) l)) (more.failures ∙ sym stays.failures)
        ∙ new.untried

    unbarred : is_barred noted.core name ≡ false
    unbarred =
        ap (λ (l : List _). list_any (bytes_eq name) (names_of l) || has_failed_load v.core name) more.classes
        ∙ ap (λ (b : Bool). b || has_failed_load v.core name) not_there
        ∙ not_failed (failure_of v.core name) (is_none (array_type name)) unfailed

    names_added : names_of added.core.classes ≡ name ∷ names
    names_added =
        names_with name states.Loaded noted.core
        ∙ ap (λ (b : Bool). cond b (names_of v.core.classes) (name ∷ names_of v.core.classes)) unbarred
        ∙ ap (λ (l : List _). name ∷ names_of l) more.classes

    module _ (kept : Kept w s) (holds : AllHoldBytes added.trace) where
      same_kept : Kept w v
      same_kept = more.kept kept

      first_is : trees w.job w.turns noted.trace name ≡ here.after ∷ []
      first_is =
          first_trees w.job w.turns v.trace (entry_of w v actor (Loaded name bytes)) name here.after no_base tree_is
          (same_kept.unmade name (λ there. not_in (subst (λ (l : List _). IsIn name (names_of l)) more.classes there)))

      formed : is_well_formed here.after ≡ true
      formed =
          (subst (λ (l : List Tree). AllByRecursion (λ u. is_well_formed u ≡ true) l) first_is
          (trees_all w.job w.turns plain.rules (λ u. is_well_formed u ≡ true) (λ u h. h) noted.trace name (base_formed name) holds)).0

      pub added_kept : Kept w added
      added_kept =
          subst (IsKept_of added) (sym names_added)
          (kept_loaded w.job w.turns v.trace (entry_of w v actor (Loaded name bytes)) names name bytes here.after refl not_in no_base
          (of_file here.after name formed here.names.named) tree_is here.names.named supers_there
          (subst (λ (l : List _). IsKept w.job w.turns v.trace (names_of l)) more.classes same_kept))
        where
          IsKept_of : State → List Name → Type 0
          IsKept_of x l = IsKept w.job w.turns x.trace l

  -- ---- the whole step

  module _ (acts first more : List Act) (before : AllByRecursion IsBefore first) (h : LoadsNow w now (announced_state w s t first) t more)
      (whole : acts ≡ first ++ more) where
    abbrev u : State
    u = announced_state w s t first

    abbrev turns : List Act
    turns = turn_notes h.name (fold_from h.name 1 (chain w.job (rules_do w.turns) u.trace actor) (bytes_given w.job h.name)).turns

    abbrev v : State
    v = fold (acted w.job actor birth) s (first ++ turns)

    abbrev ending : List Act
    ending = Notes (Loaded h.name (bytes_given w.job h.name)) ∷ Changes (AddsClass h.name states.Loaded) ∷ raises (ClassLoad t h.name) ∷ []

    stays : Stays w s v
    stays =
        before_stays w actor birth s (first ++ turns)
        (append_all IsBefore first turns before (turns_before h.name 1 (length _) _))

    parted : acts ≡ (first ++ turns) ++ ending
    parted =
        whole ∙ ap (λ (l : List Act). first ++ l)
        (h.is ∙ ap (load_ends u.core now t h.name (bytes_given w.job h.name) turns) h.accepted)
        ∙ sym (append_assoc first turns ending)

    abbrev last : State
    last = added u v (before_stays w actor 0 s first before) stays h.name h.wanted h.next h.accepted

    ends : fold (acted w.job actor birth) s acts ≡ acted w.job actor birth last (raises (ClassLoad t h.name))
    ends =
        ap (fold (acted w.job actor birth) s) parted ∙ fold-append (acted w.job actor birth) s (first ++ turns) ending

    pub load_kept : Kept w s → AllHoldBytes (fold (acted w.job actor birth) s acts).trace → Kept w (fold (acted w.job actor birth) s acts)
    load_kept kept holds =
        let all : AllHoldBytes (acted w.job actor birth last (raises (ClassLoad t h.name))).trace =
        subst (λ (x : State). AllHoldBytes x.trace) ends holds in
        let one = added_kept u v (before_stays w actor 0 s first before) stays h.name h.wanted h.next h.accepted kept
        (all_front (λ e. HoldsBytes e.what) last.trace _ all) in
        subst (λ (x : State). Kept w x) (sym ends)
        (kept_quiet w.job w.turns last.trace (entry_of w last actor (Raised (ClassLoad t h.name))) (names_of last.core.classes) (λ name. refl) one)
