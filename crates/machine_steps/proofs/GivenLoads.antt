-- A class that is loaded is one of the base set or of a file.
use Rattle.class_tree.specs.Trees.{Tree}
use Rattle.jv_names.specs.Names.{Name}
use Rattle.link_versions.specs.Classes.{Class, number_of}
use Rattle.machine_state.specs.Core.{Core, failure_of}
use Rattle.machine_steps.specs.Loading.{Load, Loads, Met, Refuses, Repeats, after_supers, first_unmet, given_tree, is_circular, is_crossed, load_of_failed, load_of_given, load_within, next_load, supers_of}
use Rattle.machine_steps.specs.World.{World}
use Rattle.std.proofs.Common.{Bool, List, None, Option, Some, [], cond, false, length, map, refl, subst, suc, true, zero, ap, ℕ, ◌∷◌, ◌≡◌}
use Rattle.std.specs.Prelude.{IsSome, is_some, unwrap_or}
use Rattle.ti_ids.specs.declared.number.ClassNo.{ClassNo}

module _ (w : World) (core : Core) (classes : List Class) where
  abbrev IsGiven : Load → Type 0
  IsGiven (Loads name) = IsSome (given_tree w.job name)
  IsGiven Met = Unit {0}
  IsGiven (Refuses name error) = Unit {0}
  IsGiven (Repeats error) = Unit {0}

  abbrev GivenIn : Option Load → Type 0
  GivenIn None = Unit {0}
  GivenIn (Some load) = IsGiven load

  first_given : (load : Load) (rest : List Load) → IsGiven load → GivenIn (first_unmet rest) → GivenIn (first_unmet (load ∷ rest))
  first_given Met rest h k = k
  first_given (Loads name) rest h k = h
  first_given (Refuses name error) rest h k = h
  first_given (Repeats error) rest h k = h

  unmet_given : (of : Name → Load) (names : List Name) → ((name : Name) → IsGiven (of name)) → GivenIn (first_unmet (map of names))
  unmet_given of [] h = tt
  unmet_given of (name ∷ names) h = first_given (of name) (map of names) (h name) (unmet_given of names h)

  after_given : (name : Name) (first : Option Load) → IsSome (given_tree w.job name) → GivenIn first → IsGiven (unwrap_or first (Loads name))
  after_given name None given h = given
  after_given name (Some load) given h = h

  either_given : (name one two : Name) (a b : Bool) (load : Load) → IsGiven load → IsGiven (cond a (Refuses name one) (cond b (Refuses name two) load))
  either_given name one two true b load h = tt
  either_given name one two false true load h = tt
  either_given name one two false false load h = h

  tree_given : (name : Name) (t : Option Tree) (supers : List Load) → given_tree w.job name ≡ t → GivenIn (first_unmet supers)
      → IsGiven (load_of_given w.job name t supers)
  tree_given name None supers is h = tt
  tree_given name (Some t) supers is h =
      let given : IsSome (given_tree w.job name) = ap (λ (o : Option Tree). is_some o) is in
      either_given name _ _ (is_circular w.job name) (is_crossed w.job t) (after_supers name supers) (after_given name (first_unmet supers) given h)

  failed_given : (failed : Option Name) (load : Load) → IsGiven load → IsGiven (load_of_failed failed load)
  failed_given (Some error) load h = tt
  failed_given None load h = h

  there_given : (there : Option ClassNo) (load : Load) → IsGiven load → IsGiven (cond (is_some there) Met load)
  there_given (Some n) load h = tt
  there_given None load h = h

  within_given : (n : ℕ) (name : Name) → IsGiven (load_within w core classes n name)
  within_given zero name = tt
  within_given (suc n) name =
      let supers = map (load_within w core classes n) (supers_of w.job name) in
      let load = load_of_given w.job name (given_tree w.job name) supers in
      there_given (number_of classes name) (load_of_failed (failure_of core name) load)
      (failed_given (failure_of core name) load
      (tree_given name (given_tree w.job name) supers refl (unmet_given (load_within w core classes n) (supers_of w.job name) (within_given n))))

  pub loads_given : (wanted name : Name) → next_load w core classes wanted ≡ Loads name → IsSome (given_tree w.job name)
  loads_given wanted name e = subst IsGiven e (within_given (suc (suc (length w.job.files))) wanted)
