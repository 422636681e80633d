-- Only a class that isn't there is loaded or refused, and none whose load has failed.
use Rattle.std.proofs.Common.{◌≡◌, ℕ, zero, suc, List, [], ◌∷◌, map, length, Option, Some, None, Bool, true, false, cond, refl, subst}
use Rattle.std.specs.Prelude.{is_some, unwrap_or}
use Rattle.jv_names.specs.Names.{Name}
use Rattle.ti_ids.specs.declared.number.ClassNo.{ClassNo}
use Rattle.class_tree.specs.Trees.{Tree}
use Rattle.link_versions.specs.Classes.{Class, number_of}
use Rattle.machine_state.specs.Core.{Core, failure_of}
use Rattle.machine_steps.specs.World.{World}
use Rattle.machine_steps.specs.Loading.{Load, Met, Loads, Refuses, Repeats, first_unmet, after_supers, load_of_tree, load_of_given, load_of_failed, load_within, next_load, is_circular, is_crossed, given_tree, supers_of}
use Rattle.machine_steps.specs.Laws.{LoadsOnce, IsNew}

-- a class that is loaded, or whose load fails, is new
abbrev pub Fresh : Core → List Class → Load → Type 0
Fresh core classes Met = Unit {0}
Fresh core classes (Loads name) = IsNew core classes name
Fresh core classes (Refuses name error) = IsNew core classes name
Fresh core classes (Repeats error) = Unit {0}

-- ---- the first of several

-- a load is Fresh, if there is one
abbrev FreshIn : Core → List Class → Option Load → Type 0
FreshIn core classes None = Unit {0}
FreshIn core classes (Some load) = Fresh core classes load

first_fresh : (core : Core) (classes : List Class) (load : Load) (rest : List Load) → Fresh core classes load
    → FreshIn core classes (first_unmet rest) → FreshIn core classes (first_unmet (load ∷ rest))
first_fresh core classes Met rest h k = k
first_fresh core classes (Loads name) rest h k = h
first_fresh core classes (Refuses name error) rest h k = h
first_fresh core classes (Repeats error) rest h k = h

unmet_fresh : (core : Core) (classes : List Class) (of : Name → Load) (names : List Name) → ((name : Name) → Fresh core classes (of name))
    → FreshIn core classes (first_unmet (map of names))
unmet_fresh core classes of [] h = tt
unmet_fresh core classes of (name ∷ names) h = first_fresh core classes (of name) (map of names) (h name) (unmet_fresh core classes of names h)

after_fresh_in : (core : Core) (classes : List Class) (name : Name) (first : Option Load) → IsNew core classes name → FreshIn core classes first
    → Fresh core classes (unwrap_or first (Loads name))
after_fresh_in core classes name None new h = new
after_fresh_in core classes name (Some load) new h = h

-- ---- a class that isn't there, and whose load hasn't failed

either_fresh : (core : Core) (classes : List Class) (name one two : Name) (a b : Bool) (load : Load) → IsNew core classes name
    → Fresh core classes load → Fresh core classes (cond a (Refuses name one) (cond b (Refuses name two) load))
either_fresh core classes name one two true b load new h = new
either_fresh core classes name one two false true load new h = new
either_fresh core classes name one two false false load new h = h

tree_fresh : (w : World) (core : Core) (classes : List Class) (name : Name) (t : Tree) (supers : List Load) → IsNew core classes name
    → FreshIn core classes (first_unmet supers)
    → Fresh core classes (load_of_tree w.job name t supers)
tree_fresh w core classes name t supers new h =
    either_fresh core classes name _ _ (is_circular w.job name) (is_crossed w.job t) (after_supers name supers) new
    (after_fresh_in core classes name (first_unmet supers) new h)

given_fresh : (w : World) (core : Core) (classes : List Class) (name : Name) (t : Option Tree) (supers : List Load) → IsNew core classes name
    → FreshIn core classes (first_unmet supers)
    → Fresh core classes (load_of_given w.job name t supers)
given_fresh w core classes name None supers new h = new
given_fresh w core classes name (Some t) supers new h = tree_fresh w core classes name t supers new h

failed_fresh : (core : Core) (classes : List Class) (failed : Option Name) (load : Load) → (failed ≡ None → Fresh core classes load)
    → Fresh core classes (load_of_failed failed load)
failed_fresh core classes (Some error) load h = tt
failed_fresh core classes None load h = h refl

absent_fresh : (core : Core) (classes : List Class) (there : Option ClassNo) (load : Load) → (there ≡ None → Fresh core classes load)
    → Fresh core classes (cond (is_some there) Met load)
absent_fresh core classes (Some n) load h = tt
absent_fresh core classes None load h = h refl

within_fresh : (w : World) (core : Core) (classes : List Class) (n : ℕ) (name : Name) → Fresh core classes (load_within w core classes n name)
within_fresh w core classes zero name = tt
within_fresh w core classes (suc n) name =
    let supers = map (load_within w core classes n) (supers_of w.job name) in
    let load = load_of_given w.job name (given_tree w.job name) supers in
    absent_fresh core classes (number_of classes name) (load_of_failed (failure_of core name) load) (λ absent.
    failed_fresh core classes (failure_of core name) load (λ untried.
    given_fresh w core classes name (given_tree w.job name) supers (record { absent = absent; untried = untried })
    (unmet_fresh core classes (load_within w core classes n) (supers_of w.job name) (within_fresh w core classes n))))

pub next_fresh : (w : World) (core : Core) (classes : List Class) (wanted : Name) (load : Load) → next_load w core classes wanted ≡ load
    → Fresh core classes load
next_fresh w core classes wanted load e =
    subst (Fresh core classes) e (within_fresh w core classes (suc (suc (length w.job.files))) wanted)

pub loads_once : LoadsOnce
loads_once w core classes wanted name e = next_fresh w core classes wanted (Loads name) e
