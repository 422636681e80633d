-- After every schedule the classes are lawful as a whole.
use Rattle.class_tree.specs.Tree.{class_at}
use Rattle.class_tree.specs.Trees.{Tree}
use Rattle.class_tree.specs.WellFormed.{is_well_formed}
use Rattle.jv_names.specs.Names.{Name}
use Rattle.jv_names.specs.declared.descriptor.FieldType.{FieldType}
use Rattle.link_versions.specs.Changes.{AreLawful, CanDefine, IsOfKind}
use Rattle.link_versions.specs.Classes.{Class, Kind, number_of, versions_of}
use Rattle.machine_state.specs.Core.{CoreClass}
use Rattle.machine_state.specs.Jobs.{Job}
use Rattle.machine_state.specs.Laws.{names_of}
use Rattle.machine_state.specs.Linked.{array_type, linked, trees}
use Rattle.machine_state.specs.Trace.{Trace}
use Rattle.machine_state.specs.Versions.{Turns}
use Rattle.machine_steps.proofs.ClassNames.{named_there}
use Rattle.machine_steps.proofs.FoundKinds.{element_there}
use Rattle.machine_steps.proofs.KeptSchedules.{AddsKnownArrays, all_right}
use Rattle.machine_steps.proofs.LawfulClasses.{array_named, classes_are_placed, linked_by, versions_are_well_formed}
use Rattle.machine_steps.proofs.LoadingSupers.{IsIn}
use Rattle.machine_steps.proofs.MadeClasses.{AreMade, IsMadeAs, IsMadeBy}
use Rattle.machine_steps.specs.LawfulClasses.{ArePlaced, AreWellFormed, CallsInstall, HasFewVersions}
use Rattle.machine_steps.specs.Loading.{interface_names, listed, super_name, supers_in}
use Rattle.machine_steps.specs.Reachable.{CallsRecord, IsOrderly}
use Rattle.machine_steps.specs.Replay.{state}
use Rattle.machine_steps.specs.Sites.{classes_now}
use Rattle.machine_steps.specs.World.{World}
use Rattle.std.proofs.Common.{List, None, Option, Some, [], length, refl, subst, sym, ℕ, ◌++◌, ◌<◌, ◌∷◌, ◌≡◌}
use Rattle.std.proofs.lemmas.List.Elements.{All-from_recursion}
use Rattle.std.specs.List.{AllByRecursion, cons_option, filter_map}
use Rattle.std.specs.Prelude.{IfSome, IsSome, IsTrue, ◌^◌}
use Rattle.ti_ids.specs.declared.actor.Actor.{Actor}

-- ---- the supertypes that a file names, one by one

module _ (P : Name → Type 0) where
  first_of : (o : Option Name) (rest : List Name) → AllByRecursion P (listed o ++ rest) → IfSome o P
  first_of None rest h = tt
  first_of (Some name) rest h = h.0

  rest_of : (o : Option Name) (rest : List Name) → AllByRecursion P (listed o ++ rest) → AllByRecursion P rest
  rest_of None rest h = h
  rest_of (Some name) rest h = h.1

  one_of : (o : Option Name) (rest : List Name) → AllByRecursion P (cons_option o rest) → IfSome o P × AllByRecursion P rest
  one_of None rest h = (tt, h)
  one_of (Some name) rest h = (h.0, h.1)

  each_of : (f : ℕ → Option Name) (indices : List ℕ) → AllByRecursion P (filter_map f indices) → AllByRecursion (λ i. IfSome (f i) P) indices
  each_of f [] h = tt
  each_of f (i ∷ indices) h =
      let parts = one_of (f i) (filter_map f indices) h in (parts.0, each_of f indices parts.1)

all_by : (P Q : Name → Type 0) (names : List Name) → ((name : Name) → P name → Q name) → AllByRecursion P names → AllByRecursion Q names
all_by P Q [] f h = tt
all_by P Q (name ∷ names) f h = (f name h.0, all_by P Q names f h.1)

-- ---- one class, over those before it

module _ (job : Job) (turns : Turns) (trace : Trace) (older : List CoreClass) where
  abbrev before : List Class
  before = linked job turns trace older

  abbrev Found : Name → Type 0
  Found name = IsSome (number_of before name)

  can_define : (name : Name) (first : Tree) (later : List Tree) → IsMadeBy (names_of older) name first later → number_of before name ≡ None
      → CanDefine before first
  can_define name first later made fresh =
      let there = all_by (λ super. IsIn super (names_of older)) Found (supers_in first) (λ n h. named_there job turns trace n older h) made.supers in
      record {
        fresh = subst (λ (o : Option Name). IfSome o (λ n. number_of before n ≡ None)) (sym made.named) fresh;
        parent = first_of Found (super_name first) (interface_names first) there;
        interfaces = All-from_recursion (λ index. IfSome (class_at first.pool index) Found) first.interfaces
            (each_of Found (class_at first.pool) first.interfaces (rest_of Found (super_name first) (interface_names first) there));
      }

  abbrev AreFormed : Kind → Type 0
  AreFormed kind = AllByRecursion (λ t. IsTrue (is_well_formed t)) (versions_of kind)

  kind_by : (c : CoreClass) (type : Option FieldType) (ts : List Tree) → array_type c.name ≡ type → IsMadeAs (names_of older) c.name type ts
      → (let x = linked_by job turns trace before c type ts in
      number_of before x.name ≡ None → AreFormed x.kind → length (versions_of x.kind) < 2 ^ 32 → IsOfKind before x x.kind)
  kind_by c None [] is made fresh formed few = absurd made
  kind_by c None (first ∷ later) is made fresh formed few = record {
    name = made.named;
    defined = can_define c.name first later made fresh;
    parent = refl;
    interfaces = refl;
    keep = made.keep;
    well_formed = formed;
    few = few;
  }
  kind_by c (Some t) ts is made fresh formed few = record {
    type = t;
    named = array_named c.name t is;
    there = element_there job turns trace older (names_of older) t.element (λ n h. h) made;
    deep = refl;
    over = refl;
    parent = refl;
    interfaces = refl;
  }

-- ---- all of them

all_lawful : (job : Job) (turns : Turns) (trace : Trace) (classes : List CoreClass) → AreMade job turns trace (names_of classes)
    → (let now = linked job turns trace classes in ArePlaced now → AreWellFormed now → HasFewVersions now → AreLawful now)
unfolding linked
all_lawful job turns trace [] made placed formed few = tt
all_lawful job turns trace (c ∷ older) made placed formed few = (
  record {
    fresh = placed.0.fresh;
    parent = placed.0.parent;
    interfaces = placed.0.interfaces;
    kind = kind_by job turns trace older c (array_type c.name) (trees job turns trace c.name) refl made.0 placed.0.fresh formed.0 few.0;
  },
  all_lawful job turns trace older made.1 placed.1 formed.1 few.1,
)

-- where each array class that is added has its element
pub lawful_so : (w : World) (schedule : List Actor) → IsOrderly w → CallsRecord w → CallsInstall w → AddsKnownArrays w
    → (let classes = classes_now w (state w schedule) in HasFewVersions classes → AreLawful classes)
lawful_so w schedule plain records installs known few =
    let s = state w schedule in
    let right = all_right w plain records installs known schedule in
    all_lawful w.job w.turns s.trace s.core.classes right.kept.made (classes_are_placed w schedule) (versions_are_well_formed w schedule plain) few
