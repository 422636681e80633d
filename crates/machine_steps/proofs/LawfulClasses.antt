-- What the classes, as they are linked, are after every schedule: by how they are linked, and by their names, which differ.
use Rattle.jv_names.proofs.DescriptorFlaws.{read_field-front}
use Rattle.jv_names.specs.DescriptorFlaws.{read_field}
use Rattle.jv_names.specs.DescriptorReading.{kept_type}
use Rattle.jv_names.specs.Descriptors.{AnyElement, AnyType, Double, Float, Kept, any_type}
use Rattle.jv_names.specs.Names.{Name}
use Rattle.jv_names.specs.declared.descriptor.FieldType.{FieldType}
use Rattle.class_tree.specs.Tree.{class_at}
use Rattle.class_tree.specs.Trees.{Tree}
use Rattle.class_tree.specs.WellFormed.{is_well_formed}
use Rattle.link_versions.proofs.Tables.{number_of-there}
use Rattle.link_versions.specs.Changes.{IsArrayName, IsThere, array_class}
use Rattle.link_versions.specs.Classes.{Class, Kind, number_of, versions_of}
use Rattle.link_versions.specs.Subtypes.{array_interface_names, object_name}
use Rattle.machine_state.proofs.Alike.{kind_in, linked_kind, linked_name}
use Rattle.machine_state.proofs.FormedTrees.{trees_all}
use Rattle.machine_state.specs.Bytes.{AllHoldBytes, MakesBytes}
use Rattle.machine_state.specs.Core.{CoreClass}
use Rattle.machine_state.specs.Jobs.{Job}
use Rattle.machine_state.specs.Linked.{array_type, class_of_trees, if_array, linked, trees}
use Rattle.machine_state.specs.Trace.{Trace}
use Rattle.machine_state.specs.Versions.{Turns}
use Rattle.machine_steps.proofs.BaseTreesFormed.{base_formed}
use Rattle.machine_steps.proofs.DifferingNames.{names_differ}
use Rattle.machine_steps.proofs.HavingParts.{traces_hold}
use Rattle.machine_steps.specs.LawfulClasses.{ArePlaced, AreOfTheirNames, AreWellFormed, ArraysAreOfTheirNames, ClassesArePlaced, IsOfItsNameIn, VersionsAreWellFormed}
use Rattle.machine_steps.specs.Replay.{state}
use Rattle.std.proofs.Common.{Bool, List, None, Option, Some, [], ap, cond, false, map, refl, subst, suc, sym, true, zero, ℕ, ◌<◌, ◌∙◌, ◌∷◌, ◌≡◌, arith}
use Rattle.std.proofs.lemmas.Map.Keys.{IsDistinct-head, IsDistinct-tail}
use Rattle.std.specs.List.{AllByRecursion, IsDistinct, cons_option, filter_map}
use Rattle.std.specs.Option.{option_and_then}
use Rattle.std.specs.Prelude.{IfSome, IsTrue, bytes_eq, find, ◌==◌}
use Rattle.ti_ids.specs.declared.number.ClassNo.{ClassNo}

-- ---- array types

kept_by : (dimensions : ℕ) (el : AnyElement) (k : FieldType) → kept_type (record { dimensions = dimensions; element = el }) ≡ Some k
    → ◌≡◌ {A = AnyType} (record { dimensions = dimensions; element = el }) (any_type k)
kept_by dimensions (Kept e) k h =
    let same : ◌≡◌ {A = FieldType} (record { dimensions = dimensions; element = e }) k = cc in ap any_type same
kept_by dimensions Float k h = absurd cc
kept_by dimensions Double k h = absurd cc

if_by : (t k : FieldType) (none : Bool) → (t.dimensions == 0) ≡ none → cond none None (Some t) ≡ Some k → (t ≡ k) × (0 < t.dimensions)
if_by t k true is e = absurd cc
if_by t k false is e = (cc, by t.dimensions is)
  where
    by : (n : ℕ) → (n == 0) ≡ false → 0 < n
    by zero is = absurd cc
    by (suc n) is = omega arith

pub array_named : (name : Name) (k : FieldType) → array_type name ≡ Some k → IsArrayName name k
array_named name k e = by (read_field name) refl e
  where
    of_type : (t : AnyType) (kept : Option FieldType) → kept_type t ≡ kept → read_field name ≡ Some t → option_and_then if_array kept ≡ Some k
        → IsArrayName name k
    of_type t None is read e = absurd cc
    of_type t (Some u) is read e =
        let parts = if_by u k (u.dimensions == 0) refl e in
        let whole : t ≡ any_type k = kept_by t.dimensions t.element u is ∙ ap any_type parts.0 in
        record {
          text = read_field-front name (any_type k) (read ∙ ap (λ (t : AnyType). Some t) whole);
          array = subst (λ (u : FieldType). 0 < u.dimensions) parts.0 parts.1;
        }

    by : (read : Option AnyType) → read_field name ≡ read → option_and_then if_array (option_and_then kept_type read) ≡ Some k → IsArrayName name k
    by None read e = absurd cc
    by (Some t) read e = of_type t (kept_type t) refl read e

-- ---- classes that were found are there

module _ (older : List Class) where
  there_by : (found : Option ClassNo) → ((n : ClassNo) → found ≡ Some n → IsThere older n) → IfSome found (IsThere older)
  there_by None h = tt
  there_by (Some n) h = h n refl

  found_there : (name : Name) → IfSome (number_of older name) (IsThere older)
  found_there name = there_by (number_of older name) (number_of-there older name)

  chained_there : (name : Option Name) → IfSome (option_and_then (number_of older) name) (IsThere older)
  chained_there None = tt
  chained_there (Some name) = found_there name

  cons_there : (found : Option ClassNo) (rest : List ClassNo) → IfSome found (IsThere older) → AllByRecursion (IsThere older) rest
      → AllByRecursion (IsThere older) (cons_option found rest)
  cons_there None rest h k = k
  cons_there (Some n) rest h k = (h, k)

  mapped_there : {A : Type 0} (f : A → Option ClassNo) (xs : List A) → ((x : A) → IfSome (f x) (IsThere older))
      → AllByRecursion (IsThere older) (filter_map f xs)
  mapped_there f [] h = tt
  mapped_there f (x ∷ xs) h = cons_there (f x) (filter_map f xs) (h x) (mapped_there f xs h)

-- ---- linked classes

module _ (job : Job) (turns : Turns) (trace : Trace) where
  -- a class by its array type, if it has one, and its trees
  abbrev pub linked_by : List Class → CoreClass → Option FieldType → List Tree → Class
  linked_by older c type ts = elim type as (λ _. Class) [
    | Some t ↦ record (array_class (number_of older) c.name t) { state = c.state }
    | None ↦ class_of_trees job turns (number_of older) c ts
  ]

  abbrev AreThere : List Class → Class → Type 0
  AreThere older c = IfSome c.parent (IsThere older) × AllByRecursion (IsThere older) c.interfaces

  supers_there : (older : List Class) (c : CoreClass) (type : Option FieldType) (ts : List Tree) → AreThere older (linked_by older c type ts)
  supers_there older c None [] = (tt, tt)
  supers_there older c None (first ∷ later) = (
    chained_there older (class_at first.pool first.super_class),
    mapped_there older (λ index. option_and_then (number_of older) (class_at first.pool index)) first.interfaces
        (λ index. chained_there older (class_at first.pool index)),
  )
  supers_there older c (Some t) ts = (found_there older object_name, mapped_there older (number_of older) array_interface_names (found_there older))

  absent : (name : Name) (classes : List CoreClass) → AllByRecursion (λ other. bytes_eq name other ≡ false) (map (λ c. c.name) classes)
      → number_of (linked job turns trace classes) name ≡ None
  unfolding linked
  absent name [] h = refl
  absent name (c ∷ older) h =
      rw (linked_name job turns trace (number_of (linked job turns trace older)) c, h.0) (absent name older h.1)

  pub linked_placed : (classes : List CoreClass) → IsDistinct bytes_eq (map (λ c. c.name) classes) → ArePlaced (linked job turns trace classes)
  unfolding linked
  linked_placed [] h = tt
  linked_placed (c ∷ older) h =
      let before = linked job turns trace older in
      let names = map (λ (x : CoreClass). x.name) older in
      let name = linked_name job turns trace (number_of before) c in
      let supers = supers_there before c (array_type c.name) (trees job turns trace c.name) in (
        record {
          fresh = ap (number_of before) name ∙ absent c.name older (IsDistinct-head bytes_eq c.name names h);
          parent = supers.0;
          interfaces = supers.1;
        },
        linked_placed older (IsDistinct-tail bytes_eq c.name names h),
      )

  -- ---- array classes

  named_by : (older : List Class) (c : CoreClass) (type : Option FieldType) (ts : List Tree) → array_type c.name ≡ type
      → (let x = linked_by older c type ts in IsOfItsNameIn older x x.kind)
  named_by older c None [] is = tt
  named_by older c None (first ∷ later) is = tt
  named_by older c (Some t) ts is =
      record { type = t; named = array_named c.name t is; deep = refl; over = refl; parent = refl; interfaces = refl }

  linked_named : (classes : List CoreClass) → AreOfTheirNames (linked job turns trace classes)
  unfolding linked
  linked_named [] = tt
  linked_named (c ∷ older) =
      (named_by (linked job turns trace older) c (array_type c.name) (trees job turns trace c.name) refl, linked_named older)

  -- ---- versions

  module _ (makes : MakesBytes turns) (holds : AllHoldBytes trace) where
    abbrev KindFormed : Kind → Type 0
    KindFormed kind = AllByRecursion (λ t. IsTrue (is_well_formed t)) (versions_of kind)

    kind_formed : (find : Name → Option ClassNo) (c : CoreClass) (type : Option FieldType) → KindFormed (kind_in find type (trees job turns trace c.name))
    kind_formed find c None = trees_all job turns makes (λ t. IsTrue (is_well_formed t)) (λ t h. h) trace c.name (base_formed c.name) holds
    kind_formed find c (Some t) = tt

    linked_formed : (classes : List CoreClass) → AreWellFormed (linked job turns trace classes)
    unfolding linked
    linked_formed [] = tt
    linked_formed (c ∷ older) =
        let find = number_of (linked job turns trace older) in (
          subst KindFormed (sym (linked_kind job turns trace find c)) (kind_formed find c (array_type c.name)),
          linked_formed older,
        )

-- ---- after every schedule

pub classes_are_placed : ClassesArePlaced
classes_are_placed w schedule = (let s = state w schedule in linked_placed w.job w.turns s.trace s.core.classes (names_differ w schedule))

pub arrays_are_of_their_names : ArraysAreOfTheirNames
arrays_are_of_their_names w schedule = (let s = state w schedule in linked_named w.job w.turns s.trace s.core.classes)

pub versions_are_well_formed : VersionsAreWellFormed
versions_are_well_formed w schedule plain =
    (let s = state w schedule in linked_formed w.job w.turns s.trace plain.rules (traces_hold w schedule plain) s.core.classes)
