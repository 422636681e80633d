-- What the classes, as they are linked, are after every schedule.
use Rattle.std.specs.Prelude.{◌≡◌, ℕ, ◌<◌, ◌^◌, List, [], ◌∷◌, length, Option, Some, None, IfSome, IsSome, IsTrue, true, unwrap_or, codes}
use Rattle.std.specs.List.{filter_map, AllByRecursion}
use Rattle.std.specs.Option.{option_and_then}
use Rattle.ti_ids.specs.declared.actor.Actor.{Actor}
use Rattle.ti_ids.specs.declared.number.ClassNo.{ClassNo}
use Rattle.jv_names.specs.Names.{Name}
use Rattle.jv_names.specs.declared.descriptor.FieldType.{FieldType}
use Rattle.class_tree.specs.Trees.{Tree}
use Rattle.class_tree.specs.Tree.{class_at}
use Rattle.class_tree.specs.WellFormed.{is_well_formed}
use Rattle.base_set.specs.BaseSet.{base_set}
use Rattle.java_heap.specs.declared.object.TheConstants.{STRING, STRING_BUILDER, CLASS}
use Rattle.link_versions.specs.declared.class.Element.{Element}
use Rattle.link_versions.specs.Classes.{Class, Kind, OfFile, OfArray, number_of, versions_of}
use Rattle.link_versions.specs.Changes.{IsThere, IsArrayName, element_by, CanInstall, AreLawful}
use Rattle.link_versions.specs.Subtypes.{object_name, array_interface_names}
use Rattle.machine_state.specs.Core.{Core}
use Rattle.machine_state.specs.Trace.{Record}
use Rattle.machine_state.specs.Versions.{left, making, version_made}
use Rattle.machine_state.specs.Linked.{tree_of}
use Rattle.machine_state.specs.Acts.{State, Act, Changes, Notes, acted}
use Rattle.machine_steps.specs.Actors.{base_class}
use Rattle.machine_steps.specs.World.{World}
use Rattle.machine_steps.specs.Loading.{next_load, Loads, supers_of, supers_in, is_accepted}
use Rattle.machine_steps.specs.Sites.{classes_now}
use Rattle.machine_steps.specs.Replay.{state}
use Rattle.machine_steps.specs.Reachable.{IsOrderly, CallsRecord}
use Rattle.machine_steps.specs.Calls.{NextCall, taken, answer_to}
use Rattle.machine_steps.specs.Actors.{next_call}

-- ---- the classes that the heap knows by number

-- The numbers of String, StringBuilder and Class are those of their names in the base set.
pub record AreBaseNumbers : Type 0 where
  pub string : base_class (codes "java/lang/String") ≡ STRING
  pub string_builder : base_class (codes "java/lang/StringBuilder") ≡ STRING_BUILDER
  pub class : base_class (codes "java/lang/Class") ≡ CLASS

-- ---- the order of classes

-- A class has a name of its own, and its superclass and its interfaces are classes before it.
pub record IsPlaced (older : List Class) (c : Class) : Type 0 where
  pub fresh : number_of older c.name ≡ None
  pub parent : IfSome c.parent (IsThere older)
  pub interfaces : AllByRecursion (IsThere older) c.interfaces

abbrev pub ArePlaced : List Class → Type 0
ArePlaced [] = Unit {0}
ArePlaced (c ∷ older) = IsPlaced older c × ArePlaced older

-- After every schedule each class is.
abbrev pub ClassesArePlaced : Type 0
ClassesArePlaced = (w : World) (schedule : List Actor) → ArePlaced (classes_now w (state w schedule))

-- ---- what a class is loaded over

-- the base classes are there
abbrev pub HasBaseClasses : List Class → Type 0
HasBaseClasses classes = AllByRecursion (λ c. IsSome (number_of classes c.name)) base_set

-- Once the base classes are there, a class is loaded only when those that its file names as its superclass and its superinterfaces are.
abbrev pub LoadsSupersFirst : Type 0
LoadsSupersFirst =
    (w : World) (core : Core) (classes : List Class) (wanted name : Name) → HasBaseClasses classes → next_load w core classes wanted ≡ Loads name
    → AllByRecursion (λ super. IsSome (number_of classes super)) (supers_of w.job name)

-- a class is made as this tree, which has its name, and the superclass and the superinterfaces that the given one names
pub record HasNamesOf (name : Name) (given made : Tree) : Type 0 where
  pub named : class_at made.pool made.this_class ≡ Some name
  pub supers : supers_in made ≡ supers_in given

-- What is accepted of a class has them.
abbrev pub AcceptsSameNames : Type 0
AcceptsSameNames = (name : Name) (given made : Tree) → is_accepted name (Some given) (Some made) ≡ true → HasNamesOf name given made

-- ---- versions

-- each version of each class is well-formed
abbrev pub AreWellFormed : List Class → Type 0
AreWellFormed classes = AllByRecursion (λ c. AllByRecursion (λ t. IsTrue (is_well_formed t)) (versions_of c.kind)) classes

-- After every schedule each version is.
abbrev pub VersionsAreWellFormed : Type 0
VersionsAreWellFormed = (w : World) (schedule : List Actor) → IsOrderly w → AreWellFormed (classes_now w (state w schedule))

-- ---- array classes

-- An array class is what its name says, over the classes that were there before it.
pub record IsOfItsName (older : List Class) (c : Class) (dimensions : ℕ) (e : Element) : Type 0 where
  pub type : FieldType
  pub named : IsArrayName c.name type
  pub deep : dimensions ≡ type.dimensions
  pub over : e ≡ element_by (number_of older) type.element
  pub parent : c.parent ≡ number_of older object_name
  pub interfaces : c.interfaces ≡ filter_map (number_of older) array_interface_names

abbrev pub IsOfItsNameIn : List Class → Class → Kind → Type 0
IsOfItsNameIn older c (OfFile versions) = Unit {0}
IsOfItsNameIn older c (OfArray dimensions e) = IsOfItsName older c dimensions e

abbrev pub AreOfTheirNames : List Class → Type 0
AreOfTheirNames [] = Unit {0}
AreOfTheirNames (c ∷ older) = IsOfItsNameIn older c c.kind × AreOfTheirNames older

-- After every schedule each array class is.
abbrev pub ArraysAreOfTheirNames : Type 0
ArraysAreOfTheirNames = (w : World) (schedule : List Actor) → AreOfTheirNames (classes_now w (state w schedule))

-- ---- the whole

-- the tree of the version that a record makes of a class in a state, if it makes one
abbrev pub tree_made : World → State → Actor → Record → Name → Option Tree
tree_made w s actor what name =
    let kept = unwrap_or (left w.job w.turns name s.trace) [] in
    option_and_then (λ v. tree_of v.bytes) (version_made w.job w.turns name s.trace actor kept (making name what))

-- The class is there, and the tree may be installed as a version of it.
pub record MayInstall (classes : List Class) (name : Name) (t : Tree) : Type 0 where
  pub number : ClassNo
  pub there : number_of classes name ≡ Some number
  pub can : CanInstall classes number t

-- each version that these acts make, one act behind the other from this state on, may be installed
abbrev pub InstallsOnly : World → Actor → State → List Act → Type 0
InstallsOnly w actor s [] = Unit {0}
InstallsOnly w actor s (Changes c ∷ acts) = InstallsOnly w actor (acted w.job actor 0 s (Changes c)) acts
InstallsOnly w actor s (Notes what ∷ acts) =
    ((name : Name) → IfSome (tree_made w s actor what name) (MayInstall (classes_now w s) name))
    × InstallsOnly w actor (acted w.job actor 0 s (Notes what)) acts

-- After every schedule each version that the next call makes may be installed.
abbrev pub CallsInstall : World → Type 0
CallsInstall w = (schedule : List Actor) (actor : Actor) (c : NextCall)
    → let s = state w schedule in next_call w s actor ≡ Some c → InstallsOnly w actor (taken c s) (answer_to w s actor c).acts

-- no class has as many versions as 32 bits number
abbrev pub HasFewVersions : List Class → Type 0
HasFewVersions classes = AllByRecursion (λ c. length (versions_of c.kind) < 2 ^ 32) classes

-- After every schedule the classes are lawful as a whole, where files are bytes, rules make bytes of bytes, calls do what they do by records,
-- and each version that they make may be installed; and where no class has too many versions.
abbrev pub ClassesAreLawful : Type 0
ClassesAreLawful = (w : World) (schedule : List Actor) → IsOrderly w → CallsRecord w → CallsInstall w
    → let classes = classes_now w (state w schedule) in HasFewVersions classes → AreLawful classes
