-- The loading of classes (JVM specification 5.3): what a need to load a class does next. Each step loads one class.
use Rattle.std.specs.Prelude.{ℕ, zero, suc, ◌+◌, Bool, true, false, not, ◌&&◌, ◌||◌, List, [], ◌∷◌, ◌++◌, map, length, flat_map, Option, Some, None, unwrap_or, is_some, bytes_eq, codes, if◌then◌else◌}
use Rattle.std.specs.List.{list_any, filter_map}
use Rattle.std.specs.Option.{option_and_then, option_map_or, option_or}
use Rattle.std.specs.Cmp.Lexicographic.{pointwise}
use Rattle.ti_ids.specs.declared.number.ThreadNo.{ThreadNo}
use Rattle.ti_ids.specs.declared.actor.Actor.TheVariants as actors
use Rattle.jv_names.specs.Names.{Name}
use Rattle.class_tree.specs.declared.access.Flag.TheVariants as flags
use Rattle.class_tree.specs.Flags.{has_flag}
use Rattle.class_tree.specs.Trees.{Tree}
use Rattle.class_tree.specs.Tree.{class_at}
use Rattle.ti_ids.specs.declared.state.InitState.TheVariants as states
use Rattle.link_versions.specs.Classes.{Class, number_of}
use Rattle.transform_chain.specs.declared.folded.Turn.{Turn}
use Rattle.transform_chain.specs.Turns.{fold_from}
use Rattle.machine_state.specs.Jobs.{Job, bytes_of}
use Rattle.machine_state.specs.Core.{Core, failure_of}
use Rattle.machine_state.specs.Trace.{Turned, Loaded, LoadFailed, ClassLoad}
use Rattle.machine_state.specs.Chains.{rules_do, chain}
use Rattle.machine_state.specs.Linked.{tree_of, base_tree_of}
use Rattle.machine_state.specs.Acts.{State, Act, Changes, Notes, AddsClass, Fails, raises}
use Rattle.machine_steps.specs.World.{World}
use Rattle.machine_steps.specs.Throwing.{throws_new}

-- ---- classes as their files state them

-- the tree of a class's file, or of a base class
abbrev pub given_tree : Job → Name → Option Tree
given_tree job name = option_or (base_tree_of name) (option_and_then tree_of (bytes_of job name))

-- the names of its superclass, if it has one, and of its direct superinterfaces, in the order of the file
abbrev pub super_name : Tree → Option Name
super_name t = class_at t.pool t.super_class

abbrev pub interface_names : Tree → List Name
interface_names t = filter_map (class_at t.pool) t.interfaces

abbrev pub listed : Option Name → List Name
listed None = []
listed (Some name) = name ∷ []

abbrev pub supers_in : Tree → List Name
supers_in t = listed (super_name t) ++ interface_names t

abbrev pub supers_of : Job → Name → List Name
supers_of job name = option_map_or supers_in (given_tree job name) []

-- ---- the two faults that show in the files alone

-- what lies above a class, so many levels at most. As many as there are files, and one more, are all.
abbrev pub above_within : Job → ℕ → Name → List Name
above_within job zero name = []
above_within job (suc n) name = let supers = supers_of job name in supers ++ flat_map (above_within job n) supers

-- a class is its own ancestor (section 5.3.5)
abbrev pub is_circular : Job → Name → Bool
is_circular job name = list_any (bytes_eq name) (above_within job (suc (length job.files)) name)

-- a class is there, and is an interface, or is none
abbrev pub is_interface_file : Tree → Bool
is_interface_file t = has_flag t.flags.bits flags.Interface

abbrev pub is_known_interface : Job → Name → Bool
is_known_interface job name = option_map_or is_interface_file (given_tree job name) false

abbrev pub is_known_class : Job → Name → Bool
is_known_class job name = option_map_or (λ t. not (is_interface_file t)) (given_tree job name) false

-- its superclass is an interface, or one of its superinterfaces is there and is none
abbrev pub is_crossed : Job → Tree → Bool
is_crossed job t = option_map_or (is_known_interface job) (super_name t) false || list_any (is_known_class job) (interface_names t)

-- ---- what a need to load a class does next

pub data Load : Type 0 where
  -- it is loaded
  Met : Load
  -- this class is loaded now
  Loads : Name → Load
  -- this class's load fails now, with this class of error
  Refuses : Name → Name → Load
  -- a load has failed before, with this class of error
  Repeats : Name → Load

-- the first of these that isn't met
abbrev pub first_unmet : List Load → Option Load
first_unmet [] = None
first_unmet (Met ∷ loads) = first_unmet loads
first_unmet (load ∷ loads) = Some load

-- what is left of the need for a class of a file when its supertypes have these
abbrev pub after_supers : Name → List Load → Load
after_supers name supers = unwrap_or (first_unmet supers) (Loads name)

-- The superclass comes first, then the superinterfaces in the order of the file, then the class itself. A class that is its own
-- ancestor, or whose supertypes are of the wrong kinds, fails before they are loaded.
abbrev pub load_of_tree : Job → Name → Tree → List Load → Load
load_of_tree job name t supers =
    if is_circular job name then Refuses name (codes "java/lang/ClassCircularityError")
    else if is_crossed job t then Refuses name (codes "java/lang/IncompatibleClassChangeError")
    else after_supers name supers

-- a class that is in no file
abbrev pub load_of_given : Job → Name → Option Tree → List Load → Load
load_of_given job name None supers = Refuses name (codes "java/lang/NoClassDefFoundError")
load_of_given job name (Some t) supers = load_of_tree job name t supers

abbrev pub load_of_failed : Option Name → Load → Load
load_of_failed (Some error) otherwise = Repeats error
load_of_failed None otherwise = otherwise

-- so many levels of supertypes at most
abbrev pub load_within : World → Core → List Class → ℕ → Name → Load
load_within w core classes zero name = Met
load_within w core classes (suc n) name =
    let supers = map (load_within w core classes n) (supers_of w.job name) in
    if is_some (number_of classes name) then Met
    else load_of_failed (failure_of core name) (load_of_given w.job name (given_tree w.job name) supers)

abbrev pub next_load : World → Core → List Class → Name → Load
next_load w core classes name = load_within w core classes (suc (suc (length w.job.files))) name

-- ---- the load step

-- the records of turns at a class, of which the first has this place among so many
abbrev pub turns_from : Name → ℕ → ℕ → List Turn → List Act
turns_from class k n [] = []
turns_from class k n (turn ∷ turns) = Notes (Turned turn.env class turn.set k n turn.changed) ∷ turns_from class (k + 1) n turns

abbrev pub turn_notes : Name → List Turn → List Act
turn_notes class turns = turns_from class 1 (length turns) turns

-- what was made of a class's bytes has its name, its superclass and its interfaces, in their order
abbrev pub same_names : List Name → List Name → Bool
same_names left right = pointwise bytes_eq left right

abbrev pub stands_for_class : Name → Tree → Tree → Bool
stands_for_class name given made =
    same_names (listed (class_at made.pool made.this_class)) (name ∷ [])
    && same_names (listed (super_name given)) (listed (super_name made))
    && same_names (interface_names given) (interface_names made)

abbrev pub is_accepted : Name → Option Tree → Option Tree → Bool
is_accepted name (Some given) (Some made) = stands_for_class name given made
is_accepted name given made = false

abbrev pub bytes_given : Job → Name → List ℕ
bytes_given job name = unwrap_or (bytes_of job name) []

-- the class is loaded, or is refused as it was made
abbrev pub load_ends : Core → List Class → ThreadNo → Name → List ℕ → List Act → Bool → List Act
load_ends core classes t name bytes notes true =
    notes ++ Notes (Loaded name bytes) ∷ Changes (AddsClass name states.Loaded) ∷ raises (ClassLoad t name) ∷ []
load_ends core classes t name bytes notes false =
    let error = codes "java/lang/ClassFormatError" in
    throws_new classes core t (notes ++ Notes (LoadFailed name error) ∷ Changes (Fails name error) ∷ []) error

-- the turns of all active transformers at its file's bytes, one after the other, and what comes of them
abbrev pub loads : World → State → List Class → ThreadNo → Name → List Act
loads w s classes t name =
    let bytes = bytes_given w.job name in
    let all = fold_from name 1 (chain w.job (rules_do w.turns) s.trace (actors.Thread t)) bytes in
    load_ends s.core classes t name bytes (turn_notes name all.turns) (is_accepted name (tree_of bytes) (tree_of all.made))

-- the step of a need to load a class; None where it is met
abbrev pub load_step : World → State → List Class → ThreadNo → Load → Option (List Act)
load_step w s classes t Met = None
load_step w s classes t (Loads name) = Some (loads w s classes t name)
load_step w s classes t (Refuses name error) =
    Some (throws_new classes s.core t (Notes (LoadFailed name error) ∷ Changes (Fails name error) ∷ []) error)
load_step w s classes t (Repeats error) = Some (throws_new classes s.core t [] error)
