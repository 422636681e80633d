-- The linking of classes (JVM specification 5.4): what a need to link a class does next. Each step links one class.
use Rattle.std.specs.Prelude.{◌==◌, List, [], ◌∷◌, ◌++◌, length, map, find, Option, Some, None, Bool, true, false, codes, if◌then◌else◌}
use Rattle.std.specs.List.{filter_map}
use Rattle.std.specs.Option.{option_map_or}
use Rattle.ti_ids.specs.declared.number.ThreadNo.{ThreadNo}
use Rattle.ti_ids.specs.declared.number.ClassNo.{ClassNo}
use Rattle.jv_names.specs.Names.{Name}
use Rattle.base_set.specs.BaseSet.{base_set}
use Rattle.base_set.specs.BaseTrees.{base_tree}
use Rattle.type_frames.specs.Hierarchies.{Known}
use Rattle.type_frames.specs.Stated.{stated}
use Rattle.ti_ids.specs.declared.state.InitState.{InitState}
use Rattle.ti_ids.specs.declared.state.InitState.TheVariants as states
use Rattle.link_versions.specs.Classes.{Class, class_at as class_numbered, version_at, newest_version}
use Rattle.type_frames.specs.Answering.{class_passes}
use Rattle.machine_state.specs.Jobs.{Job}
use Rattle.machine_state.specs.Linked.{tree_of}
use Rattle.machine_state.specs.Core.{failure_of}
use Rattle.machine_state.specs.Trace.{ClassPrepare}
use Rattle.machine_state.specs.Acts.{State, Act, Changes, SetsClass, Fails, raises}
use Rattle.machine_steps.specs.World.{World}
use Rattle.machine_steps.specs.Throwing.{name_of, throws_new}

-- ---- which class comes next

abbrev pub is_loaded_only : InitState → Bool
is_loaded_only states.Loaded = true
is_loaded_only _ = false

abbrev pub is_unlinked : List Class → ClassNo → Bool
is_unlinked classes n = option_map_or (λ c. is_loaded_only c.state) (class_numbered classes n) false

-- the superclass, if there is one, and the direct superinterfaces in the order of the file
abbrev pub parents : Option ClassNo → List ClassNo
parents None = []
parents (Some n) = n ∷ []

abbrev pub supers : Class → List ClassNo
supers c = parents c.parent ++ c.interfaces

-- The class that is linked next where this one is needed linked: the first of its supertypes that isn't, and what that one needs; or
-- the class itself.
abbrev pub next_link : List Class → ClassNo → ClassNo
next_link [] n = n
next_link (c ∷ older) n =
    if n.0 == length (c ∷ older)
    then (elim (find (is_unlinked older) (supers c)) [ None ↦ n | Some m ↦ next_link older m ])
    else next_link older n

-- ---- the link step

-- The classes that type checks know: those of the base set and of the files, as they were given (section 4.10.1).
abbrev pub hierarchy : Job → Known
hierarchy job = stated (map base_tree base_set ++ filter_map (λ f. tree_of f.bytes) job.files)

abbrev pub verify_name : Name
verify_name = codes "java/lang/VerifyError"

-- the type check of the class's newest version
abbrev pub passes_check : World → List Class → ClassNo → Bool
passes_check w classes n = option_map_or (class_passes (hierarchy w.job)) (version_at classes (newest_version classes n)) false

-- a type check that has failed fails again
abbrev pub links_checked : State → List Class → ThreadNo → ClassNo → Name → Bool → List Act
links_checked s classes t n name true = Changes (SetsClass n states.Linked) ∷ raises (ClassPrepare t name) ∷ []
links_checked s classes t n name false = throws_new classes s.core t (Changes (Fails name verify_name) ∷ []) verify_name

abbrev pub links_in : World → State → List Class → ThreadNo → ClassNo → Name → Option Name → List Act
links_in w s classes t n name (Some error) = throws_new classes s.core t [] error
links_in w s classes t n name None = links_checked s classes t n name (passes_check w classes n)

abbrev pub links : World → State → List Class → ThreadNo → ClassNo → List Act
links w s classes t n = let name = name_of classes n in links_in w s classes t n name (failure_of s.core name)

-- the step of a need to link a class
abbrev pub link_step : World → State → List Class → ThreadNo → ClassNo → List Act
link_step w s classes t n = links w s classes t (next_link classes n)
