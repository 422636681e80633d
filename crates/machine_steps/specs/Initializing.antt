-- The initialization of classes (JVM specification 5.5): how it begins, and each of its later steps.
use Rattle.std.specs.Prelude.{ℕ, ◌+◌, ◌==◌, Bool, true, false, not, ◌&&◌, List, [], ◌∷◌, ◌++◌, length, flat_map, find, filter, Option, Some, None, option_map, codes, if◌then◌else◌}
use Rattle.std.specs.List.{list_any}
use Rattle.std.specs.Option.{option_and_then, option_map_or}
use Rattle.ti_ids.specs.declared.number.ThreadNo.{ThreadNo}
use Rattle.ti_ids.specs.declared.number.ObjNo.{ObjNo}
use Rattle.ti_ids.specs.declared.number.ClassNo.{ClassNo}
use Rattle.ti_ids.specs.declared.number.MethodNo.{MethodNo}
use Rattle.ti_ids.specs.declared.value.Value.{Value}
use Rattle.ti_ids.specs.declared.value.Value.TheVariants as value
use Rattle.jv_names.specs.Names.{Name}
use Rattle.class_tree.specs.declared.access.Flag.TheVariants as flags
use Rattle.class_tree.specs.declared.pool.Const.{Const}
use Rattle.class_tree.specs.declared.pool.Const.TheVariants as const
use Rattle.class_tree.specs.declared.members.Member.{Member}
use Rattle.class_tree.specs.Flags.{has_flag}
use Rattle.class_tree.specs.Trees.{Tree}
use Rattle.class_tree.specs.Tree.{entry_at, text_at, constant_of}
use Rattle.java_heap.specs.declared.object.Content.TheVariants.{Literal}
use Rattle.java_heap.specs.declared.object.TheConstants.{STRING}
use Rattle.java_heap.specs.Heaps.{HeapValue, literal_of, next_number}
use Rattle.java_heap.specs.Objects.{fresh}
use Rattle.ti_ids.specs.declared.state.InitState.{InitState}
use Rattle.ti_ids.specs.declared.state.InitState.TheVariants as states
use Rattle.link_versions.specs.Classes.{Class, class_at as class_numbered, version_at, newest_version, is_interface}
use Rattle.link_versions.specs.Members.{declared_method, method_has}
use Rattle.machine_state.specs.Core.{Core, MethodFrame, frames_at, class_of_number}
use Rattle.machine_state.specs.Acts.{State, Act, Changes, SetsClass, PutsStatic, Pops, Pushes, PushesInit, EntersInitializer}
use Rattle.instruction_effect.specs.Outcomes.{heap_has_room, makes_announced}
use Rattle.instruction_effect.specs.Arguments.{frame_of, is_deep, is_refused, newest_body}
use Rattle.machine_steps.specs.Throwing.{throws_new, throws_full}
use Rattle.machine_steps.specs.Linking.{parents}

-- ---- constant static fields: section 4.7.2

-- what a constant is worth, or the units of a String
pub data Constant : Type 0 where
  Is : Value → Constant
  Text : List ℕ → Constant

abbrev pub constant_in : List Const → Const → Option Constant
constant_in pool (const.Integer n) = Some (Is (value.Int n))
constant_in pool (const.Long n) = Some (Is (value.Long n))
constant_in pool (const.Text index) = option_map (λ units. Text units) (text_at pool index)
constant_in pool _ = None

abbrev pub static_constant : List Const → Member → Option Constant
static_constant pool m =
    if has_flag m.flags.bits flags.Static then option_and_then (constant_in pool) (option_and_then (entry_at pool) (constant_of m.attrs)) else None

-- each constant static field of a list of fields, by its place, from this place on
abbrev pub constants_from : List Const → ℕ → List Member → List (ℕ × Constant)
constants_from pool place [] = []
constants_from pool place (m ∷ members) =
    option_map_or (λ c. (place, c) ∷ []) (static_constant pool m) [] ++ constants_from pool (place + 1) members

abbrev pub constants_of : Tree → List (ℕ × Constant)
constants_of t = constants_from t.pool 0 t.fields

-- What the constants of a class do: the acts that make Strings, those that set fields, and whether the heap was too full for a String.
pub record Constants : Type 0 where
  pub makes : List Act
  pub sets : List Act
  pub full : Bool

abbrev pub no_constants : Constants
no_constants = record { makes = []; sets = []; full = false }

abbrev pub set_to : ClassNo → ℕ → Value → Constants → Constants
set_to n place v rest = record rest { sets = Changes (PutsStatic (record { class = n; place = place }) v) ∷ rest.sets }

abbrev pub string_at : ObjNo → Value
string_at o = value.Ref (Some o)

abbrev pub string_name : Name
string_name = codes "java/lang/String"

abbrev pub with_string : HeapValue → List ℕ → HeapValue
with_string heap units = record heap { objects = heap.objects ++ fresh STRING (Literal units) ∷ [] }

-- A String that isn't there is made, as far as the heap has room; without room nothing more is done.
abbrev pub set_to_new : ThreadNo → ClassNo → ℕ → List ℕ → HeapValue → Constants → Constants
set_to_new t n place units heap rest =
    let making = makes_announced t heap STRING (Literal units) string_name in
    if heap_has_room heap (Literal units)
    then record (set_to n place (string_at (next_number heap)) rest) { makes = making ++ rest.makes }
    else record no_constants { full = true }

abbrev pub constants_made : ThreadNo → ClassNo → HeapValue → List (ℕ × Constant) → Constants
constants_made t n heap [] = no_constants
constants_made t n heap ((place, Is v) ∷ constants) = set_to n place v (constants_made t n heap constants)
constants_made t n heap ((place, Text units) ∷ constants) = elim (literal_of heap units) [
  | Some o ↦ set_to n place (string_at o) (constants_made t n heap constants)
  | None ↦ set_to_new t n place units heap (constants_made t n (with_string heap units) constants)
]

-- ---- how an initialization begins: it is in progress by the thread, its constant fields are set, and its frame is pushed

abbrev pub overflow_name : Name
overflow_name = codes "java/lang/StackOverflowError"

-- where the step throws, the Strings that it made stay
abbrev pub begins_with : State → List Class → ThreadNo → ClassNo → Constants → List Act
begins_with s classes t n made =
    if made.full then throws_full classes s.core t made.makes
    else if is_deep (frames_at s.core t) 0 then throws_new classes s.core t made.makes overflow_name
    else made.makes ++ made.sets ++ Changes (SetsClass n (states.InProgress t)) ∷ Changes (PushesInit t n) ∷ []

abbrev pub constants_at : List Class → ClassNo → List (ℕ × Constant)
constants_at classes n = option_map_or constants_of (version_at classes (newest_version classes n)) []

abbrev pub begins_init : State → List Class → ThreadNo → ClassNo → List Act
begins_init s classes t n = begins_with s classes t n (constants_made t n s.core.heap (constants_at classes n))

-- The step of a need for a class to be initialized. None while another thread initializes it, and where it is met.
abbrev pub init_step_in : State → List Class → ThreadNo → ClassNo → InitState → Option (List Act)
init_step_in s classes t n states.Linked = Some (begins_init s classes t n)
init_step_in s classes t n states.Erroneous = Some (throws_new classes s.core t [] (codes "java/lang/NoClassDefFoundError"))
init_step_in s classes t n states.Loaded = None
init_step_in s classes t n (states.InProgress by) = None
init_step_in s classes t n states.Initialized = None

abbrev pub state_of_class : List Class → ClassNo → InitState
state_of_class classes n = option_map_or (λ c. c.state) (class_numbered classes n) states.Loaded

abbrev pub init_step : State → List Class → ThreadNo → ClassNo → Option (List Act)
init_step s classes t n = init_step_in s classes t n (state_of_class classes n)

-- ---- the frame of `<clinit>`, as of a method that isn't synchronized

abbrev pub pushes_initializer : State → List Class → ThreadNo → ClassNo → MethodFrame → List Act
pushes_initializer s classes t n frame =
    if is_refused (frames_at s.core t) frame then throws_new classes s.core t [] overflow_name
    else Changes (EntersInitializer n) ∷ Changes (Pushes t frame) ∷ []

-- a method that isn't abstract has a body
abbrev pub enters_initializer : State → List Class → ThreadNo → ClassNo → MethodNo → List Act
enters_initializer s classes t n m = option_map_or (λ body. pushes_initializer s classes t n (frame_of m body [])) (newest_body classes m) []

-- ---- its later steps: the supertypes that it needs, then `<clinit>`, then the end

-- the interface has a method that is neither abstract nor static
abbrev pub has_default : Tree → Bool
has_default tree = list_any (λ m. not (has_flag m.flags.bits flags.Abstract) && not (has_flag m.flags.bits flags.Static)) tree.methods

abbrev pub declares_default : List Class → ClassNo → Bool
declares_default classes n = option_map_or has_default (version_at classes (newest_version classes n)) false

-- The superinterfaces of a class, each behind its own, in the order of the file.
abbrev pub superinterfaces : List Class → ClassNo → List ClassNo
superinterfaces [] n = []
superinterfaces (c ∷ older) n =
    if n.0 == length (c ∷ older) then flat_map (λ i. superinterfaces older i ++ i ∷ []) c.interfaces else superinterfaces older n

abbrev pub parent_of : List Class → ClassNo → List ClassNo
parent_of classes n = option_map_or (λ c. parents c.parent) (class_numbered classes n) []

-- the superclass, and each superinterface that declares such a method; an interface needs none
abbrev pub init_supers : List Class → ClassNo → List ClassNo
init_supers classes n =
    if is_interface classes n then []
    else parent_of classes n ++ filter (declares_default classes) (superinterfaces classes n)

-- neither initialized nor in progress by this thread
abbrev pub must_begin_in : ThreadNo → InitState → Bool
must_begin_in t states.Initialized = false
must_begin_in t (states.InProgress by) = not (by.0 == t.0)
must_begin_in t _ = true

abbrev pub must_begin : List Class → ThreadNo → ClassNo → Bool
must_begin classes t n = must_begin_in t (state_of_class classes n)

-- a `<clinit>` counts where it is static and not abstract
abbrev pub initializer : List Class → ClassNo → Option MethodNo
initializer classes n = elim (declared_method classes (codes "<clinit>") (codes "()V") n) [
  | None ↦ None
  | Some m ↦ if method_has classes flags.Static m && not (method_has classes flags.Abstract m) then Some m else None
]

abbrev pub was_entered : Core → ClassNo → Bool
was_entered core n = option_map_or (λ c. c.entered) (class_of_number core n) false

-- it is initialized, and its frame is popped
abbrev pub ends_init : ThreadNo → ClassNo → List Act
ends_init t n = Changes (SetsClass n states.Initialized) ∷ Changes (Pops t) ∷ []

abbrev pub enters_or_ends : State → List Class → ThreadNo → ClassNo → Option MethodNo → List Act
enters_or_ends s classes t n None = ends_init t n
enters_or_ends s classes t n (Some m) = if was_entered s.core n then ends_init t n else enters_initializer s classes t n m

-- A step of the initialization on top of a thread's frames. None while another thread initializes what comes next.
abbrev pub progress_step : State → List Class → ThreadNo → ClassNo → Option (List Act)
progress_step s classes t n = elim (find (must_begin classes t) (init_supers classes n)) [
  | Some m ↦ init_step s classes t m
  | None ↦ Some (enters_or_ends s classes t n (initializer classes n))
]
