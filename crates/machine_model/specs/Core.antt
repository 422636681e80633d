-- The state of the machine at one moment: JVM specification 2.5.
use Rattle.std.specs.Prelude.{ℕ, zero, suc, List, map, Option, None, option_map, Bool, bytes_eq, find, slice_get, slice_set, if◌then◌else◌, ◌&&◌}
use Rattle.ti_ids.specs.declared.value.Value.{Value}
use Rattle.ti_ids.specs.declared.actor.Actor.{Actor}
use Rattle.ti_ids.specs.declared.state.Announced.{Announced}
use Rattle.ti_ids.specs.declared.state.ThreadState.{ThreadState}
use Rattle.ti_ids.specs.declared.state.InitState.{InitState}
use Rattle.ti_codes.specs.declared.phase.Phase.{Phase}
use Rattle.jv_names.specs.Names.{Name}
use Rattle.first_form.specs.ClassFiles.{Reference}
use Rattle.machine_model.specs.Jobs.{Call}

-- section 2.6: a method's frame. It holds no code: that is what the class was when the trace had the length of its birth.
pub record JavaFrame : Type 0 where
  pub class : Name
  pub method : Name
  pub descriptor : Name
  pub birth : ℕ
  pub pc : ℕ
  pub locals : List Value
  -- the top first
  pub stack : List Value
  pub announced : Announced

pub data Frame : Type 0 where
  Java : JavaFrame → Frame
  -- the initialization of a class, and how far it is
  Init : Name → ℕ → Frame

pub record Thread : Type 0 where
  -- its Thread object
  pub object : ℕ
  pub state : ThreadState
  -- the top first
  pub frames : List Frame

pub data Content : Type 0 where
  Fields : List Value → Content
  Elements : List Value → Content
  -- of a String or a StringBuilder
  Units : List ℕ → Content

-- section 2.5.3
pub record Object : Type 0 where
  pub class : Name
  pub content : Content
  -- a Thread's target or a Throwable's message
  pub side : Option ℕ

-- a thread in an object's wait set, the entries that it gave up, and whether it was notified
pub record Waiting : Type 0 where
  pub thread : ℕ
  pub entries : ℕ
  pub notified : Bool

-- section 2.11.10: the thread that holds an object's monitor and how often it entered, and those that wait, the longest waiting first
pub record Monitor : Type 0 where
  pub object : ℕ
  pub owner : Option ℕ
  pub entries : ℕ
  pub waiting : List Waiting

pub record Static : Type 0 where
  pub field : Reference
  pub value : Value

-- a class that could not be loaded, and the class of the error that this threw
pub record Failure : Type 0 where
  pub class : Name
  pub error : Name

-- a call of an environment that waits to be performed
pub record Pending : Type 0 where
  pub environment : ℕ
  pub call : Call

pub record Core : Type 0 where
  pub phase : Phase
  -- whether VMDeath was raised
  pub died : Bool
  -- thread 1 first
  pub threads : List Thread
  -- object 1 first
  pub heap : List Object
  pub monitors : List Monitor
  pub statics : List Static
  -- the classes of files, in the order of loading; the base classes are initialized from the first step on
  pub classes : List (Name × InitState)
  pub failures : List Failure
  pub output : List ℕ
  pub queues : List (Actor × List Pending)
  -- how many calls of its script each agent has made
  pub scripts : List ℕ

-- ---- one of its parts, and the core with another one in its place

-- threads have the numbers from 1
abbrev pub thread_at : Core → ℕ → Option Thread
thread_at core zero = None
thread_at core (suc n) = slice_get core.threads n

abbrev pub with_thread : Core → ℕ → Thread → Core
with_thread core zero thread = core
with_thread core (suc n) thread = record core { threads = slice_set core.threads n thread }

abbrev pub state_in : List (Name × InitState) → Name → Option InitState
state_in classes name = option_map (λ e. e.1) (find (λ e. bytes_eq e.0 name) classes)

abbrev pub class_state : Core → Name → Option InitState
class_state core name = state_in core.classes name

abbrev pub with_state : Core → Name → InitState → Core
with_state core name state = record core { classes = map (λ e. if bytes_eq e.0 name then (e.0, state) else e) core.classes }

abbrev pub same_reference : Reference → Reference → Bool
same_reference a b = bytes_eq a.class b.class && bytes_eq a.name b.name && bytes_eq a.descriptor b.descriptor

-- the value of a static field
abbrev pub static_at : Core → Reference → Option Value
static_at core field = option_map (λ s. s.value) (find (λ s. same_reference s.field field) core.statics)
