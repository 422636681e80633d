-- What a machine that runs keeps, as plain values. It keeps no trace: whatever the trace says of the next step is kept in a part of its
-- own. The parts nest as the core's do: base methods speak of the first, instructions and the steps of classes of the second, and tool
-- calls and the machine of all.
use Rattle.std.specs.Prelude.{ℕ, ℤ, List, Option, Bool}
use Rattle.ti_ids.specs.declared.number.ThreadNo.{ThreadNo}
use Rattle.ti_ids.specs.declared.number.ObjNo.{ObjNo}
use Rattle.ti_ids.specs.declared.number.VersionNo.{VersionNo}
use Rattle.ti_ids.specs.declared.number.FieldNo.{FieldNo}
use Rattle.ti_ids.specs.declared.number.Location.{Location}
use Rattle.ti_ids.specs.declared.value.Value.{Value}
use Rattle.ti_ids.specs.declared.actor.Actor.{Actor}
use Rattle.ti_ids.specs.declared.state.ThreadState.{ThreadState}
use Rattle.ti_codes.specs.declared.phase.Phase.{Phase}
use Rattle.ti_codes.specs.declared.capability.Capability.{Capability}
use Rattle.ti_codes.specs.declared.event.EventKind.{EventKind}
use Rattle.ti_ids.specs.declared.limits.Limits.{Limits}
use Rattle.jv_names.specs.Names.{Name}
use Rattle.class_code.specs.declared.instr.Instr.{Instr}
use Rattle.java_heap.specs.Heaps.{HeapValue}
use Rattle.monitor_table.specs.Table.{MonitorMap}
use Rattle.thread_frames.specs.declared.frame.StackEntry.{StackEntry}
use Rattle.link_versions.specs.Classes.{Class}
use Rattle.type_frames.specs.Hierarchies.{Known}
use Rattle.report_text.specs.declared.run.Run.{Run}
use Rattle.event_mask.specs.declared.hook.HookClass.{HookClass}
use Rattle.event_mask.specs.Settings.{Scope}
use Rattle.transform_chain.specs.declared.registered.Registered.{Registered}
use Rattle.agent_types.specs.declared.agent.Agent as agent_type
use Rattle.machine_state.specs.Jobs.{File}
use Rattle.ti_ids.specs.declared.state.Activity.{Activity}
use Rattle.machine_state.specs.Core.{Pending}

-- ---- what base methods speak of

-- what a frame runs: a version of its class, and the list of its method's instructions in that version. It knows no birth.
pub record MachinePin : Type 0 where
  pub version : VersionNo
  pub code : List (ℕ × Instr)
  -- the object whose monitor was entered for a synchronized method
  pub monitor : Option ObjNo

pub record ThreadParts : Type 0 where
  pub object : ObjNo
  pub state : ThreadState
  pub activity : Activity
  -- the top first
  pub frames : List (StackEntry MachinePin)

pub record BaseParts : Type 0 where
  pub heap : HeapValue
  pub monitors : MonitorMap
  -- thread 1 first
  pub threads : List ThreadParts
  pub output : List ℕ

-- ---- what instructions and the steps of classes speak of

pub record JavaParts : Type 0 where
  pub base : BaseParts
  -- with their versions, the newest class first
  pub classes : List Class
  -- of each class, in the same order: whether its `<clinit>` was entered, and the bytes from which a retransformation begins
  pub entered : List Bool
  pub kept : List (Option (List ℕ))
  -- the value of a static field, also of one that was never set
  pub statics : FieldNo → Value
  -- the errors of failed loads and type checks
  pub failures : Name → Option Name
  -- the classes that type checks know
  pub known : Known
  -- the class files of the job
  pub files : List File

-- ---- what tool calls and the machine speak of

pub record EnvironmentParts : Type 0 where
  pub disposed : Bool
  pub capabilities : Capability → Bool
  -- whether an event is on, for all threads or for one
  pub masks : EventKind → Scope → Bool
  -- whether its hook is capable of retransformation, once it has turned ClassFileLoadHook on
  pub hook : HookClass
  -- the rule set in force
  pub rules : Option Name
  -- 0 where an object has none
  pub tags : ObjNo → ℤ
  pub log : List (List ℕ)
  -- whether it asked for the pop of the frame that has this number on the thread's stack, where the bottom has 1
  pub pops : ThreadNo → ℕ → Bool

pub record Parts : Type 0 where
  pub java : JavaParts
  pub phase : Phase
  -- whether VMDeath was raised
  pub death_raised : Bool
  pub queues : Actor → List Pending
  -- how many calls of its script each agent has made, agent 1 first
  pub scripts : List ℕ
  -- environment 1 first
  pub environments : List EnvironmentParts
  -- those of `java.lang.instrument`, in the order in which they were added
  pub transformers : List Registered
  pub breakpoints : Location → Bool
  -- for FieldAccess or for FieldModification
  pub watches : FieldNo → EventKind → Bool
  pub suspended : ThreadNo → Bool
  -- the schedule, and how many steps it has
  pub schedule : List Run
  pub steps : ℕ
  -- of the job
  pub main : Name
  pub limits : Limits
  pub donors : List (List ℕ)
  pub agents : List agent_type.Agent
