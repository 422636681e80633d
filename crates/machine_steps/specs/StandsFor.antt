-- What the parts of a machine stand for: a core and a trace, and all of them together a state. Each fact says of one part that it is what
-- the core or the trace has. The relation nests as the parts do, so that what changes the base alone is said of the base alone.
use Rattle.std.specs.Prelude.{◌≡◌, ℕ, List, [], length, map, Option, Some, unwrap_or, Bool, false, slice_get}
use Rattle.std.specs.List.{AllZip, list_any}
use Rattle.std.specs.Option.{option_map_or}
use Rattle.ti_ids.specs.declared.number.ThreadNo.{ThreadNo}
use Rattle.ti_ids.specs.declared.number.ObjNo.{ObjNo}
use Rattle.ti_ids.specs.declared.number.EnvNo.{EnvNo}
use Rattle.ti_ids.specs.declared.number.FieldNo.{FieldNo}
use Rattle.ti_ids.specs.declared.number.Location.{Location}
use Rattle.ti_ids.specs.declared.actor.Actor.{Actor}
use Rattle.ti_codes.specs.declared.capability.Capability.{Capability}
use Rattle.ti_codes.specs.declared.event.EventKind.{EventKind}
use Rattle.jv_names.specs.Names.{Name}
use Rattle.thread_frames.specs.declared.frame.Frame.{Frame}
use Rattle.thread_frames.specs.declared.frame.StackEntry.{StackEntry}
use Rattle.thread_frames.specs.declared.frame.StackEntry.TheVariants.{Java, Init}
use Rattle.link_versions.specs.Classes.{Class, numbered, newest_version, first_version}
use Rattle.class_tree.specs.Tree.{text_at}
use Rattle.ti_ids.specs.Maybe.{◌>>=◌}
use Rattle.report_text.specs.Runs.{runs_of}
use Rattle.capability_set.specs.Held.{has_capability}
use Rattle.event_mask.specs.Settings.{Scope}
use Rattle.machine_state.specs.Jobs.{at_number}
use Rattle.machine_state.specs.Core as cores
use Rattle.machine_state.specs.Core.{Core, MethodFrame, StackFrame, failure_of, queue_of, frames_at, monitor_at}
use Rattle.monitor_table.specs.Table.{state_of}
use Rattle.machine_state.specs.Trace.{Place, FieldName, Trace}
use Rattle.machine_state.specs.Environments.{is_disposed, capabilities_of, setting, hook_class, rules_of}
use Rattle.machine_state.specs.Chains.{added}
use Rattle.machine_state.specs.Versions.{left}
use Rattle.machine_state.specs.Linked.{linked}
use Rattle.machine_state.specs.FrameCode as frame_code
use Rattle.machine_state.specs.Logs as logs
use Rattle.machine_state.specs.Tags.{tag}
use Rattle.machine_state.specs.Places.{has_breakpoint, is_watched, is_suspended}
use Rattle.machine_state.specs.Acts.{State}
use Rattle.instruction_effect.specs.Fields.{field_desc, static_value}
use Rattle.machine_steps.specs.World.{World}
use Rattle.machine_steps.specs.Linking.{hierarchy}
use Rattle.machine_steps.specs.Throwing.{name_of, method_named}
use Rattle.machine_steps.specs.Replay as replay
use Rattle.machine_steps.specs.Parts.{MachinePin, ThreadParts, BaseParts, JavaParts, EnvironmentParts, Parts}

-- ---- numbers and names

abbrev pub place_named : List Class → Location → Place
place_named classes l = record { method = method_named classes l.method.class l.method; pc = l.pc }

abbrev pub field_name : List Class → FieldNo → Option Name
field_name classes field = first_version classes field.class >>= λ t. slice_get t.fields field.place >>= λ m. text_at t.pool m.name

abbrev pub name_of_field : List Class → FieldNo → FieldName
name_of_field classes field = record {
  class = name_of classes field.class;
  name = unwrap_or (field_name classes field) [];
  desc = unwrap_or (field_desc classes field) [];
}

-- whether an environment asked for the pop of a frame
abbrev pub asks_frame : Trace → EnvNo → ThreadNo → StackFrame → Bool
asks_frame trace env t (Java f) = list_any (λ e. logs.asks env t f.pin.birth e.what) trace
asks_frame trace env t (Init class) = false

-- the same of the living frame of a number
abbrev pub asks_living : Trace → Core → EnvNo → ThreadNo → ℕ → Bool
asks_living trace core env t n = option_map_or (asks_frame trace env t) (numbered (frames_at core t) n) false

-- ---- what they stand for, by a core and a trace. In the course of a step these are the core after some of its acts, and the trace before
-- the step: a frame that was just pushed has the birth of the step, and so stands by the whole trace.

module _ (w : World) (trace : Trace) (core : Core) where
  -- ---- the base

  -- The version is the one that was newest when the frame was pushed, and the code is the method's in it.
  pub record FrameStands (f : Frame MachinePin) (g : MethodFrame) : Type 0 where
    pub class : f.class ≡ g.class
    pub method : f.method ≡ g.method
    pub version : f.pin.version ≡ newest_version (frame_code.classes_at_birth w.job w.turns trace core.classes g) g.class
    pub code : Some f.pin.code ≡ frame_code.code w.job w.turns trace core.classes g
    pub monitor : f.pin.monitor ≡ g.pin.monitor
    pub pc : f.pc ≡ g.pc
    pub locals : f.locals ≡ g.locals
    pub stack : f.stack ≡ g.stack
    pub announced : f.announced ≡ g.announced

  abbrev pub EntryStands : StackEntry MachinePin → StackFrame → Type 0
  EntryStands (Java f) (Java g) = FrameStands f g
  EntryStands (Init class) (Init other) = class ≡ other
  EntryStands (Java f) (Init other) = ⊥
  EntryStands (Init class) (Java g) = ⊥

  pub record ThreadStands (t : ThreadParts) (u : cores.Thread) : Type 0 where
    pub object : t.object ≡ u.object
    pub state : t.state ≡ u.state
    pub activity : t.activity ≡ u.activity
    pub frames : AllZip EntryStands t.frames u.frames

  pub record BaseStands (p : BaseParts) : Type 0 where
    pub heap : p.heap ≡ core.heap
    pub monitors : (object : ObjNo) → state_of p.monitors object ≡ monitor_at core object
    pub threads : AllZip ThreadStands p.threads core.threads
    pub output : p.output ≡ core.output

  -- ---- classes

  pub record JavaStands (p : JavaParts) : Type 0 where
    pub base : BaseStands p.base
    pub classes : p.classes ≡ linked w.job w.turns trace core.classes
    pub entered : p.entered ≡ map (λ c. c.entered) core.classes
    pub kept : p.kept ≡ map (λ c. left w.job w.turns c.name trace) core.classes
    pub statics : (field : FieldNo) → p.statics field ≡ static_value core p.classes field
    pub failures : (name : Name) → p.failures name ≡ failure_of core name
    pub known : p.known ≡ hierarchy w.job
    pub files : p.files ≡ w.job.files

  -- ---- environments

  -- what is said of an environment only as long as it isn't disposed
  pub record LiveStands (env : EnvNo) (e : EnvironmentParts) : Type 0 where
    pub capabilities : (c : Capability) → e.capabilities c ≡ has_capability c (capabilities_of w.job trace env)
    pub hook : e.hook ≡ hook_class w.job trace env
    pub rules : e.rules ≡ rules_of trace env
    pub pops : (t : ThreadNo) (n : ℕ) → e.pops t n ≡ asks_living trace core env t n

  pub record EnvironmentStands (env : EnvNo) (e : EnvironmentParts) : Type 0 where
    pub disposed : e.disposed ≡ is_disposed trace env
    pub masks : (kind : EventKind) (scope : Scope) → e.masks kind scope ≡ setting trace env kind scope
    pub tags : (object : ObjNo) → e.tags object ≡ tag trace env object
    pub log : e.log ≡ logs.log w.job trace env
    pub live : e.disposed ≡ false → LiveStands env e

-- ---- all parts, by a state

pub record StandsFor (w : World) (s : State) (p : Parts) : Type 0 where
  pub java : JavaStands w s.trace s.core p.java
  pub phase : p.phase ≡ s.core.phase
  pub death_raised : p.death_raised ≡ s.core.death_raised
  pub queues : (actor : Actor) → p.queues actor ≡ queue_of s.core actor
  pub scripts : p.scripts ≡ s.core.scripts
  pub environment_count : length p.environments ≡ length w.job.agents
  pub environments : (env : EnvNo) (e : EnvironmentParts) → at_number p.environments env.0 ≡ Some e → EnvironmentStands w s.trace s.core env e
  pub transformers : p.transformers ≡ added s.trace
  pub breakpoints : (l : Location) → p.breakpoints l ≡ has_breakpoint s.trace (place_named p.java.classes l)
  pub watches : (field : FieldNo) (kind : EventKind) → p.watches field kind ≡ is_watched s.trace (name_of_field p.java.classes field) kind
  pub suspended : (t : ThreadNo) → p.suspended t ≡ is_suspended s.trace t
  pub steps : p.steps ≡ s.steps
  pub main : p.main ≡ w.job.main
  -- but for the slice, of which a world knows nothing
  pub limits : record p.limits { slice = 0 } ≡ record w.job.limits { slice = 0 }
  pub donors : p.donors ≡ w.job.donors
  pub agents : p.agents ≡ w.job.agents

-- ---- machines

-- the parts of a machine stand for the state after a schedule, which it keeps and which can be run
pub record MachineStands (w : World) (schedule : List Actor) (p : Parts) : Type 0 where
  pub parts : StandsFor w (replay.state w schedule) p
  pub stored : p.schedule ≡ runs_of schedule
  pub can_run : replay.CanRun w schedule
