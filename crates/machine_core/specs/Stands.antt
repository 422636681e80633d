-- What the parts of a machine stand for.
use Rattle.std.specs.Prelude.{◌≡◌, ◌≤◌, ◌+◌, List, [], length, reverse, Option, Some, None, option_map, is_some, Bool, true}
use Rattle.ti_ids.specs.declared.state.InitState.{InitState}
use Rattle.ti_codes.specs.declared.phase.Phase.{Phase}
use Rattle.ti_codes.specs.declared.phase.Phase.TheVariants as phases
use Rattle.machine_model.specs.declared.ThreadRule.{ThreadRule}
use Rattle.machine_model.specs.Jobs.{Job, AreInRange, file_of, main_tree}
use Rattle.machine_model.specs.Core as core
use Rattle.machine_model.specs.Core.{Static, class_state}
use Rattle.machine_model.specs.Trace.{Entry, tree_at, versions, last_of}
use Rattle.machine_model.specs.Rules.{State}
use Rattle.machine_model.specs.Changes.{first_statics, main_name, main_descriptor}
use Rattle.machine_core.specs.declared.frame.JavaFrame.{JavaFrame}
use Rattle.machine_core.specs.declared.frame.Frame.{Frame}
use Rattle.machine_core.specs.declared.frame.Frame.TheVariants.{Init, Java}
use Rattle.machine_core.specs.declared.thread.Thread.{Thread}
use Rattle.machine_core.specs.declared.parts.Parts.{Parts}
use Rattle.std.specs.List.{AllZip}

-- what a job's type keeps, as far as the machine needs it
pub record IsKnown (job : Job) : Type 0 where
  pub tree : is_some (main_tree job) ≡ true
  pub no_agents : job.agents ≡ []
  pub in_range : AreInRange job.limits

-- a frame of main: it runs the version that was newest at its birth, and that is the file's
pub record JavaStands (job : Job) (trace : List Entry) (f : JavaFrame) (g : core.JavaFrame) : Type 0 where
  pub pc : f.pc ≡ g.pc
  pub locals : f.locals.items ≡ g.locals
  pub stack : reverse f.stack.items ≡ g.stack
  pub announced : f.announced ≡ g.announced
  pub born : g.birth ≤ length trace
  pub method : g.method ≡ main_name
  pub descriptor : g.descriptor ≡ main_descriptor
  pub tree : tree_at trace g ≡ main_tree job

-- the main class's initialization is under way only once the class is loaded
abbrev pub FrameStands : Job → List Entry → Bool → Frame → core.Frame → Type 0
FrameStands job trace loaded (Java f) (core.Java g) = JavaStands job trace f g
FrameStands job trace loaded Init (core.Init name place) = (name ≡ job.main) × (loaded ≡ true)
FrameStands job trace loaded (Java f) (core.Init name place) = ⊥
FrameStands job trace loaded Init (core.Java g) = ⊥

pub record ThreadStands (job : Job) (trace : List Entry) (loaded : Bool) (t : Thread) (u : core.Thread) : Type 0 where
  pub state : t.state ≡ u.state
  pub frames : AllZip (FrameStands job trace loaded) (reverse t.frames.items) u.frames

-- once the main class is loaded, its newest version is the file
abbrev pub IsLoaded : Job → List Entry → Option InitState → Type 0
IsLoaded job trace None = Unit {0}
IsLoaded job trace (Some state) = last_of (versions trace job.main) ≡ file_of job job.main

-- System.out is there from the first step on
abbrev pub statics_in : Phase → List Static
statics_in phases.OnLoad = []
statics_in phases.Primordial = []
statics_in phases.Start = first_statics
statics_in phases.Live = first_statics
statics_in phases.Dead = first_statics

pub record StandsFor (job : Job) (p : Parts) (s : State) : Type 0 where
  pub known : IsKnown job
  pub phase : p.phase ≡ s.core.phase
  pub died : p.died ≡ s.core.died
  pub threads : AllZip (ThreadStands job s.trace (is_some p.class)) p.threads.items s.core.threads
  pub crowd : length s.core.threads ≤ 64
  pub class : p.class ≡ class_state s.core job.main
  pub loaded : IsLoaded job s.trace p.class
  pub statics : s.core.statics ≡ statics_in s.core.phase
  pub objects : p.objects ≡ length s.core.heap
  -- a step makes one object at most
  pub few_objects : length s.core.heap ≤ s.steps + 3
  pub output : p.output.items ≡ s.core.output

-- the rule of the thread that is ready
abbrev pub RuleIs : Option ThreadRule → Option (core.Thread × ThreadRule) → Type 0
RuleIs rule ready = option_map (λ r. r.1) ready ≡ rule
