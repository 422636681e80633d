-- What the acts of a thread's step may be besides those of its instructions, as rules.
use Rattle.std.specs.Prelude.{◌≡◌, ℕ, Bool, true, false, List, [], Option, Some, None}
use Rattle.ti_ids.specs.declared.number.ThreadNo.{ThreadNo}
use Rattle.ti_ids.specs.declared.number.ObjNo.{ObjNo}
use Rattle.ti_ids.specs.declared.number.EnvNo.{EnvNo}
use Rattle.ti_ids.specs.declared.number.ClassNo.{ClassNo}
use Rattle.ti_ids.specs.declared.value.Value.{Value}
use Rattle.ti_ids.specs.declared.value.Value.TheVariants as value
use Rattle.ti_ids.specs.declared.actor.Actor.TheVariants as actors
use Rattle.ti_ids.specs.declared.state.InitState.{InitState}
use Rattle.ti_ids.specs.declared.state.InitState.TheVariants as states
use Rattle.jv_names.specs.Names.{Name}
use Rattle.link_versions.specs.Classes.{Class}
use Rattle.monitor_table.specs.Monitors.{has_wait}
use Rattle.transform_chain.specs.Turns.{fold_from}
use Rattle.machine_state.specs.Core.{Core, frames_at, monitor_at}
use Rattle.machine_state.specs.Linked.{tree_of}
use Rattle.machine_state.specs.Chains.{rules_do, chain}
use Rattle.machine_state.specs.Trace.{LoadFailed, Loaded, Turned}
use Rattle.machine_state.specs.Acts.{State, Act, Changes, Notes, PushesInit, SetsClass, EntersInitializer, Fails, TakesBack, AddsClass}
use Rattle.instruction_effect.specs.Arguments.{is_deep}
use Rattle.instruction_effect.proofs.ActRules.{ActRules}
use Rattle.machine_steps.specs.World.{World}
use Rattle.machine_steps.specs.Loading.{next_load, Loads, bytes_given, is_accepted}

-- what waits for actors is put aside: nothing of a thread's acts goes by it
abbrev pub seen : Core → Core
seen core = record core { queues = [] }

-- The class of this name is loaded now, and what the active transformers make of its file is accepted.
pub record IsLoaded (w : World) (classes : List Class) (s : State) (t : ThreadNo) (name : Name) : Type 0 where
  pub wanted : Name
  pub next : next_load w s.core classes wanted ≡ Loads name
  pub accepted :
      let bytes = bytes_given w.job name in
      is_accepted name (tree_of bytes) (tree_of (fold_from name 1 (chain w.job (rules_do w.turns) s.trace (actors.Thread t)) bytes).made) ≡ true

pub record StepRules (w : World) (classes : List Class) (t : ThreadNo) (Ok : Core → Act → Type 0) (Holds : Core → Value → Type 0) : Type 0 where
  pub acts : ActRules classes t Ok Holds
  pub pushes_init : (now : Core) (n : ClassNo) → is_deep (frames_at now t) 0 ≡ false → Ok now (Changes (PushesInit t n))
  pub sets_class : (now : Core) (n : ClassNo) (state : InitState) → Ok now (Changes (SetsClass n state))
  pub enters_initializer : (now : Core) (n : ClassNo) → Ok now (Changes (EntersInitializer n))
  pub fails : (now : Core) (class error : Name) → Ok now (Changes (Fails class error))
  -- the thread was notified, and nobody owns the monitor
  pub takes_back : (now : Core) (o : ObjNo) → has_wait t (monitor_at now o).notified ≡ true → (monitor_at now o).owner ≡ None
      → Holds now (value.Ref (Some o)) → Ok now (Changes (TakesBack o t))
  pub failed : (now : Core) (class error : Name) → Ok now (Notes (LoadFailed class error))
  pub turned : (now : Core) (env : EnvNo) (class : Name) (set : Option Name) (k n : ℕ) (has_changed : Bool)
      → Ok now (Notes (Turned env class set k n has_changed))
  -- a load that is accepted, in this state of the step
  pub loaded : (now : Core) (s : State) (name : Name) → IsLoaded w classes s t name → Ok now (Notes (Loaded name (bytes_given w.job name)))
  pub adds_loaded : (now : Core) (s : State) (name : Name) → IsLoaded w classes s t name → Ok now (Changes (AddsClass name states.Loaded))
