-- The transformers that are active, in the order of their turns, as the trace has them (`java.lang.instrument`, `ClassFileTransformer`;
-- JVM TI, "RetransformClasses").
use Rattle.std.specs.Prelude.{ℕ, ◌+◌, Bool, true, false, List, [], ◌∷◌, ◌++◌, map, Option, Some, None, if◌then◌else◌}
use Rattle.std.specs.Option.{option_and_then}
use Rattle.ti_ids.specs.declared.number.ThreadNo.{ThreadNo}
use Rattle.ti_ids.specs.declared.number.EnvNo.{EnvNo}
use Rattle.ti_ids.specs.declared.actor.Actor.{Actor}
use Rattle.ti_ids.specs.declared.actor.Actor.TheVariants.{Vm, Thread, Agent}
use Rattle.ti_codes.specs.declared.event.EventKind.TheVariants as kinds
use Rattle.jv_names.specs.Names.{Name}
use Rattle.event_mask.specs.declared.hook.HookClass.{HookClass}
use Rattle.event_mask.specs.declared.hook.HookClass.TheVariants.{Unset, Capable, Incapable}
use Rattle.transform_chain.specs.declared.active.Active.{Active}
use Rattle.transform_chain.specs.declared.registered.Registered.{Registered}
use Rattle.transform_chain.specs.Groups.{java_group, hook_group, in_groups}
use Rattle.transform_chain.specs.Turns.{Does}
use Rattle.transform_chain.specs.Registrations as registrations
use Rattle.transform_chain.specs.Registrations.{Adds, Removes, Ends, registered}
use Rattle.agent_types.specs.declared.agent.Agent as agent_type
use Rattle.machine_state.specs.Jobs.{Job}
use Rattle.machine_state.specs.Trace.{Record, Trace, TransformerAdded, TransformerRemoved, Disposed}
use Rattle.machine_state.specs.Environments.{changes_in, mask, hook_class, rules_of}

-- What the rules of a set of an environment make of a class's bytes, or nothing.
abbrev pub Turns : Type 0
Turns = EnvNo → Name → Does

-- without a set in force nothing is made
abbrev pub rules_do : Turns → EnvNo → Option Name → Does
rules_do turns env set class bytes = option_and_then (λ name. turns env name class bytes) set

-- ---- transformers of `java.lang.instrument`, in the order in which they were added

abbrev pub registration_change : Record → Option registrations.Change
registration_change (TransformerAdded env set capable) = Some (Adds (record { env = env; set = set; capable = capable }))
registration_change (TransformerRemoved env set) = Some (Removes env set)
registration_change (Disposed env) = Some (Ends env)
registration_change _ = None

abbrev pub added : Trace → List Registered
added trace = registered (changes_in registration_change trace)

abbrev pub java_turn : {T : Type 0} → (EnvNo → Option Name → T) → Registered → Active T
java_turn by r = record { group = java_group r.capable; env = r.env; set = Some r.set; transformer = by r.env (Some r.set) }

-- ---- hooks: environments of which ClassFileLoadHook is on

-- the thread that acts, if one does
abbrev pub acting : Actor → Option ThreadNo
acting Vm = None
acting (Thread t) = Some t
acting (Agent env) = None

abbrev pub hook_turn : {T : Type 0} → (EnvNo → Option Name → T) → Trace → EnvNo → Bool → Active T
hook_turn by trace env capable =
    let set = rules_of trace env in record { group = hook_group capable; env = env; set = set; transformer = by env set }

-- that of a hook of this class, where it has one
abbrev pub hook_by : {T : Type 0} → (EnvNo → Option Name → T) → Trace → EnvNo → HookClass → List (Active T)
hook_by by trace env Unset = []
hook_by by trace env Capable = hook_turn by trace env true ∷ []
hook_by by trace env Incapable = hook_turn by trace env false ∷ []

-- Each has a transformer of this set of this environment: what its rules make of a class, or anything else that says which rules they are.
module _ {T : Type 0} (job : Job) (by : EnvNo → Option Name → T) (trace : Trace) (actor : Actor) where
  -- that of an environment, where the event is on for the actor
  abbrev pub hooks_of : EnvNo → List (Active T)
  hooks_of env = if mask trace env kinds.ClassFileLoadHook (acting actor) then hook_by by trace env (hook_class job trace env) else []

  -- those of so many environments, from this number on
  abbrev pub hooks_from : ℕ → List agent_type.Agent → List (Active T)
  hooks_from n [] = []
  hooks_from n (agent ∷ agents) = hooks_of (record { 0 = n }) ++ hooks_from (n + 1) agents

  -- all of them, by groups
  abbrev pub chain : List (Active T)
  chain = in_groups (map (java_turn by) (added trace) ++ hooks_from 1 job.agents)
