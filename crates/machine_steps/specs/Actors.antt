-- The steps of the machine itself and of agents, and which actor may make the next step.
use Rattle.std.specs.Prelude.{codes, ◌+◌, Bool, true, false, not, ◌&&◌, nat_le, List, [], ◌∷◌, ◌++◌, map, length, position, Option, Some, None, option_map, is_some, if◌then◌else◌}
use Rattle.std.specs.List.{list_all}
use Rattle.std.specs.Option.{option_map_or, option_or}
use Rattle.ti_ids.specs.Maybe.{◌>>=◌}
use Rattle.ti_ids.specs.declared.number.EnvNo.{EnvNo}
use Rattle.ti_ids.specs.declared.number.FieldNo.{FieldNo}
use Rattle.ti_ids.specs.declared.number.ClassNo.{ClassNo}
use Rattle.ti_ids.specs.declared.number.ThreadNo.{ThreadNo}
use Rattle.ti_ids.specs.declared.actor.Actor.{Actor}
use Rattle.ti_ids.specs.declared.actor.Actor.TheVariants.{Vm, Thread, Agent}
use Rattle.ti_ids.specs.declared.value.Value.TheVariants as value
use Rattle.ti_codes.specs.declared.phase.Phase.{Phase}
use Rattle.ti_codes.specs.declared.phase.Phase.TheVariants as phases
use Rattle.jv_names.specs.Names.{Name}
use Rattle.base_set.specs.BaseSet.{base_set, has_name}
use Rattle.java_heap.specs.Objects.{fresh}
use Rattle.java_heap.specs.declared.object.Content.TheVariants.{Fields}
use Rattle.ti_ids.specs.declared.state.InitState.TheVariants as states
use Rattle.agent_types.specs.declared.agent.Agent as agent_type
use Rattle.agent_types.specs.declared.agent.ScriptCall.{ScriptCall}
use Rattle.machine_state.specs.Jobs.{agent_at, at_number}
use Rattle.machine_state.specs.Core.{Core, has_ended, script_place}
use Rattle.machine_state.specs.Trace.{Started, Inited, Died, VMStart, VMInit, VMDeath}
use Rattle.machine_state.specs.Environments.{is_disposed}
use Rattle.machine_state.specs.Logs.{log}
use Rattle.machine_state.specs.Acts.{State, Act, Changes, Notes, Makes, PutsStatic, MakesThread, AddsClass, SetsPhase, MarksDeath, raises}
use Rattle.machine_steps.specs.World.{World}
use Rattle.machine_steps.specs.Sites.{classes_now}
use Rattle.machine_steps.specs.Calls.{NextCall, has_calls, queued, scripted, queued_call, performs}
use Rattle.machine_steps.specs.ThreadRules.{ThreadRule, Performs, is_live, next_rule}
use Rattle.machine_steps.specs.Threads.{thread_acts}

-- ---- the machine's own steps

-- the number of a base class: its place in the base set, at_number from 1
abbrev pub base_class : Name → ClassNo
base_class name = record { 0 = option_map_or (λ place. place + 1) (position (has_name name) base_set) 0 }

-- each base class is there, linked and initialized
abbrev pub adds_base : List Act
adds_base = map (λ c. Changes (AddsClass c.name states.Initialized)) base_set

-- object 1 is `System.out`
abbrev pub system_out : FieldNo
system_out = record { class = base_class (codes "java/lang/System"); place = 0 }

abbrev pub makes_instance : Name → Act
makes_instance name = Changes (Makes (fresh (base_class name) (Fields [])))

-- Object 2 is the error for a full heap, and object 3 the main Thread. All three take 6 heap words.
abbrev pub makes_first : List Act
makes_first =
    makes_instance (codes "java/io/PrintStream") ∷ makes_instance (codes "java/lang/OutOfMemoryError") ∷ makes_instance (codes "java/lang/Thread")
    ∷ Changes (PutsStatic system_out (value.Ref (Some (record { 0 = 1 })))) ∷ []

abbrev pub starts : List Act
starts = adds_base ++ makes_first ++ Changes (SetsPhase phases.Start) ∷ Notes Started ∷ raises VMStart ∷ []

abbrev pub inits : List Act
inits = Changes (SetsPhase phases.Live) ∷ Changes (MakesThread (record { 0 = 3 })) ∷ Notes Inited ∷ raises (VMInit (record { 0 = 1 })) ∷ []

-- VMDeath is raised once every thread has ended, and then the machine is dead
abbrev pub live_acts : Bool → Bool → Option (List Act)
live_acts true all_ended = Some (Changes (SetsPhase phases.Dead) ∷ [])
live_acts false true = Some (Changes MarksDeath ∷ Notes Died ∷ raises VMDeath ∷ [])
live_acts false false = None

abbrev pub phase_acts : Core → Phase → Option (List Act)
phase_acts core phases.OnLoad = Some starts
phase_acts core phases.Primordial = None
phase_acts core phases.Start = Some inits
phase_acts core phases.Live = live_acts core.death_raised (list_all has_ended core.threads)
phase_acts core phases.Dead = None

-- ---- the call that an actor's next step performs, if it performs one

-- of a thread whose next step goes by this rule
abbrev pub call_of_rule : ThreadNo → ThreadRule → Option NextCall
call_of_rule t (Performs p) = Some (queued (Thread t) p)
call_of_rule t _ = None

-- An agent has steps in phase Live, before VMDeath, while no call waits for the machine and its environment isn't disposed.
abbrev pub may_script : State → EnvNo → Bool
may_script s env = is_live s.core.phase && not s.core.death_raised && not (has_calls s.core Vm) && not (is_disposed s.trace env)

-- the next call of its script, once its log has so many lines
abbrev pub when_logged : World → State → EnvNo → ScriptCall → Option NextCall
when_logged w s env c = if nat_le c.at (length (log w.job s.trace env)) then Some (scripted env c.call) else None

abbrev pub script_call : World → State → EnvNo → agent_type.Agent → Option NextCall
script_call w s env agent = at_number agent.script (script_place s.core env + 1) >>= when_logged w s env

-- one that waits comes first
abbrev pub agent_call : World → State → EnvNo → agent_type.Agent → Option NextCall
agent_call w s env agent = if may_script s env then option_or (queued_call s.core (Agent env)) (script_call w s env agent) else None

abbrev pub next_call : World → State → Actor → Option NextCall
next_call w s Vm = queued_call s.core Vm
next_call w s (Thread t) = next_rule s t >>= call_of_rule t
next_call w s (Agent env) = agent_at w.job env >>= agent_call w s env

-- ---- the acts of an actor's next step; None where it isn't ready

-- of the machine, where this call waits for it or none does
abbrev pub machine_acts : World → State → Option NextCall → Option (List Act)
machine_acts w s (Some c) = Some (performs w s Vm c)
machine_acts w s None = phase_acts s.core s.core.phase

abbrev pub next_acts : World → State → Actor → Option (List Act)
next_acts w s Vm = machine_acts w s (next_call w s Vm)
next_acts w s (Thread t) = thread_acts w s (classes_now w s) t
next_acts w s (Agent env) = option_map (performs w s (Agent env)) (next_call w s (Agent env))

abbrev pub is_ready : World → State → Actor → Bool
is_ready w s actor = is_some (next_acts w s actor)
