-- Worked rows with a hook that breaks a class, and one that never rests.
use Rattle.std.specs.Prelude.{ℕ, List, [], ◌∷◌, ◌++◌, Option, Some, None, true, codes, replicate, bytes_eq, if◌then◌else◌}
use Rattle.ti_ids.specs.declared.number.EnvNo.{EnvNo}
use Rattle.ti_ids.specs.declared.actor.Actor.{Actor}
use Rattle.ti_ids.specs.declared.actor.Actor.TheVariants.{Vm}
use Rattle.ti_ids.specs.declared.actor.End.TheVariants.{Dead, StepLimit}
use Rattle.ti_codes.specs.declared.capability.Capability.TheVariants as capabilities
use Rattle.ti_codes.specs.declared.event.EventKind.TheVariants as kinds
use Rattle.jv_names.specs.Names.{Name}
use Rattle.agent_types.specs.declared.agent.Agent as agent_type
use Rattle.agent_types.specs.declared.agent.AgentKind.TheVariants.{Native}
use Rattle.agent_types.specs.declared.rule.Edit.TheVariants.{Constant, File}
use Rattle.agent_types.specs.declared.call.Call.TheVariants.{AddCapabilities, SetEventNotificationMode, SetBreakpoint, UseRules, RetransformClasses, AddTransformer, GetStackTrace}
use Rattle.machine_state.specs.Jobs.{Job}
use Rattle.machine_steps.specs.World.{World}
use Rattle.machine_rows.specs.Rows.{thread, IsRow}
use Rattle.machine_rows.specs.LimitRows.{with_steps}
use Rattle.machine_rows.specs.ChainRows.{with_agents, loop_job}

-- ---- hook breaks the class

abbrev pub broken_1 : agent_type.Agent
broken_1 = record {
  name = codes "bad";
  kind = Native;
  sets = codes "bad" ∷ [];
  rules = record { set = codes "bad"; class = codes "Loop"; edit = File 1 } ∷ [];
  load = SetEventNotificationMode true 54 None ∷ UseRules (codes "bad") ∷ [];
  script = [];
  callbacks = [];
}

-- the first donor takes the place of the class
abbrev pub broken_job : Job
broken_job = record loop_job { donors = (0 ∷ 1 ∷ 2 ∷ []) ∷ [] }

abbrev pub broken : World
broken = with_agents (broken_1 ∷ []) broken_job

abbrev pub broken_schedule : List Actor
broken_schedule = replicate 4 Vm ++ replicate 3 (thread 1) ++ replicate 2 Vm

abbrev pub broken_text : List ℕ
broken_text = codes "report 1\nprofile 1\nmain Loop\nschedule v:4 t1:3 v:2\nsteps 9\nend dead\nthread 1 uncaught java/lang/ClassFormatError\noutput 0\n\nagents 1\nagent bad 3\n0 SetEventNotificationMode 0\n1 UseRules 0\n5 ClassFileLoadHook Loop bad 1/1 changed\n"

abbrev pub HookBreaksTheClass : Type 0
HookBreaksTheClass = IsRow broken broken_schedule Dead broken_text

-- ---- restless agent

abbrev pub restless_1 : agent_type.Agent
restless_1 = record {
  name = codes "one";
  kind = Native;
  sets = [];
  rules = [];
  load = AddCapabilities (capabilities.Retransform ∷ []) ∷ SetEventNotificationMode true 54 None ∷ [];
  script = [];
  callbacks = record { event = kinds.ClassFileLoadHook; class = None; thread = None; calls = RetransformClasses (codes "Loop" ∷ []) ∷ [] } ∷ [];
}

abbrev pub restless : World
restless = with_agents (restless_1 ∷ []) (with_steps 20 loop_job)

abbrev pub restless_schedule : List Actor
restless_schedule = replicate 4 Vm ++ replicate 16 (thread 1)

abbrev pub restless_text : List ℕ
restless_text = codes "report 1\nprofile 1\nmain Loop\nschedule v:4 t1:16\nsteps 20\nend step-limit\nthread 1 live\noutput 0\n\nagents 1\nagent one 31\n0 AddCapabilities 0\n1 SetEventNotificationMode 0\n5 ClassFileLoadHook Loop - 1/1 kept\n6 ClassFileLoadHook Loop - 1/1 kept\n6 RetransformClasses 0\n7 ClassFileLoadHook Loop - 1/1 kept\n7 RetransformClasses 0\n8 ClassFileLoadHook Loop - 1/1 kept\n8 RetransformClasses 0\n9 ClassFileLoadHook Loop - 1/1 kept\n9 RetransformClasses 0\n10 ClassFileLoadHook Loop - 1/1 kept\n10 RetransformClasses 0\n11 ClassFileLoadHook Loop - 1/1 kept\n11 RetransformClasses 0\n12 ClassFileLoadHook Loop - 1/1 kept\n12 RetransformClasses 0\n13 ClassFileLoadHook Loop - 1/1 kept\n13 RetransformClasses 0\n14 ClassFileLoadHook Loop - 1/1 kept\n14 RetransformClasses 0\n15 ClassFileLoadHook Loop - 1/1 kept\n15 RetransformClasses 0\n16 ClassFileLoadHook Loop - 1/1 kept\n16 RetransformClasses 0\n17 ClassFileLoadHook Loop - 1/1 kept\n17 RetransformClasses 0\n18 ClassFileLoadHook Loop - 1/1 kept\n18 RetransformClasses 0\n19 ClassFileLoadHook Loop - 1/1 kept\n19 RetransformClasses 0\n"

abbrev pub RestlessAgent : Type 0
RestlessAgent = IsRow restless restless_schedule StepLimit restless_text
