-- Worked rows with transformers: what one changes, the order of several, and what they break.
use Rattle.std.specs.Prelude.{ℕ, pos, List, [], ◌∷◌, ◌++◌, None, true, false, codes, replicate}
use Rattle.ti_ids.specs.declared.actor.Actor.{Actor}
use Rattle.ti_ids.specs.declared.actor.Actor.TheVariants.{Vm}
use Rattle.ti_ids.specs.declared.actor.End.TheVariants.{Dead}
use Rattle.ti_codes.specs.declared.capability.Capability.TheVariants as capabilities
use Rattle.ti_codes.specs.declared.event.EventKind.TheVariants as kinds
use Rattle.agent_types.specs.declared.agent.Agent as agent_type
use Rattle.agent_types.specs.declared.agent.AgentKind.TheVariants as agent_kinds
use Rattle.agent_types.specs.declared.agent.AgentKind.TheVariants.{Native}
use Rattle.agent_types.specs.declared.rule.Edit.TheVariants.{Constant}
use Rattle.agent_types.specs.declared.call.Call.TheVariants.{AddCapabilities, SetEventNotificationMode, SetBreakpoint, UseRules, RetransformClasses, AddTransformer, GetStackTrace}
use Rattle.machine_state.specs.Jobs.{Job}
use Rattle.machine_steps.specs.World.{World}
use Rattle.machine_rows.specs.Rows.{job_of, world_of, thread, IsRow}
use Rattle.machine_rows.specs.AgentRows.{loop_file}

-- a job with these agents
abbrev pub with_agents : List agent_type.Agent → Job → World
with_agents agents job = world_of (record job { agents = agents })

abbrev pub loop_job : Job
loop_job = job_of (codes "Loop") (record { name = codes "Loop"; bytes = loop_file } ∷ []) 1000

-- ---- hook changes constant

abbrev pub hooked_1 : agent_type.Agent
hooked_1 = record {
  name = codes "nine";
  kind = Native;
  sets = codes "nine" ∷ codes "plain" ∷ [];
  rules = record { set = codes "nine"; class = codes "Loop"; edit = Constant (codes "f") (codes "()V") (pos 7) (pos 9) } ∷ [];
  load = SetEventNotificationMode true 54 None ∷ UseRules (codes "nine") ∷ [];
  script = [];
  callbacks = [];
}

abbrev pub hooked : World
hooked = with_agents (hooked_1 ∷ []) loop_job

abbrev pub hooked_schedule : List Actor
hooked_schedule = replicate 4 Vm ++ replicate 18 (thread 1) ++ replicate 2 Vm

abbrev pub hooked_text : List ℕ
hooked_text = codes "report 1\nprofile 1\nmain Loop\nschedule v:4 t1:18 v:2\nsteps 24\nend dead\nthread 1 ended\noutput 4\n9\n9\n\nagents 1\nagent nine 3\n0 SetEventNotificationMode 0\n1 UseRules 0\n5 ClassFileLoadHook Loop nine 1/1 changed\n"

abbrev pub HookChangesConstant : Type 0
HookChangesConstant = IsRow hooked hooked_schedule Dead hooked_text

-- ---- incapable result stays

abbrev pub incapable_1 : agent_type.Agent
incapable_1 = record {
  name = codes "first";
  kind = Native;
  sets = codes "nine" ∷ codes "plain" ∷ [];
  rules = record { set = codes "nine"; class = codes "Loop"; edit = Constant (codes "f") (codes "()V") (pos 7) (pos 9) } ∷ [];
  load = SetEventNotificationMode true 54 None ∷ SetEventNotificationMode true 56 None ∷ UseRules (codes "nine") ∷ [];
  script = [];
  callbacks = record { event = kinds.ClassPrepare; class = None; thread = None; calls = UseRules (codes "plain") ∷ [] } ∷ [];
}

abbrev pub incapable_2 : agent_type.Agent
incapable_2 = record {
  name = codes "second";
  kind = Native;
  sets = [];
  rules = [];
  load = AddCapabilities (capabilities.Retransform ∷ []) ∷ SetEventNotificationMode true 56 None ∷ [];
  script = [];
  callbacks = record { event = kinds.ClassPrepare; class = None; thread = None; calls = RetransformClasses (codes "Loop" ∷ []) ∷ [] } ∷ [];
}

abbrev pub incapable : World
incapable = with_agents (incapable_1 ∷ incapable_2 ∷ []) loop_job

abbrev pub incapable_schedule : List Actor
incapable_schedule = replicate 7 Vm ++ replicate 20 (thread 1) ++ replicate 2 Vm

abbrev pub incapable_text : List ℕ
incapable_text = codes "report 1\nprofile 1\nmain Loop\nschedule v:7 t1:20 v:2\nsteps 29\nend dead\nthread 1 ended\noutput 4\n9\n9\n\nagents 2\nagent first 6\n0 SetEventNotificationMode 0\n1 SetEventNotificationMode 0\n2 UseRules 0\n8 ClassFileLoadHook Loop nine 1/1 changed\n9 ClassPrepare 1 Loop\n10 UseRules 0\nagent second 4\n3 AddCapabilities 0\n4 SetEventNotificationMode 0\n9 ClassPrepare 1 Loop\n11 RetransformClasses 0\n"

abbrev pub IncapableResultStays : Type 0
IncapableResultStays = IsRow incapable incapable_schedule Dead incapable_text

-- ---- obsolete though equal bytes

abbrev pub obsolete_1 : agent_type.Agent
obsolete_1 = record {
  name = codes "one";
  kind = Native;
  sets = codes "nine" ∷ codes "plain" ∷ [];
  rules = record { set = codes "nine"; class = codes "Loop"; edit = Constant (codes "f") (codes "()V") (pos 7) (pos 9) } ∷ [];
  load = AddCapabilities (capabilities.Retransform ∷ capabilities.Breakpoint ∷ []) ∷ SetEventNotificationMode true 54 None ∷ SetEventNotificationMode true 56 None ∷ SetEventNotificationMode true 62 None ∷ [];
  script = [];
  callbacks = record { event = kinds.ClassPrepare; class = None; thread = None; calls = SetBreakpoint (codes "Loop") (codes "f") (codes "()V") 0 ∷ [] } ∷ record { event = kinds.Breakpoint; class = None; thread = None; calls = UseRules (codes "nine") ∷ RetransformClasses (codes "Loop" ∷ []) ∷ UseRules (codes "plain") ∷ RetransformClasses (codes "Loop" ∷ []) ∷ GetStackTrace 0 ∷ [] } ∷ [];
}

abbrev pub obsolete : World
obsolete = with_agents (obsolete_1 ∷ []) loop_job

abbrev pub obsolete_schedule : List Actor
obsolete_schedule = replicate 6 Vm ++ replicate 25 (thread 1) ++ replicate 2 Vm

abbrev pub obsolete_text : List ℕ
obsolete_text = codes "report 1\nprofile 1\nmain Loop\nschedule v:6 t1:25 v:2\nsteps 33\nend dead\nthread 1 ended\noutput 4\n7\n7\n\nagents 1\nagent one 15\n0 AddCapabilities 0\n1 SetEventNotificationMode 0\n2 SetEventNotificationMode 0\n3 SetEventNotificationMode 0\n7 ClassFileLoadHook Loop - 1/1 kept\n8 ClassPrepare 1 Loop\n9 SetBreakpoint 0\n14 Breakpoint 1 Loop.f()V@0\n15 UseRules 0\n16 ClassFileLoadHook Loop nine 1/1 changed\n16 RetransformClasses 0\n17 UseRules 0\n18 ClassFileLoadHook Loop plain 1/1 kept\n18 RetransformClasses 0\n19 GetStackTrace 0 2 Loop.f()V@0! Loop.main([Ljava/lang/String;)V@0\n"

abbrev pub ObsoleteThoughEqualBytes : Type 0
ObsoleteThoughEqualBytes = IsRow obsolete obsolete_schedule Dead obsolete_text

-- ---- order of four groups

abbrev pub groups_1 : agent_type.Agent
groups_1 = record {
  name = codes "cn";
  kind = Native;
  sets = codes "plain" ∷ [];
  rules = [];
  load = AddCapabilities (capabilities.Retransform ∷ []) ∷ SetEventNotificationMode true 54 None ∷ UseRules (codes "plain") ∷ [];
  script = [];
  callbacks = [];
}

abbrev pub groups_2 : agent_type.Agent
groups_2 = record {
  name = codes "cj";
  kind = agent_kinds.Java;
  sets = codes "plain" ∷ [];
  rules = [];
  load = AddTransformer (codes "plain") true ∷ [];
  script = [];
  callbacks = [];
}

abbrev pub groups_3 : agent_type.Agent
groups_3 = record {
  name = codes "in";
  kind = Native;
  sets = codes "plain" ∷ [];
  rules = [];
  load = SetEventNotificationMode true 54 None ∷ UseRules (codes "plain") ∷ [];
  script = [];
  callbacks = [];
}

abbrev pub groups_4 : agent_type.Agent
groups_4 = record {
  name = codes "ij";
  kind = agent_kinds.Java;
  sets = codes "plain" ∷ [];
  rules = [];
  load = AddTransformer (codes "plain") false ∷ [];
  script = [];
  callbacks = [];
}

abbrev pub groups : World
groups = with_agents (groups_1 ∷ groups_2 ∷ groups_3 ∷ groups_4 ∷ []) loop_job

abbrev pub groups_schedule : List Actor
groups_schedule = replicate 9 Vm ++ replicate 18 (thread 1) ++ replicate 2 Vm

abbrev pub groups_text : List ℕ
groups_text = codes "report 1\nprofile 1\nmain Loop\nschedule v:9 t1:18 v:2\nsteps 29\nend dead\nthread 1 ended\noutput 4\n7\n7\n\nagents 4\nagent cn 4\n0 AddCapabilities 0\n1 SetEventNotificationMode 0\n2 UseRules 0\n10 ClassFileLoadHook Loop plain 4/4 kept\nagent cj 2\n3 AddTransformer 0\n10 Transform Loop plain 3/4 kept\nagent in 3\n4 SetEventNotificationMode 0\n5 UseRules 0\n10 ClassFileLoadHook Loop plain 2/4 kept\nagent ij 2\n6 AddTransformer 0\n10 Transform Loop plain 1/4 kept\n"

abbrev pub OrderOfFourGroups : Type 0
OrderOfFourGroups = IsRow groups groups_schedule Dead groups_text
