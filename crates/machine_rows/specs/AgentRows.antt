-- Worked rows with an agent.
use Rattle.std.specs.Prelude.{ℕ, pos, List, [], ◌∷◌, ◌++◌, Option, Some, None, true, false, codes, replicate, slice_set, bytes_eq, if◌then◌else◌}
use Rattle.ti_ids.specs.declared.number.EnvNo.{EnvNo}
use Rattle.ti_ids.specs.declared.actor.Actor.{Actor}
use Rattle.ti_ids.specs.declared.actor.Actor.TheVariants.{Vm}
use Rattle.ti_ids.specs.declared.actor.End.TheVariants.{Dead}
use Rattle.ti_codes.specs.declared.capability.Capability.TheVariants as capabilities
use Rattle.ti_codes.specs.declared.event.EventKind.TheVariants as kinds
use Rattle.jv_names.specs.Names.{Name}
use Rattle.agent_types.specs.declared.agent.Agent as agent_type
use Rattle.agent_types.specs.declared.agent.AgentKind.TheVariants.{Native}
use Rattle.agent_types.specs.declared.rule.Edit.TheVariants.{Constant}
use Rattle.agent_types.specs.declared.call.Call.TheVariants.{AddCapabilities, SetEventNotificationMode, SetBreakpoint, UseRules, RetransformClasses}
use Rattle.machine_state.specs.Jobs.{Job}
use Rattle.machine_steps.specs.World.{World}
use Rattle.machine_rows.specs.Rows.{job_of, world_of, thread, IsRow}

-- a job with an agent
abbrev pub with_agent : agent_type.Agent → Job → World
with_agent agent job = world_of (record job { agents = agent ∷ [] })

-- ---- retransform while running

abbrev pub loop_file : List ℕ
loop_file =
    202 ∷ 254 ∷ 186 ∷ 190 ∷ 0 ∷ 0 ∷ 0 ∷ 52 ∷ 0 ∷ 24 ∷ 1 ∷ 0 ∷ 4 ∷ 76 ∷ 111 ∷ 111 ∷ 112 ∷ 7 ∷ 0 ∷ 1 ∷ 1 ∷ 0 ∷ 16 ∷ 106 ∷ 97 ∷ 118 ∷ 97 ∷ 47 ∷ 108 ∷ 97 ∷ 110 ∷ 103 ∷
    47 ∷ 79 ∷ 98 ∷ 106 ∷ 101 ∷ 99 ∷ 116 ∷ 7 ∷ 0 ∷ 3 ∷ 1 ∷ 0 ∷ 4 ∷ 109 ∷ 97 ∷ 105 ∷ 110 ∷ 1 ∷ 0 ∷ 22 ∷ 40 ∷ 91 ∷ 76 ∷ 106 ∷ 97 ∷ 118 ∷ 97 ∷ 47 ∷ 108 ∷ 97 ∷ 110 ∷ 103 ∷
    47 ∷ 83 ∷ 116 ∷ 114 ∷ 105 ∷ 110 ∷ 103 ∷ 59 ∷ 41 ∷ 86 ∷ 1 ∷ 0 ∷ 4 ∷ 67 ∷ 111 ∷ 100 ∷ 101 ∷ 1 ∷ 0 ∷ 1 ∷ 102 ∷ 1 ∷ 0 ∷ 3 ∷ 40 ∷ 41 ∷ 86 ∷ 12 ∷ 0 ∷ 8 ∷ 0 ∷ 9 ∷
    10 ∷ 0 ∷ 2 ∷ 0 ∷ 10 ∷ 1 ∷ 0 ∷ 16 ∷ 106 ∷ 97 ∷ 118 ∷ 97 ∷ 47 ∷ 108 ∷ 97 ∷ 110 ∷ 103 ∷ 47 ∷ 83 ∷ 121 ∷ 115 ∷ 116 ∷ 101 ∷ 109 ∷ 7 ∷ 0 ∷ 12 ∷ 1 ∷ 0 ∷ 3 ∷ 111 ∷ 117 ∷
    116 ∷ 1 ∷ 0 ∷ 21 ∷ 76 ∷ 106 ∷ 97 ∷ 118 ∷ 97 ∷ 47 ∷ 105 ∷ 111 ∷ 47 ∷ 80 ∷ 114 ∷ 105 ∷ 110 ∷ 116 ∷ 83 ∷ 116 ∷ 114 ∷ 101 ∷ 97 ∷ 109 ∷ 59 ∷ 12 ∷ 0 ∷ 14 ∷ 0 ∷ 15 ∷ 9 ∷ 0 ∷
    13 ∷ 0 ∷ 16 ∷ 1 ∷ 0 ∷ 19 ∷ 106 ∷ 97 ∷ 118 ∷ 97 ∷ 47 ∷ 105 ∷ 111 ∷ 47 ∷ 80 ∷ 114 ∷ 105 ∷ 110 ∷ 116 ∷ 83 ∷ 116 ∷ 114 ∷ 101 ∷ 97 ∷ 109 ∷ 7 ∷ 0 ∷ 18 ∷ 1 ∷ 0 ∷ 7 ∷ 112 ∷
    114 ∷ 105 ∷ 110 ∷ 116 ∷ 108 ∷ 110 ∷ 1 ∷ 0 ∷ 4 ∷ 40 ∷ 73 ∷ 41 ∷ 86 ∷ 12 ∷ 0 ∷ 20 ∷ 0 ∷ 21 ∷ 10 ∷ 0 ∷ 19 ∷ 0 ∷ 22 ∷ 0 ∷ 33 ∷ 0 ∷ 2 ∷ 0 ∷ 4 ∷ 0 ∷ 0 ∷ 0 ∷
    0 ∷ 0 ∷ 2 ∷ 0 ∷ 9 ∷ 0 ∷ 5 ∷ 0 ∷ 6 ∷ 0 ∷ 1 ∷ 0 ∷ 7 ∷ 0 ∷ 0 ∷ 0 ∷ 19 ∷ 0 ∷ 0 ∷ 0 ∷ 1 ∷ 0 ∷ 0 ∷ 0 ∷ 7 ∷ 184 ∷ 0 ∷ 11 ∷ 184 ∷ 0 ∷ 11 ∷ 177 ∷
    0 ∷ 0 ∷ 0 ∷ 0 ∷ 0 ∷ 9 ∷ 0 ∷ 8 ∷ 0 ∷ 9 ∷ 0 ∷ 1 ∷ 0 ∷ 7 ∷ 0 ∷ 0 ∷ 0 ∷ 21 ∷ 0 ∷ 2 ∷ 0 ∷ 0 ∷ 0 ∷ 0 ∷ 0 ∷ 9 ∷ 178 ∷ 0 ∷ 17 ∷ 16 ∷ 7 ∷ 182 ∷
    0 ∷ 23 ∷ 177 ∷ 0 ∷ 0 ∷ 0 ∷ 0 ∷ 0 ∷ 0 ∷ []

abbrev pub one : agent_type.Agent
one = record {
  name = codes "one";
  kind = Native;
  sets = codes "nine" ∷ codes "plain" ∷ [];
  rules = record { set = codes "nine"; class = codes "Loop"; edit = Constant (codes "f") (codes "()V") (pos 7) (pos 9) } ∷ [];
  load =
      AddCapabilities (capabilities.Retransform ∷ capabilities.Breakpoint ∷ [])
      ∷ SetEventNotificationMode true 54 None ∷ SetEventNotificationMode true 56 None ∷ SetEventNotificationMode true 62 None ∷ [];
  script = [];
  callbacks =
      record { event = kinds.ClassPrepare; class = None; thread = None; calls = SetBreakpoint (codes "Loop") (codes "f") (codes "()V") 0 ∷ [] }
      ∷ record { event = kinds.Breakpoint; class = None; thread = None; calls = UseRules (codes "nine") ∷ RetransformClasses (codes "Loop" ∷ []) ∷ [] }
      ∷ [];
}

abbrev pub running : World
running = with_agent one (job_of (codes "Loop") (record { name = codes "Loop"; bytes = loop_file } ∷ []) 1000)

abbrev pub running_schedule : List Actor
running_schedule = replicate 6 Vm ++ replicate 22 (thread 1) ++ replicate 2 Vm

abbrev pub running_text : List ℕ
running_text = codes "report 1\nprofile 1\nmain Loop\nschedule v:6 t1:22 v:2\nsteps 30\nend dead\nthread 1 ended\noutput 4\n7\n9\n\nagents 1\nagent one 11\n0 AddCapabilities 0\n1 SetEventNotificationMode 0\n2 SetEventNotificationMode 0\n3 SetEventNotificationMode 0\n7 ClassFileLoadHook Loop - 1/1 kept\n8 ClassPrepare 1 Loop\n9 SetBreakpoint 0\n14 Breakpoint 1 Loop.f()V@0\n15 UseRules 0\n16 ClassFileLoadHook Loop nine 1/1 changed\n16 RetransformClasses 0\n"

abbrev pub RetransformWhileRunning : Type 0
RetransformWhileRunning = IsRow running running_schedule Dead running_text

-- ---- either setting enables

abbrev pub two_file : List ℕ
two_file =
    202 ∷ 254 ∷ 186 ∷ 190 ∷ 0 ∷ 0 ∷ 0 ∷ 52 ∷ 0 ∷ 17 ∷ 1 ∷ 0 ∷ 3 ∷ 84 ∷ 119 ∷ 111 ∷ 7 ∷ 0 ∷ 1 ∷ 1 ∷ 0 ∷ 16 ∷ 106 ∷ 97 ∷ 118 ∷ 97 ∷ 47 ∷ 108 ∷ 97 ∷ 110 ∷ 103 ∷ 47 ∷
    84 ∷ 104 ∷ 114 ∷ 101 ∷ 97 ∷ 100 ∷ 7 ∷ 0 ∷ 3 ∷ 1 ∷ 0 ∷ 6 ∷ 60 ∷ 105 ∷ 110 ∷ 105 ∷ 116 ∷ 62 ∷ 1 ∷ 0 ∷ 3 ∷ 40 ∷ 41 ∷ 86 ∷ 1 ∷ 0 ∷ 4 ∷ 67 ∷ 111 ∷ 100 ∷ 101 ∷ 12 ∷
    0 ∷ 5 ∷ 0 ∷ 6 ∷ 10 ∷ 0 ∷ 4 ∷ 0 ∷ 8 ∷ 1 ∷ 0 ∷ 3 ∷ 114 ∷ 117 ∷ 110 ∷ 1 ∷ 0 ∷ 4 ∷ 109 ∷ 97 ∷ 105 ∷ 110 ∷ 1 ∷ 0 ∷ 22 ∷ 40 ∷ 91 ∷ 76 ∷ 106 ∷ 97 ∷ 118 ∷ 97 ∷
    47 ∷ 108 ∷ 97 ∷ 110 ∷ 103 ∷ 47 ∷ 83 ∷ 116 ∷ 114 ∷ 105 ∷ 110 ∷ 103 ∷ 59 ∷ 41 ∷ 86 ∷ 10 ∷ 0 ∷ 2 ∷ 0 ∷ 8 ∷ 1 ∷ 0 ∷ 5 ∷ 115 ∷ 116 ∷ 97 ∷ 114 ∷ 116 ∷ 12 ∷ 0 ∷ 14 ∷ 0 ∷
    6 ∷ 10 ∷ 0 ∷ 2 ∷ 0 ∷ 15 ∷ 0 ∷ 33 ∷ 0 ∷ 2 ∷ 0 ∷ 4 ∷ 0 ∷ 0 ∷ 0 ∷ 0 ∷ 0 ∷ 3 ∷ 0 ∷ 1 ∷ 0 ∷ 5 ∷ 0 ∷ 6 ∷ 0 ∷ 1 ∷ 0 ∷ 7 ∷ 0 ∷ 0 ∷ 0 ∷ 17 ∷
    0 ∷ 1 ∷ 0 ∷ 1 ∷ 0 ∷ 0 ∷ 0 ∷ 5 ∷ 42 ∷ 183 ∷ 0 ∷ 9 ∷ 177 ∷ 0 ∷ 0 ∷ 0 ∷ 0 ∷ 0 ∷ 1 ∷ 0 ∷ 10 ∷ 0 ∷ 6 ∷ 0 ∷ 1 ∷ 0 ∷ 7 ∷ 0 ∷ 0 ∷ 0 ∷ 13 ∷ 0 ∷
    0 ∷ 0 ∷ 1 ∷ 0 ∷ 0 ∷ 0 ∷ 1 ∷ 177 ∷ 0 ∷ 0 ∷ 0 ∷ 0 ∷ 0 ∷ 9 ∷ 0 ∷ 11 ∷ 0 ∷ 12 ∷ 0 ∷ 1 ∷ 0 ∷ 7 ∷ 0 ∷ 0 ∷ 0 ∷ 23 ∷ 0 ∷ 2 ∷ 0 ∷ 1 ∷ 0 ∷ 0 ∷
    0 ∷ 11 ∷ 187 ∷ 0 ∷ 2 ∷ 89 ∷ 183 ∷ 0 ∷ 13 ∷ 182 ∷ 0 ∷ 16 ∷ 177 ∷ 0 ∷ 0 ∷ 0 ∷ 0 ∷ 0 ∷ 0 ∷ []

abbrev pub stepper : agent_type.Agent
stepper = record {
  name = codes "steps";
  kind = Native;
  sets = [];
  rules = [];
  load = AddCapabilities (capabilities.SingleStep ∷ []) ∷ SetEventNotificationMode true 52 None ∷ [];
  script = [];
  callbacks =
      record {
        event = kinds.ThreadStart;
        class = None;
        thread = Some 2;
        calls = SetEventNotificationMode true 60 (Some 0) ∷ SetEventNotificationMode true 60 None ∷ SetEventNotificationMode false 60 None ∷ [];
      }
      ∷ [];
}

abbrev pub either : World
either = with_agent stepper (job_of (codes "Two") (record { name = codes "Two"; bytes = two_file } ∷ []) 1000)

abbrev pub either_schedule : List Actor
either_schedule = replicate 4 Vm ++ replicate 15 (thread 1) ++ replicate 7 (thread 2) ++ replicate 2 Vm

abbrev pub either_text : List ℕ
either_text = codes "report 1\nprofile 1\nmain Two\nschedule v:4 t1:15 t2:7 v:2\nsteps 28\nend dead\nthread 1 ended\nthread 2 ended\noutput 0\n\nagents 1\nagent steps 8\n0 AddCapabilities 0\n1 SetEventNotificationMode 0\n4 ThreadStart 1\n19 ThreadStart 2\n20 SetEventNotificationMode 0\n21 SetEventNotificationMode 0\n22 SetEventNotificationMode 0\n24 SingleStep 2 Two.run()V@0\n"

abbrev pub EitherSettingEnables : Type 0
EitherSettingEnables = IsRow either either_schedule Dead either_text
