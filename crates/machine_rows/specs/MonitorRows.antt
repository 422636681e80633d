-- A worked row with two threads at one monitor: an agent that hears of all its events suspends the owner, and asks for the states of both
-- threads on the way.
use Rattle.std.specs.Prelude.{ℕ, pos, List, [], ◌∷◌, ◌++◌, map, Some, None, codes, replicate}
use Rattle.ti_ids.specs.declared.actor.Actor.{Actor}
use Rattle.ti_ids.specs.declared.actor.Actor.TheVariants.{Vm}
use Rattle.ti_ids.specs.declared.actor.End.TheVariants.{Dead}
use Rattle.ti_codes.specs.declared.capability.Capability.TheVariants as capabilities
use Rattle.ti_codes.specs.declared.event.EventKind.TheVariants as kinds
use Rattle.agent_types.specs.declared.agent.Agent as agent_type
use Rattle.agent_types.specs.declared.agent.AgentKind.TheVariants.{Native}
use Rattle.agent_types.specs.declared.call.Call.TheVariants.{AddCapabilities, SetBreakpoint, SetTag, GetTag, SuspendThread, ResumeThread, GetThreadState}
use Rattle.machine_steps.specs.World.{World}
use Rattle.machine_rows.specs.Lines.{lines}
use Rattle.machine_rows.specs.Rows.{thread, agent, IsRow}
use Rattle.machine_rows.specs.EventRows.{heard, hears}

-- The program examples/programs/Meets.java by `javac --release 8 -g:none`.
abbrev pub meets_file : List ℕ
meets_file =
    202 ∷ 254 ∷ 186 ∷ 190 ∷ 0 ∷ 0 ∷ 0 ∷ 52 ∷ 0 ∷ 31 ∷ 10 ∷ 0 ∷ 2 ∷ 0 ∷ 3 ∷ 7 ∷ 0 ∷ 4 ∷ 12 ∷ 0 ∷ 5 ∷ 0 ∷ 6 ∷ 1 ∷
    0 ∷ 16 ∷ 106 ∷ 97 ∷ 118 ∷ 97 ∷ 47 ∷ 108 ∷ 97 ∷ 110 ∷ 103 ∷ 47 ∷ 84 ∷ 104 ∷ 114 ∷ 101 ∷ 97 ∷ 100 ∷ 1 ∷ 0 ∷ 6 ∷ 60 ∷ 105 ∷ 110 ∷
    105 ∷ 116 ∷ 62 ∷ 1 ∷ 0 ∷ 3 ∷ 40 ∷ 41 ∷ 86 ∷ 10 ∷ 0 ∷ 8 ∷ 0 ∷ 9 ∷ 7 ∷ 0 ∷ 10 ∷ 12 ∷ 0 ∷ 11 ∷ 0 ∷ 6 ∷ 1 ∷ 0 ∷
    16 ∷ 106 ∷ 97 ∷ 118 ∷ 97 ∷ 47 ∷ 108 ∷ 97 ∷ 110 ∷ 103 ∷ 47 ∷ 79 ∷ 98 ∷ 106 ∷ 101 ∷ 99 ∷ 116 ∷ 1 ∷ 0 ∷ 6 ∷ 110 ∷ 111 ∷ 116 ∷ 105 ∷
    102 ∷ 121 ∷ 10 ∷ 0 ∷ 13 ∷ 0 ∷ 14 ∷ 7 ∷ 0 ∷ 15 ∷ 12 ∷ 0 ∷ 16 ∷ 0 ∷ 6 ∷ 1 ∷ 0 ∷ 5 ∷ 77 ∷ 101 ∷ 101 ∷ 116 ∷ 115 ∷ 1 ∷
    0 ∷ 5 ∷ 115 ∷ 116 ∷ 97 ∷ 114 ∷ 116 ∷ 10 ∷ 0 ∷ 8 ∷ 0 ∷ 18 ∷ 12 ∷ 0 ∷ 19 ∷ 0 ∷ 6 ∷ 1 ∷ 0 ∷ 4 ∷ 119 ∷ 97 ∷ 105 ∷ 116 ∷
    10 ∷ 0 ∷ 13 ∷ 0 ∷ 3 ∷ 10 ∷ 0 ∷ 13 ∷ 0 ∷ 22 ∷ 12 ∷ 0 ∷ 23 ∷ 0 ∷ 6 ∷ 1 ∷ 0 ∷ 4 ∷ 109 ∷ 101 ∷ 101 ∷ 116 ∷ 1 ∷ 0 ∷
    4 ∷ 67 ∷ 111 ∷ 100 ∷ 101 ∷ 1 ∷ 0 ∷ 3 ∷ 114 ∷ 117 ∷ 110 ∷ 1 ∷ 0 ∷ 10 ∷ 69 ∷ 120 ∷ 99 ∷ 101 ∷ 112 ∷ 116 ∷ 105 ∷ 111 ∷ 110 ∷ 115 ∷
    7 ∷ 0 ∷ 28 ∷ 1 ∷ 0 ∷ 30 ∷ 106 ∷ 97 ∷ 118 ∷ 97 ∷ 47 ∷ 108 ∷ 97 ∷ 110 ∷ 103 ∷ 47 ∷ 73 ∷ 110 ∷ 116 ∷ 101 ∷ 114 ∷ 114 ∷ 117 ∷ 112 ∷
    116 ∷ 101 ∷ 100 ∷ 69 ∷ 120 ∷ 99 ∷ 101 ∷ 112 ∷ 116 ∷ 105 ∷ 111 ∷ 110 ∷ 1 ∷ 0 ∷ 4 ∷ 109 ∷ 97 ∷ 105 ∷ 110 ∷ 1 ∷ 0 ∷ 22 ∷ 40 ∷ 91 ∷
    76 ∷ 106 ∷ 97 ∷ 118 ∷ 97 ∷ 47 ∷ 108 ∷ 97 ∷ 110 ∷ 103 ∷ 47 ∷ 83 ∷ 116 ∷ 114 ∷ 105 ∷ 110 ∷ 103 ∷ 59 ∷ 41 ∷ 86 ∷ 0 ∷ 32 ∷ 0 ∷ 13 ∷
    0 ∷ 2 ∷ 0 ∷ 0 ∷ 0 ∷ 0 ∷ 0 ∷ 4 ∷ 0 ∷ 0 ∷ 0 ∷ 5 ∷ 0 ∷ 6 ∷ 0 ∷ 1 ∷ 0 ∷ 24 ∷ 0 ∷ 0 ∷ 0 ∷ 17 ∷ 0 ∷ 1 ∷
    0 ∷ 1 ∷ 0 ∷ 0 ∷ 0 ∷ 5 ∷ 42 ∷ 183 ∷ 0 ∷ 1 ∷ 177 ∷ 0 ∷ 0 ∷ 0 ∷ 0 ∷ 0 ∷ 33 ∷ 0 ∷ 25 ∷ 0 ∷ 6 ∷ 0 ∷ 1 ∷ 0 ∷
    24 ∷ 0 ∷ 0 ∷ 0 ∷ 17 ∷ 0 ∷ 1 ∷ 0 ∷ 1 ∷ 0 ∷ 0 ∷ 0 ∷ 5 ∷ 42 ∷ 182 ∷ 0 ∷ 7 ∷ 177 ∷ 0 ∷ 0 ∷ 0 ∷ 0 ∷ 0 ∷ 32 ∷
    0 ∷ 23 ∷ 0 ∷ 6 ∷ 0 ∷ 2 ∷ 0 ∷ 24 ∷ 0 ∷ 0 ∷ 0 ∷ 21 ∷ 0 ∷ 1 ∷ 0 ∷ 1 ∷ 0 ∷ 0 ∷ 0 ∷ 9 ∷ 42 ∷ 182 ∷ 0 ∷ 12 ∷
    42 ∷ 182 ∷ 0 ∷ 17 ∷ 177 ∷ 0 ∷ 0 ∷ 0 ∷ 0 ∷ 0 ∷ 26 ∷ 0 ∷ 0 ∷ 0 ∷ 4 ∷ 0 ∷ 1 ∷ 0 ∷ 27 ∷ 0 ∷ 9 ∷ 0 ∷ 29 ∷ 0 ∷
    30 ∷ 0 ∷ 2 ∷ 0 ∷ 24 ∷ 0 ∷ 0 ∷ 0 ∷ 23 ∷ 0 ∷ 2 ∷ 0 ∷ 1 ∷ 0 ∷ 0 ∷ 0 ∷ 11 ∷ 187 ∷ 0 ∷ 13 ∷ 89 ∷ 183 ∷ 0 ∷ 20 ∷
    182 ∷ 0 ∷ 21 ∷ 177 ∷ 0 ∷ 0 ∷ 0 ∷ 0 ∷ 0 ∷ 26 ∷ 0 ∷ 0 ∷ 0 ∷ 4 ∷ 0 ∷ 1 ∷ 0 ∷ 27 ∷ 0 ∷ 0 ∷ []

-- Thread 1 is suspended while it owns the monitor that thread 2 then wants. Of the callbacks that name a class or a thread, the last two
-- are never called: it is thread 1 that waits, and MonitorWaited has no class. Object 0 is that of the monitor.
abbrev pub meets_1 : agent_type.Agent
meets_1 = record {
  name = codes "ear";
  kind = Native;
  sets = [];
  rules = [];
  load =
      AddCapabilities (capabilities.Breakpoint ∷ capabilities.Monitor ∷ capabilities.Tag ∷ capabilities.Suspend ∷ [])
      ∷ map hears (56 ∷ 62 ∷ 73 ∷ 74 ∷ 75 ∷ 76 ∷ []);
  script =
      record { at = 0; call = GetThreadState 1 } ∷ record { at = 0; call = GetThreadState 2 }
      ∷ record { at = 0; call = GetTag 5 } ∷ record { at = 0; call = ResumeThread 1 }
      ∷ record { at = 20; call = GetThreadState 1 } ∷ record { at = 20; call = GetThreadState 2 } ∷ [];
  callbacks =
      record {
        event = kinds.ClassPrepare;
        class = None;
        thread = None;
        calls = SetBreakpoint (codes "Meets") (codes "meet") (codes "()V") 4 ∷ [];
      }
      ∷ record { event = kinds.Breakpoint; class = Some (codes "Meets"); thread = Some 1; calls = SuspendThread 0 ∷ [] }
      ∷ record { event = kinds.MonitorContendedEnter; class = None; thread = Some 2; calls = SetTag 0 (pos 9) ∷ [] }
      ∷ record { event = kinds.MonitorContendedEntered; class = None; thread = None; calls = GetThreadState 1 ∷ [] }
      ∷ record { event = kinds.MonitorWait; class = None; thread = Some 2; calls = GetTag 0 ∷ [] }
      ∷ record { event = kinds.MonitorWaited; class = Some (codes "Meets"); thread = None; calls = GetTag 0 ∷ [] }
      ∷ [];
}

abbrev pub meets : World
meets = heard meets_1 (codes "Meets") meets_file

abbrev pub meets_schedule : List Actor
meets_schedule =
    replicate 9 Vm ++ replicate 18 (thread 1) ++ replicate 3 (thread 2) ++ replicate 4 (agent 1) ++ replicate 2 (thread 1)
    ++ replicate 6 (thread 2) ++ replicate 2 (agent 1) ++ replicate 4 (thread 1) ++ replicate 2 Vm

abbrev pub meets_text : List ℕ
meets_text = lines (
    codes "report 1"
    ∷ codes "profile 1"
    ∷ codes "main Meets"
    ∷ codes "schedule v:9 t1:18 t2:3 a1:4 t1:2 t2:6 a1:2 t1:4 v:2"
    ∷ codes "steps 50"
    ∷ codes "end dead"
    ∷ codes "thread 1 ended"
    ∷ codes "thread 2 ended"
    ∷ codes "output 0"
    ∷ codes ""
    ∷ codes "agents 1"
    ∷ codes "agent ear 23"
    ∷ codes "0 AddCapabilities 0"
    ∷ codes "1 SetEventNotificationMode 0"
    ∷ codes "2 SetEventNotificationMode 0"
    ∷ codes "3 SetEventNotificationMode 0"
    ∷ codes "4 SetEventNotificationMode 0"
    ∷ codes "5 SetEventNotificationMode 0"
    ∷ codes "6 SetEventNotificationMode 0"
    ∷ codes "11 ClassPrepare 1 Meets"
    ∷ codes "12 SetBreakpoint 0"
    ∷ codes "25 Breakpoint 1 Meets.meet()V@4"
    ∷ codes "26 SuspendThread 0"
    ∷ codes "28 MonitorContendedEnter 2 5"
    ∷ codes "29 SetTag 0"
    ∷ codes "30 GetThreadState 0 1048581"
    ∷ codes "31 GetThreadState 0 1025"
    ∷ codes "32 GetTag 0 9"
    ∷ codes "33 ResumeThread 0"
    ∷ codes "35 MonitorWait 1 5"
    ∷ codes "36 MonitorContendedEntered 2 5"
    ∷ codes "37 GetThreadState 0 401"
    ∷ codes "42 GetThreadState 0 1025"
    ∷ codes "43 GetThreadState 0 2"
    ∷ codes "44 MonitorWaited 1 5"
    ∷ [])

abbrev pub MonitorsHeard : Type 0
MonitorsHeard = IsRow meets meets_schedule Dead meets_text
