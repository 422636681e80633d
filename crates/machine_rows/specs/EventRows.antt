-- A worked row with an agent that hears of every event of one thread. Those of monitors are heard in another row.
use Rattle.std.specs.Prelude.{ℕ, pos, List, [], ◌∷◌, ◌++◌, map, Some, None, true, codes, replicate}
use Rattle.ti_ids.specs.declared.actor.Actor.{Actor}
use Rattle.ti_ids.specs.declared.actor.Actor.TheVariants.{Vm}
use Rattle.ti_ids.specs.declared.actor.End.TheVariants.{Dead}
use Rattle.ti_codes.specs.declared.capability.Capability.TheVariants as capabilities
use Rattle.ti_codes.specs.declared.event.EventKind.TheVariants as kinds
use Rattle.agent_types.specs.declared.agent.Agent as agent_type
use Rattle.agent_types.specs.declared.call.Call.{Call}
use Rattle.agent_types.specs.declared.agent.AgentKind.TheVariants.{Native}
use Rattle.agent_types.specs.declared.call.Call.TheVariants.{AddCapabilities, SetEventNotificationMode, SetBreakpoint, SetFieldAccessWatch}
use Rattle.agent_types.specs.declared.call.Call.TheVariants.{SetFieldModificationWatch, NotifyFramePop, SetTag, GetTag}
use Rattle.machine_steps.specs.World.{World}
use Rattle.machine_rows.specs.Lines.{lines}
use Rattle.machine_rows.specs.Rows.{job_of, thread, IsRow}
use Rattle.machine_rows.specs.ChainRows.{with_agents}

-- a program of one class, and an agent without rules
abbrev pub heard : agent_type.Agent → List ℕ → List ℕ → World
heard agent name bytes =
    with_agents (agent ∷ []) (job_of name (record { name = name; bytes = bytes } ∷ []) 1000)

-- The program examples/programs/Every.java by `javac --release 8 -g:none`.
abbrev pub every_file : List ℕ
every_file =
    202 ∷ 254 ∷ 186 ∷ 190 ∷ 0 ∷ 0 ∷ 0 ∷ 52 ∷ 0 ∷ 22 ∷ 10 ∷ 0 ∷ 2 ∷ 0 ∷ 3 ∷ 7 ∷ 0 ∷ 4 ∷ 12 ∷ 0 ∷ 5 ∷ 0 ∷ 6 ∷ 1 ∷
    0 ∷ 16 ∷ 106 ∷ 97 ∷ 118 ∷ 97 ∷ 47 ∷ 108 ∷ 97 ∷ 110 ∷ 103 ∷ 47 ∷ 79 ∷ 98 ∷ 106 ∷ 101 ∷ 99 ∷ 116 ∷ 1 ∷ 0 ∷ 6 ∷ 60 ∷ 105 ∷ 110 ∷
    105 ∷ 116 ∷ 62 ∷ 1 ∷ 0 ∷ 3 ∷ 40 ∷ 41 ∷ 86 ∷ 9 ∷ 0 ∷ 8 ∷ 0 ∷ 9 ∷ 7 ∷ 0 ∷ 10 ∷ 12 ∷ 0 ∷ 11 ∷ 0 ∷ 12 ∷ 1 ∷ 0 ∷
    5 ∷ 69 ∷ 118 ∷ 101 ∷ 114 ∷ 121 ∷ 1 ∷ 0 ∷ 1 ∷ 110 ∷ 1 ∷ 0 ∷ 1 ∷ 73 ∷ 10 ∷ 0 ∷ 8 ∷ 0 ∷ 14 ∷ 12 ∷ 0 ∷ 15 ∷ 0 ∷ 6 ∷
    1 ∷ 0 ∷ 1 ∷ 102 ∷ 7 ∷ 0 ∷ 17 ∷ 1 ∷ 0 ∷ 30 ∷ 106 ∷ 97 ∷ 118 ∷ 97 ∷ 47 ∷ 108 ∷ 97 ∷ 110 ∷ 103 ∷ 47 ∷ 78 ∷ 117 ∷ 108 ∷ 108 ∷
    80 ∷ 111 ∷ 105 ∷ 110 ∷ 116 ∷ 101 ∷ 114 ∷ 69 ∷ 120 ∷ 99 ∷ 101 ∷ 112 ∷ 116 ∷ 105 ∷ 111 ∷ 110 ∷ 1 ∷ 0 ∷ 4 ∷ 67 ∷ 111 ∷ 100 ∷ 101 ∷ 1 ∷
    0 ∷ 4 ∷ 109 ∷ 97 ∷ 105 ∷ 110 ∷ 1 ∷ 0 ∷ 22 ∷ 40 ∷ 91 ∷ 76 ∷ 106 ∷ 97 ∷ 118 ∷ 97 ∷ 47 ∷ 108 ∷ 97 ∷ 110 ∷ 103 ∷ 47 ∷ 83 ∷ 116 ∷
    114 ∷ 105 ∷ 110 ∷ 103 ∷ 59 ∷ 41 ∷ 86 ∷ 1 ∷ 0 ∷ 13 ∷ 83 ∷ 116 ∷ 97 ∷ 99 ∷ 107 ∷ 77 ∷ 97 ∷ 112 ∷ 84 ∷ 97 ∷ 98 ∷ 108 ∷ 101 ∷ 0 ∷
    32 ∷ 0 ∷ 8 ∷ 0 ∷ 2 ∷ 0 ∷ 0 ∷ 0 ∷ 1 ∷ 0 ∷ 8 ∷ 0 ∷ 11 ∷ 0 ∷ 12 ∷ 0 ∷ 0 ∷ 0 ∷ 3 ∷ 0 ∷ 0 ∷ 0 ∷ 5 ∷ 0 ∷
    6 ∷ 0 ∷ 1 ∷ 0 ∷ 18 ∷ 0 ∷ 0 ∷ 0 ∷ 17 ∷ 0 ∷ 1 ∷ 0 ∷ 1 ∷ 0 ∷ 0 ∷ 0 ∷ 5 ∷ 42 ∷ 183 ∷ 0 ∷ 1 ∷ 177 ∷ 0 ∷ 0 ∷
    0 ∷ 0 ∷ 0 ∷ 8 ∷ 0 ∷ 15 ∷ 0 ∷ 6 ∷ 0 ∷ 1 ∷ 0 ∷ 18 ∷ 0 ∷ 0 ∷ 0 ∷ 20 ∷ 0 ∷ 1 ∷ 0 ∷ 0 ∷ 0 ∷ 0 ∷ 0 ∷ 8 ∷
    178 ∷ 0 ∷ 7 ∷ 179 ∷ 0 ∷ 7 ∷ 1 ∷ 191 ∷ 0 ∷ 0 ∷ 0 ∷ 0 ∷ 0 ∷ 9 ∷ 0 ∷ 19 ∷ 0 ∷ 20 ∷ 0 ∷ 1 ∷ 0 ∷ 18 ∷ 0 ∷ 0 ∷
    0 ∷ 41 ∷ 0 ∷ 1 ∷ 0 ∷ 2 ∷ 0 ∷ 0 ∷ 0 ∷ 8 ∷ 184 ∷ 0 ∷ 13 ∷ 167 ∷ 0 ∷ 4 ∷ 76 ∷ 177 ∷ 0 ∷ 1 ∷ 0 ∷ 0 ∷ 0 ∷ 3 ∷
    0 ∷ 6 ∷ 0 ∷ 16 ∷ 0 ∷ 1 ∷ 0 ∷ 21 ∷ 0 ∷ 0 ∷ 0 ∷ 7 ∷ 0 ∷ 2 ∷ 70 ∷ 7 ∷ 0 ∷ 16 ∷ 0 ∷ 0 ∷ 0 ∷ []

-- the number of each event that is no monitor's
abbrev pub events : List ℕ
events = 57 ∷ 50 ∷ 51 ∷ 52 ∷ 53 ∷ 54 ∷ 55 ∷ 56 ∷ 58 ∷ 59 ∷ 60 ∷ 61 ∷ 62 ∷ 63 ∷ 64 ∷ 65 ∷ 66 ∷ 84 ∷ []

abbrev pub hears : ℕ → Call
hears event = SetEventNotificationMode true event None

-- Of the callbacks that name a class or a thread, that of VMDeath alone is never called: VMDeath has no thread. The pop of one frame is
-- asked for twice, and met once. Object 0 is the one that was made.
abbrev pub every_1 : agent_type.Agent
every_1 = record {
  name = codes "ear";
  kind = Native;
  sets = [];
  rules = [];
  load =
      AddCapabilities (
      capabilities.Breakpoint ∷ capabilities.SingleStep ∷ capabilities.Exception ∷ capabilities.FramePop ∷ capabilities.MethodEntry
      ∷ capabilities.MethodExit ∷ capabilities.FieldAccess ∷ capabilities.FieldModification ∷ capabilities.ObjectAlloc
      ∷ capabilities.Tag ∷ [])
      ∷ map hears events;
  script = [];
  callbacks =
      record { event = kinds.VMInit; class = None; thread = Some 1; calls = GetTag 3 ∷ [] }
      ∷ record { event = kinds.VMDeath; class = None; thread = Some 1; calls = GetTag 3 ∷ [] }
      ∷ record {
        event = kinds.ClassPrepare;
        class = Some (codes "Every");
        thread = None;
        calls =
            SetBreakpoint (codes "Every") (codes "f") (codes "()V") 0
            ∷ SetFieldAccessWatch (codes "Every") (codes "n") ∷ SetFieldModificationWatch (codes "Every") (codes "n") ∷ [];
      }
      ∷ record { event = kinds.Breakpoint; class = None; thread = None; calls = NotifyFramePop 0 0 ∷ NotifyFramePop 0 0 ∷ [] }
      ∷ record {
        event = kinds.VMObjectAlloc;
        class = Some (codes "java/lang/NullPointerException");
        thread = None;
        calls = SetTag 0 (pos 7) ∷ GetTag 0 ∷ [];
      }
      ∷ [];
}

abbrev pub every : World
every = heard every_1 (codes "Every") every_file

abbrev pub every_schedule : List Actor
every_schedule = replicate 22 Vm ++ replicate 24 (thread 1) ++ replicate 2 Vm

abbrev pub every_text : List ℕ
every_text = lines (
    codes "report 1"
    ∷ codes "profile 1"
    ∷ codes "main Every"
    ∷ codes "schedule v:22 t1:24 v:2"
    ∷ codes "steps 48"
    ∷ codes "end dead"
    ∷ codes "thread 1 ended"
    ∷ codes "output 0"
    ∷ codes ""
    ∷ codes "agents 1"
    ∷ codes "agent ear 54"
    ∷ codes "0 AddCapabilities 0"
    ∷ codes "1 SetEventNotificationMode 0"
    ∷ codes "2 SetEventNotificationMode 0"
    ∷ codes "3 SetEventNotificationMode 0"
    ∷ codes "4 SetEventNotificationMode 0"
    ∷ codes "5 SetEventNotificationMode 0"
    ∷ codes "6 SetEventNotificationMode 0"
    ∷ codes "7 SetEventNotificationMode 0"
    ∷ codes "8 SetEventNotificationMode 0"
    ∷ codes "9 SetEventNotificationMode 0"
    ∷ codes "10 SetEventNotificationMode 0"
    ∷ codes "11 SetEventNotificationMode 0"
    ∷ codes "12 SetEventNotificationMode 0"
    ∷ codes "13 SetEventNotificationMode 0"
    ∷ codes "14 SetEventNotificationMode 0"
    ∷ codes "15 SetEventNotificationMode 0"
    ∷ codes "16 SetEventNotificationMode 0"
    ∷ codes "17 SetEventNotificationMode 0"
    ∷ codes "18 SetEventNotificationMode 0"
    ∷ codes "19 VMStart"
    ∷ codes "20 VMInit 1"
    ∷ codes "21 GetTag 0 0"
    ∷ codes "22 ThreadStart 1"
    ∷ codes "23 ClassFileLoadHook Every - 1/1 kept"
    ∷ codes "23 ClassLoad 1 Every"
    ∷ codes "24 ClassPrepare 1 Every"
    ∷ codes "25 SetBreakpoint 0"
    ∷ codes "26 SetFieldAccessWatch 0"
    ∷ codes "27 SetFieldModificationWatch 0"
    ∷ codes "30 VMObjectAlloc 1 4 [Ljava/lang/String;"
    ∷ codes "31 MethodEntry 1 Every.main([Ljava/lang/String;)V"
    ∷ codes "31 SingleStep 1 Every.main([Ljava/lang/String;)V@0"
    ∷ codes "32 MethodEntry 1 Every.f()V"
    ∷ codes "32 SingleStep 1 Every.f()V@0"
    ∷ codes "32 Breakpoint 1 Every.f()V@0"
    ∷ codes "32 FieldAccess 1 Every.f()V@0 Every.n"
    ∷ codes "33 NotifyFramePop 0"
    ∷ codes "34 NotifyFramePop 0"
    ∷ codes "36 SingleStep 1 Every.f()V@3"
    ∷ codes "36 FieldModification 1 Every.f()V@3 Every.n"
    ∷ codes "37 SingleStep 1 Every.f()V@6"
    ∷ codes "38 SingleStep 1 Every.f()V@7"
    ∷ codes "38 VMObjectAlloc 1 5 java/lang/NullPointerException"
    ∷ codes "38 Exception 1 Every.f()V@7 java/lang/NullPointerException"
    ∷ codes "39 SetTag 0"
    ∷ codes "40 GetTag 0 7"
    ∷ codes "41 MethodExit 1 Every.f()V threw"
    ∷ codes "41 FramePop 1 Every.f()V threw"
    ∷ codes "43 ExceptionCatch 1 Every.main([Ljava/lang/String;)V@6 java/lang/NullPointerException"
    ∷ codes "43 SingleStep 1 Every.main([Ljava/lang/String;)V@6"
    ∷ codes "44 SingleStep 1 Every.main([Ljava/lang/String;)V@7"
    ∷ codes "44 MethodExit 1 Every.main([Ljava/lang/String;)V returned"
    ∷ codes "45 ThreadEnd 1"
    ∷ codes "46 VMDeath"
    ∷ [])

abbrev pub EveryEventHeard : Type 0
EveryEventHeard = IsRow every every_schedule Dead every_text
