-- Worked rows with calls that are refused: the order of refusals, and a redefinition of two classes of which the second is refused.
use Rattle.std.specs.Prelude.{◌≡◌, ℕ, List, [], ◌∷◌, ◌++◌, Some, None, true, codes, replicate, Result, Ok}
use Rattle.ti_ids.specs.declared.actor.Actor.{Actor}
use Rattle.ti_ids.specs.declared.actor.Actor.TheVariants.{Vm}
use Rattle.ti_ids.specs.declared.actor.End.TheVariants.{Dead}
use Rattle.ti_codes.specs.declared.capability.Capability.TheVariants as capabilities
use Rattle.ti_codes.specs.declared.event.EventKind.TheVariants as kinds
use Rattle.agent_types.specs.declared.agent.Agent as agent_type
use Rattle.agent_types.specs.declared.agent.AgentKind.TheVariants.{Native}
use Rattle.agent_types.specs.declared.call.Call.TheVariants.{AddCapabilities, SetEventNotificationMode, SetBreakpoint, ClearBreakpoint, SuspendThread, RedefineClasses}
use Rattle.machine_steps.specs.World.{World}
use Rattle.machine_rows.specs.Lines.{lines}
use Rattle.machine_rows.specs.Rows.{add_add, job_of, thread, agent, IsRow}
use Rattle.machine_rows.specs.AgentRows.{with_agent}

-- ---- order of refusals

abbrev pub coder : agent_type.Agent
coder = record {
  name = codes "codes";
  kind = Native;
  sets = [];
  rules = [];
  load =
      SetBreakpoint (codes "Add") (codes "main") (codes "([Ljava/lang/String;)V") 0 ∷ AddCapabilities (capabilities.PopFrame ∷ [])
      ∷ SetEventNotificationMode true 49 None ∷ SetEventNotificationMode true 60 None ∷ [];
  script =
      record { at = 0; call = AddCapabilities (capabilities.EarlyReturn ∷ []) } ∷ record { at = 0; call = SuspendThread 9 }
      ∷ record { at = 0; call = AddCapabilities (capabilities.Suspend ∷ []) } ∷ record { at = 0; call = SuspendThread 9 }
      ∷ record { at = 0; call = SetEventNotificationMode true 51 (Some 1) } ∷ [];
  callbacks = [];
}

abbrev pub order : World
order = with_agent coder (job_of (codes "Add") (record { name = codes "Add"; bytes = add_add } ∷ []) 1000)

abbrev pub order_schedule : List Actor
order_schedule = replicate 6 Vm ++ replicate 13 (thread 1) ++ replicate 5 (agent 1) ++ replicate 2 Vm

abbrev pub order_text : List ℕ
order_text = lines (
    codes "report 1"
    ∷ codes "profile 1"
    ∷ codes "main Add"
    ∷ codes "schedule v:6 t1:13 a1:5 v:2"
    ∷ codes "steps 26"
    ∷ codes "end dead"
    ∷ codes "thread 1 ended"
    ∷ codes "output 2"
    ∷ codes "5"
    ∷ codes ""
    ∷ codes "agents 1"
    ∷ codes "agent codes 9"
    ∷ codes "0 SetBreakpoint 112"
    ∷ codes "1 AddCapabilities 0"
    ∷ codes "2 SetEventNotificationMode 102"
    ∷ codes "3 SetEventNotificationMode 99"
    ∷ codes "19 AddCapabilities 98"
    ∷ codes "20 SuspendThread 99"
    ∷ codes "21 AddCapabilities 0"
    ∷ codes "22 SuspendThread 10"
    ∷ codes "23 SetEventNotificationMode 103"
    ∷ [])

abbrev pub OrderOfRefusals : Type 0
OrderOfRefusals = IsRow order order_schedule Dead order_text

-- ---- refused redefinition changes nothing

abbrev pub p_file : List ℕ
p_file =
    202 ∷ 254 ∷ 186 ∷ 190 ∷ 0 ∷ 0 ∷ 0 ∷ 52 ∷ 0 ∷ 29 ∷ 1 ∷ 0 ∷ 1 ∷ 80 ∷ 7 ∷ 0 ∷ 1 ∷ 1 ∷ 0 ∷ 16 ∷ 106 ∷ 97 ∷ 118 ∷ 97 ∷ 47 ∷ 108 ∷ 97 ∷ 110 ∷ 103 ∷
    47 ∷ 79 ∷ 98 ∷ 106 ∷ 101 ∷ 99 ∷ 116 ∷ 7 ∷ 0 ∷ 3 ∷ 1 ∷ 0 ∷ 4 ∷ 109 ∷ 97 ∷ 105 ∷ 110 ∷ 1 ∷ 0 ∷ 22 ∷ 40 ∷ 91 ∷ 76 ∷ 106 ∷ 97 ∷ 118 ∷ 97 ∷ 47 ∷
    108 ∷ 97 ∷ 110 ∷ 103 ∷ 47 ∷ 83 ∷ 116 ∷ 114 ∷ 105 ∷ 110 ∷ 103 ∷ 59 ∷ 41 ∷ 86 ∷ 1 ∷ 0 ∷ 4 ∷ 67 ∷ 111 ∷ 100 ∷ 101 ∷ 1 ∷ 0 ∷ 1 ∷ 81 ∷ 7 ∷ 0 ∷ 8 ∷
    1 ∷ 0 ∷ 1 ∷ 113 ∷ 1 ∷ 0 ∷ 3 ∷ 40 ∷ 41 ∷ 86 ∷ 12 ∷ 0 ∷ 10 ∷ 0 ∷ 11 ∷ 10 ∷ 0 ∷ 9 ∷ 0 ∷ 12 ∷ 1 ∷ 0 ∷ 1 ∷ 102 ∷ 12 ∷ 0 ∷ 14 ∷ 0 ∷ 11 ∷ 10 ∷ 0 ∷
    2 ∷ 0 ∷ 15 ∷ 1 ∷ 0 ∷ 16 ∷ 106 ∷ 97 ∷ 118 ∷ 97 ∷ 47 ∷ 108 ∷ 97 ∷ 110 ∷ 103 ∷ 47 ∷ 83 ∷ 121 ∷ 115 ∷ 116 ∷ 101 ∷ 109 ∷ 7 ∷ 0 ∷ 17 ∷ 1 ∷ 0 ∷ 3 ∷
    111 ∷ 117 ∷ 116 ∷ 1 ∷ 0 ∷ 21 ∷ 76 ∷ 106 ∷ 97 ∷ 118 ∷ 97 ∷ 47 ∷ 105 ∷ 111 ∷ 47 ∷ 80 ∷ 114 ∷ 105 ∷ 110 ∷ 116 ∷ 83 ∷ 116 ∷ 114 ∷ 101 ∷ 97 ∷
    109 ∷ 59 ∷ 12 ∷ 0 ∷ 19 ∷ 0 ∷ 20 ∷ 9 ∷ 0 ∷ 18 ∷ 0 ∷ 21 ∷ 1 ∷ 0 ∷ 19 ∷ 106 ∷ 97 ∷ 118 ∷ 97 ∷ 47 ∷ 105 ∷ 111 ∷ 47 ∷ 80 ∷ 114 ∷ 105 ∷ 110 ∷ 116 ∷
    83 ∷ 116 ∷ 114 ∷ 101 ∷ 97 ∷ 109 ∷ 7 ∷ 0 ∷ 23 ∷ 1 ∷ 0 ∷ 7 ∷ 112 ∷ 114 ∷ 105 ∷ 110 ∷ 116 ∷ 108 ∷ 110 ∷ 1 ∷ 0 ∷ 4 ∷ 40 ∷ 73 ∷ 41 ∷ 86 ∷ 12 ∷ 0 ∷
    25 ∷ 0 ∷ 26 ∷ 10 ∷ 0 ∷ 24 ∷ 0 ∷ 27 ∷ 0 ∷ 33 ∷ 0 ∷ 2 ∷ 0 ∷ 4 ∷ 0 ∷ 0 ∷ 0 ∷ 0 ∷ 0 ∷ 2 ∷ 0 ∷ 9 ∷ 0 ∷ 5 ∷ 0 ∷ 6 ∷ 0 ∷ 1 ∷ 0 ∷ 7 ∷ 0 ∷ 0 ∷ 0 ∷
    19 ∷ 0 ∷ 0 ∷ 0 ∷ 1 ∷ 0 ∷ 0 ∷ 0 ∷ 7 ∷ 184 ∷ 0 ∷ 13 ∷ 184 ∷ 0 ∷ 16 ∷ 177 ∷ 0 ∷ 0 ∷ 0 ∷ 0 ∷ 0 ∷ 9 ∷ 0 ∷ 14 ∷ 0 ∷ 11 ∷ 0 ∷ 1 ∷ 0 ∷ 7 ∷ 0 ∷ 0 ∷
    0 ∷ 21 ∷ 0 ∷ 2 ∷ 0 ∷ 0 ∷ 0 ∷ 0 ∷ 0 ∷ 9 ∷ 178 ∷ 0 ∷ 22 ∷ 16 ∷ 1 ∷ 182 ∷ 0 ∷ 28 ∷ 177 ∷ 0 ∷ 0 ∷ 0 ∷ 0 ∷ 0 ∷ 0 ∷ []

abbrev pub q_file : List ℕ
q_file =
    202 ∷ 254 ∷ 186 ∷ 190 ∷ 0 ∷ 0 ∷ 0 ∷ 52 ∷ 0 ∷ 8 ∷ 1 ∷ 0 ∷ 1 ∷ 81 ∷ 7 ∷ 0 ∷ 1 ∷ 1 ∷ 0 ∷ 16 ∷ 106 ∷ 97 ∷ 118 ∷ 97 ∷ 47 ∷ 108 ∷ 97 ∷ 110 ∷ 103 ∷
    47 ∷ 79 ∷ 98 ∷ 106 ∷ 101 ∷ 99 ∷ 116 ∷ 7 ∷ 0 ∷ 3 ∷ 1 ∷ 0 ∷ 1 ∷ 113 ∷ 1 ∷ 0 ∷ 3 ∷ 40 ∷ 41 ∷ 86 ∷ 1 ∷ 0 ∷ 4 ∷ 67 ∷ 111 ∷ 100 ∷ 101 ∷ 0 ∷ 33 ∷
    0 ∷ 2 ∷ 0 ∷ 4 ∷ 0 ∷ 0 ∷ 0 ∷ 0 ∷ 0 ∷ 1 ∷ 0 ∷ 9 ∷ 0 ∷ 5 ∷ 0 ∷ 6 ∷ 0 ∷ 1 ∷ 0 ∷ 7 ∷ 0 ∷ 0 ∷ 0 ∷ 13 ∷ 0 ∷ 0 ∷ 0 ∷ 0 ∷ 0 ∷ 0 ∷ 0 ∷ 1 ∷ 177 ∷ 0 ∷
    0 ∷ 0 ∷ 0 ∷ 0 ∷ 0 ∷ []

abbrev pub p_donor : List ℕ
p_donor =
    202 ∷ 254 ∷ 186 ∷ 190 ∷ 0 ∷ 0 ∷ 0 ∷ 52 ∷ 0 ∷ 29 ∷ 1 ∷ 0 ∷ 1 ∷ 80 ∷ 7 ∷ 0 ∷ 1 ∷ 1 ∷ 0 ∷ 16 ∷ 106 ∷ 97 ∷ 118 ∷ 97 ∷ 47 ∷ 108 ∷ 97 ∷ 110 ∷ 103 ∷
    47 ∷ 79 ∷ 98 ∷ 106 ∷ 101 ∷ 99 ∷ 116 ∷ 7 ∷ 0 ∷ 3 ∷ 1 ∷ 0 ∷ 4 ∷ 109 ∷ 97 ∷ 105 ∷ 110 ∷ 1 ∷ 0 ∷ 22 ∷ 40 ∷ 91 ∷ 76 ∷ 106 ∷ 97 ∷ 118 ∷ 97 ∷ 47 ∷
    108 ∷ 97 ∷ 110 ∷ 103 ∷ 47 ∷ 83 ∷ 116 ∷ 114 ∷ 105 ∷ 110 ∷ 103 ∷ 59 ∷ 41 ∷ 86 ∷ 1 ∷ 0 ∷ 4 ∷ 67 ∷ 111 ∷ 100 ∷ 101 ∷ 1 ∷ 0 ∷ 1 ∷ 81 ∷ 7 ∷ 0 ∷ 8 ∷
    1 ∷ 0 ∷ 1 ∷ 113 ∷ 1 ∷ 0 ∷ 3 ∷ 40 ∷ 41 ∷ 86 ∷ 12 ∷ 0 ∷ 10 ∷ 0 ∷ 11 ∷ 10 ∷ 0 ∷ 9 ∷ 0 ∷ 12 ∷ 1 ∷ 0 ∷ 1 ∷ 102 ∷ 12 ∷ 0 ∷ 14 ∷ 0 ∷ 11 ∷ 10 ∷ 0 ∷
    2 ∷ 0 ∷ 15 ∷ 1 ∷ 0 ∷ 16 ∷ 106 ∷ 97 ∷ 118 ∷ 97 ∷ 47 ∷ 108 ∷ 97 ∷ 110 ∷ 103 ∷ 47 ∷ 83 ∷ 121 ∷ 115 ∷ 116 ∷ 101 ∷ 109 ∷ 7 ∷ 0 ∷ 17 ∷ 1 ∷ 0 ∷ 3 ∷
    111 ∷ 117 ∷ 116 ∷ 1 ∷ 0 ∷ 21 ∷ 76 ∷ 106 ∷ 97 ∷ 118 ∷ 97 ∷ 47 ∷ 105 ∷ 111 ∷ 47 ∷ 80 ∷ 114 ∷ 105 ∷ 110 ∷ 116 ∷ 83 ∷ 116 ∷ 114 ∷ 101 ∷ 97 ∷
    109 ∷ 59 ∷ 12 ∷ 0 ∷ 19 ∷ 0 ∷ 20 ∷ 9 ∷ 0 ∷ 18 ∷ 0 ∷ 21 ∷ 1 ∷ 0 ∷ 19 ∷ 106 ∷ 97 ∷ 118 ∷ 97 ∷ 47 ∷ 105 ∷ 111 ∷ 47 ∷ 80 ∷ 114 ∷ 105 ∷ 110 ∷ 116 ∷
    83 ∷ 116 ∷ 114 ∷ 101 ∷ 97 ∷ 109 ∷ 7 ∷ 0 ∷ 23 ∷ 1 ∷ 0 ∷ 7 ∷ 112 ∷ 114 ∷ 105 ∷ 110 ∷ 116 ∷ 108 ∷ 110 ∷ 1 ∷ 0 ∷ 4 ∷ 40 ∷ 73 ∷ 41 ∷ 86 ∷ 12 ∷ 0 ∷
    25 ∷ 0 ∷ 26 ∷ 10 ∷ 0 ∷ 24 ∷ 0 ∷ 27 ∷ 0 ∷ 33 ∷ 0 ∷ 2 ∷ 0 ∷ 4 ∷ 0 ∷ 0 ∷ 0 ∷ 0 ∷ 0 ∷ 2 ∷ 0 ∷ 9 ∷ 0 ∷ 5 ∷ 0 ∷ 6 ∷ 0 ∷ 1 ∷ 0 ∷ 7 ∷ 0 ∷ 0 ∷ 0 ∷
    19 ∷ 0 ∷ 0 ∷ 0 ∷ 1 ∷ 0 ∷ 0 ∷ 0 ∷ 7 ∷ 184 ∷ 0 ∷ 13 ∷ 184 ∷ 0 ∷ 16 ∷ 177 ∷ 0 ∷ 0 ∷ 0 ∷ 0 ∷ 0 ∷ 9 ∷ 0 ∷ 14 ∷ 0 ∷ 11 ∷ 0 ∷ 1 ∷ 0 ∷ 7 ∷ 0 ∷ 0 ∷
    0 ∷ 21 ∷ 0 ∷ 2 ∷ 0 ∷ 0 ∷ 0 ∷ 0 ∷ 0 ∷ 9 ∷ 178 ∷ 0 ∷ 22 ∷ 16 ∷ 2 ∷ 182 ∷ 0 ∷ 28 ∷ 177 ∷ 0 ∷ 0 ∷ 0 ∷ 0 ∷ 0 ∷ 0 ∷ []

abbrev pub q_donor : List ℕ
q_donor =
    202 ∷ 254 ∷ 186 ∷ 190 ∷ 0 ∷ 0 ∷ 0 ∷ 52 ∷ 0 ∷ 10 ∷ 1 ∷ 0 ∷ 1 ∷ 81 ∷ 7 ∷ 0 ∷ 1 ∷ 1 ∷ 0 ∷ 16 ∷ 106 ∷ 97 ∷ 118 ∷ 97 ∷ 47 ∷ 108 ∷ 97 ∷ 110 ∷ 103 ∷
    47 ∷ 79 ∷ 98 ∷ 106 ∷ 101 ∷ 99 ∷ 116 ∷ 7 ∷ 0 ∷ 3 ∷ 1 ∷ 0 ∷ 1 ∷ 120 ∷ 1 ∷ 0 ∷ 1 ∷ 73 ∷ 1 ∷ 0 ∷ 1 ∷ 113 ∷ 1 ∷ 0 ∷ 3 ∷ 40 ∷ 41 ∷ 86 ∷ 1 ∷ 0 ∷ 4 ∷
    67 ∷ 111 ∷ 100 ∷ 101 ∷ 0 ∷ 33 ∷ 0 ∷ 2 ∷ 0 ∷ 4 ∷ 0 ∷ 0 ∷ 0 ∷ 1 ∷ 0 ∷ 9 ∷ 0 ∷ 5 ∷ 0 ∷ 6 ∷ 0 ∷ 0 ∷ 0 ∷ 1 ∷ 0 ∷ 9 ∷ 0 ∷ 7 ∷ 0 ∷ 8 ∷ 0 ∷ 1 ∷ 0 ∷
    9 ∷ 0 ∷ 0 ∷ 0 ∷ 13 ∷ 0 ∷ 0 ∷ 0 ∷ 0 ∷ 0 ∷ 0 ∷ 0 ∷ 1 ∷ 177 ∷ 0 ∷ 0 ∷ 0 ∷ 0 ∷ 0 ∷ 0 ∷ []

abbrev pub pair : agent_type.Agent
pair = record {
  name = codes "pair";
  kind = Native;
  sets = [];
  rules = [];
  load = AddCapabilities (capabilities.Breakpoint ∷ capabilities.Redefine ∷ []) ∷ SetEventNotificationMode true 56 None ∷ [];
  script = [];
  callbacks =
      record {
        event = kinds.ClassPrepare;
        class = Some (codes "Q");
        thread = None;
        calls =
            SetBreakpoint (codes "P") (codes "f") (codes "()V") 0 ∷ RedefineClasses (codes "P" ∷ codes "Q" ∷ []) (1 ∷ 2 ∷ [])
            ∷ ClearBreakpoint (codes "P") (codes "f") (codes "()V") 0 ∷ [];
      }
      ∷ [];
}

abbrev pub refused : World
refused = with_agent pair (record (job_of (codes "P") (record { name = codes "P"; bytes = p_file } ∷ record { name = codes "Q"; bytes = q_file } ∷ []) 1000) { donors = p_donor ∷ q_donor ∷ [] })

abbrev pub refused_schedule : List Actor
refused_schedule = replicate 4 Vm ++ replicate 22 (thread 1) ++ replicate 2 Vm

abbrev pub refused_text : List ℕ
refused_text = lines (
    codes "report 1"
    ∷ codes "profile 1"
    ∷ codes "main P"
    ∷ codes "schedule v:4 t1:22 v:2"
    ∷ codes "steps 28"
    ∷ codes "end dead"
    ∷ codes "thread 1 ended"
    ∷ codes "output 2"
    ∷ codes "1"
    ∷ codes ""
    ∷ codes "agents 1"
    ∷ codes "agent pair 7"
    ∷ codes "0 AddCapabilities 0"
    ∷ codes "1 SetEventNotificationMode 0"
    ∷ codes "6 ClassPrepare 1 P"
    ∷ codes "11 ClassPrepare 1 Q"
    ∷ codes "12 SetBreakpoint 0"
    ∷ codes "13 RedefineClasses 64"
    ∷ codes "14 ClearBreakpoint 0"
    ∷ [])

abbrev pub RefusedRedefinitionChangesNothing : Type 0
RefusedRedefinitionChangesNothing = IsRow refused refused_schedule Dead refused_text
