-- Worked rows of calls: a transformer that is taken out again, the bytes of a method, and what a class's status is from its load on.
use Rattle.std.specs.Prelude.{ℕ, pos, List, [], ◌∷◌, ◌++◌, None, true, false, codes, replicate}
use Rattle.ti_ids.specs.declared.actor.Actor.{Actor}
use Rattle.ti_ids.specs.declared.actor.Actor.TheVariants.{Vm}
use Rattle.ti_ids.specs.declared.actor.End.TheVariants.{Dead}
use Rattle.ti_codes.specs.declared.capability.Capability.TheVariants as capabilities
use Rattle.ti_codes.specs.declared.event.EventKind.TheVariants as kinds
use Rattle.agent_types.specs.declared.agent.Agent as agent_type
use Rattle.agent_types.specs.declared.rule.Edit.TheVariants as edits
use Rattle.agent_types.specs.declared.call.Call.{Call}
use Rattle.agent_types.specs.declared.agent.AgentKind.TheVariants.{Native, Java}
use Rattle.agent_types.specs.declared.call.Call.TheVariants.{AddCapabilities, GetClassStatus, GetBytecodes, AddTransformer, RemoveTransformer}
use Rattle.machine_steps.specs.World.{World}
use Rattle.machine_rows.specs.Lines.{lines}
use Rattle.machine_rows.specs.Rows.{thread, agent, IsRow, edges_five}
use Rattle.machine_rows.specs.ChainRows.{with_agents, loop_job}
use Rattle.machine_rows.specs.EventRows.{heard, hears}

-- ---- transformer removed

-- The earliest one of the set goes, whether or not it can retransform.
abbrev pub removed_1 : agent_type.Agent
removed_1 = record {
  name = codes "ij";
  kind = Java;
  sets = codes "nine" ∷ codes "plain" ∷ [];
  rules = record { set = codes "nine"; class = codes "Loop"; edit = edits.Constant (codes "f") (codes "()V") (pos 7) (pos 9) } ∷ [];
  load =
      AddTransformer (codes "nine") false ∷ AddTransformer (codes "plain") false
      ∷ AddTransformer (codes "nine") true ∷ RemoveTransformer (codes "nine") true ∷ [];
  script = [];
  callbacks = [];
}

abbrev pub removed : World
removed = with_agents (removed_1 ∷ []) loop_job

abbrev pub removed_schedule : List Actor
removed_schedule = replicate 6 Vm ++ replicate 18 (thread 1) ++ replicate 2 Vm

abbrev pub removed_text : List ℕ
removed_text = lines (
    codes "report 1"
    ∷ codes "profile 1"
    ∷ codes "main Loop"
    ∷ codes "schedule v:6 t1:18 v:2"
    ∷ codes "steps 26"
    ∷ codes "end dead"
    ∷ codes "thread 1 ended"
    ∷ codes "output 4"
    ∷ codes "9"
    ∷ codes "9"
    ∷ codes ""
    ∷ codes "agents 1"
    ∷ codes "agent ij 6"
    ∷ codes "0 AddTransformer 0"
    ∷ codes "1 AddTransformer 0"
    ∷ codes "2 AddTransformer 0"
    ∷ codes "3 RemoveTransformer 0"
    ∷ codes "7 Transform Loop plain 1/2 kept"
    ∷ codes "7 Transform Loop nine 2/2 changed"
    ∷ [])

abbrev pub TransformerRemoved : Type 0
TransformerRemoved = IsRow removed removed_schedule Dead removed_text

-- ---- bytes of a method

abbrev pub status : Call
status = GetClassStatus (codes "Five")

-- `main` has 31 bytes, of which a line shows 20.
abbrev pub bytes_1 : agent_type.Agent
bytes_1 = record {
  name = codes "one";
  kind = Native;
  sets = [];
  rules = [];
  load = AddCapabilities (capabilities.Bytecodes ∷ []) ∷ hears 55 ∷ hears 56 ∷ [];
  script = record { at = 0; call = status } ∷ [];
  callbacks =
      record { event = kinds.ClassLoad; class = None; thread = None; calls = status ∷ [] }
      ∷ record {
        event = kinds.ClassPrepare;
        class = None;
        thread = None;
        calls = status ∷ GetBytecodes (codes "Five") (codes "main") (codes "([Ljava/lang/String;)V") ∷ [];
      }
      ∷ [];
}

abbrev pub bytes : World
bytes = heard bytes_1 (codes "Five") edges_five

abbrev pub bytes_schedule : List Actor
bytes_schedule = replicate 5 Vm ++ replicate 26 (thread 1) ++ agent 1 ∷ replicate 2 Vm

abbrev pub bytes_text : List ℕ
bytes_text = lines (
    codes "report 1"
    ∷ codes "profile 1"
    ∷ codes "main Five"
    ∷ codes "schedule v:5 t1:26 a1:1 v:2"
    ∷ codes "steps 34"
    ∷ codes "end dead"
    ∷ codes "thread 1 ended"
    ∷ codes "output 16"
    ∷ codes "-2147483648"
    ∷ codes "0"
    ∷ codes "2"
    ∷ codes ""
    ∷ codes "agents 1"
    ∷ codes "agent one 9"
    ∷ codes "0 AddCapabilities 0"
    ∷ codes "1 SetEventNotificationMode 0"
    ∷ codes "2 SetEventNotificationMode 0"
    ∷ codes "6 ClassLoad 1 Five"
    ∷ codes "7 GetClassStatus 0 0"
    ∷ codes "8 ClassPrepare 1 Five"
    ∷ codes "9 GetClassStatus 0 3"
    ∷ codes "10 GetBytecodes 0 31 b2000d120e026cb60014b2000d120e0270b60014"
    ∷ codes "31 GetClassStatus 0 7"
    ∷ [])

abbrev pub BytesOfAMethod : Type 0
BytesOfAMethod = IsRow bytes bytes_schedule Dead bytes_text
