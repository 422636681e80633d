-- A worked row with an entry rule, which is applied to the bytes that were kept, and so never stacked.
use Rattle.std.specs.Prelude.{◌≡◌, ℕ, List, [], ◌∷◌, ◌++◌, Some, None, true, codes, replicate, Result, Ok}
use Rattle.ti_ids.specs.declared.actor.Actor.{Actor}
use Rattle.ti_ids.specs.declared.actor.Actor.TheVariants.{Vm}
use Rattle.ti_ids.specs.declared.actor.End.TheVariants.{Dead}
use Rattle.ti_codes.specs.declared.capability.Capability.TheVariants as capabilities
use Rattle.ti_codes.specs.declared.event.EventKind.TheVariants as kinds
use Rattle.agent_types.specs.declared.agent.Agent as agent_type
use Rattle.agent_types.specs.declared.agent.AgentKind.TheVariants.{Native}
use Rattle.agent_types.specs.declared.rule.Edit.TheVariants.{Entry}
use Rattle.agent_types.specs.declared.call.Call.TheVariants.{AddCapabilities, SetEventNotificationMode, UseRules, RetransformClasses, GetBytecodes}
use Rattle.machine_steps.specs.World.{World}
use Rattle.machine_rows.specs.Lines.{lines}
use Rattle.machine_rows.specs.Rows.{job_of, thread, IsRow}
use Rattle.machine_rows.specs.AgentRows.{with_agent}

abbrev pub loop_twice : List ℕ
loop_twice =
    202 ∷ 254 ∷ 186 ∷ 190 ∷ 0 ∷ 0 ∷ 0 ∷ 52 ∷ 0 ∷ 24 ∷ 1 ∷ 0 ∷ 4 ∷ 76 ∷ 111 ∷ 111 ∷ 112 ∷ 7 ∷ 0 ∷ 1 ∷ 1 ∷ 0 ∷ 16 ∷ 106 ∷ 97 ∷ 118 ∷ 97 ∷ 47 ∷
    108 ∷ 97 ∷ 110 ∷ 103 ∷ 47 ∷ 79 ∷ 98 ∷ 106 ∷ 101 ∷ 99 ∷ 116 ∷ 7 ∷ 0 ∷ 3 ∷ 1 ∷ 0 ∷ 4 ∷ 109 ∷ 97 ∷ 105 ∷ 110 ∷ 1 ∷ 0 ∷ 22 ∷ 40 ∷ 91 ∷ 76 ∷ 106 ∷
    97 ∷ 118 ∷ 97 ∷ 47 ∷ 108 ∷ 97 ∷ 110 ∷ 103 ∷ 47 ∷ 83 ∷ 116 ∷ 114 ∷ 105 ∷ 110 ∷ 103 ∷ 59 ∷ 41 ∷ 86 ∷ 1 ∷ 0 ∷ 4 ∷ 67 ∷ 111 ∷ 100 ∷ 101 ∷ 1 ∷ 0 ∷
    1 ∷ 102 ∷ 1 ∷ 0 ∷ 3 ∷ 40 ∷ 41 ∷ 86 ∷ 12 ∷ 0 ∷ 8 ∷ 0 ∷ 9 ∷ 10 ∷ 0 ∷ 2 ∷ 0 ∷ 10 ∷ 1 ∷ 0 ∷ 16 ∷ 106 ∷ 97 ∷ 118 ∷ 97 ∷ 47 ∷ 108 ∷ 97 ∷ 110 ∷
    103 ∷ 47 ∷ 83 ∷ 121 ∷ 115 ∷ 116 ∷ 101 ∷ 109 ∷ 7 ∷ 0 ∷ 12 ∷ 1 ∷ 0 ∷ 3 ∷ 111 ∷ 117 ∷ 116 ∷ 1 ∷ 0 ∷ 21 ∷ 76 ∷ 106 ∷ 97 ∷ 118 ∷ 97 ∷ 47 ∷ 105 ∷
    111 ∷ 47 ∷ 80 ∷ 114 ∷ 105 ∷ 110 ∷ 116 ∷ 83 ∷ 116 ∷ 114 ∷ 101 ∷ 97 ∷ 109 ∷ 59 ∷ 12 ∷ 0 ∷ 14 ∷ 0 ∷ 15 ∷ 9 ∷ 0 ∷ 13 ∷ 0 ∷ 16 ∷ 1 ∷ 0 ∷ 19 ∷
    106 ∷ 97 ∷ 118 ∷ 97 ∷ 47 ∷ 105 ∷ 111 ∷ 47 ∷ 80 ∷ 114 ∷ 105 ∷ 110 ∷ 116 ∷ 83 ∷ 116 ∷ 114 ∷ 101 ∷ 97 ∷ 109 ∷ 7 ∷ 0 ∷ 18 ∷ 1 ∷ 0 ∷ 7 ∷ 112 ∷
    114 ∷ 105 ∷ 110 ∷ 116 ∷ 108 ∷ 110 ∷ 1 ∷ 0 ∷ 4 ∷ 40 ∷ 73 ∷ 41 ∷ 86 ∷ 12 ∷ 0 ∷ 20 ∷ 0 ∷ 21 ∷ 10 ∷ 0 ∷ 19 ∷ 0 ∷ 22 ∷ 0 ∷ 33 ∷ 0 ∷ 2 ∷ 0 ∷ 4 ∷
    0 ∷ 0 ∷ 0 ∷ 0 ∷ 0 ∷ 2 ∷ 0 ∷ 9 ∷ 0 ∷ 5 ∷ 0 ∷ 6 ∷ 0 ∷ 1 ∷ 0 ∷ 7 ∷ 0 ∷ 0 ∷ 0 ∷ 19 ∷ 0 ∷ 0 ∷ 0 ∷ 1 ∷ 0 ∷ 0 ∷ 0 ∷ 7 ∷ 184 ∷ 0 ∷ 11 ∷ 184 ∷ 0 ∷
    11 ∷ 177 ∷ 0 ∷ 0 ∷ 0 ∷ 0 ∷ 0 ∷ 9 ∷ 0 ∷ 8 ∷ 0 ∷ 9 ∷ 0 ∷ 1 ∷ 0 ∷ 7 ∷ 0 ∷ 0 ∷ 0 ∷ 21 ∷ 0 ∷ 2 ∷ 0 ∷ 0 ∷ 0 ∷ 0 ∷ 0 ∷ 9 ∷ 178 ∷ 0 ∷ 17 ∷ 16 ∷ 7 ∷
    182 ∷ 0 ∷ 23 ∷ 177 ∷ 0 ∷ 0 ∷ 0 ∷ 0 ∷ 0 ∷ 0 ∷ []

abbrev pub hook_file : List ℕ
hook_file =
    202 ∷ 254 ∷ 186 ∷ 190 ∷ 0 ∷ 0 ∷ 0 ∷ 52 ∷ 0 ∷ 20 ∷ 1 ∷ 0 ∷ 4 ∷ 72 ∷ 111 ∷ 111 ∷ 107 ∷ 7 ∷ 0 ∷ 1 ∷ 1 ∷ 0 ∷ 16 ∷ 106 ∷ 97 ∷ 118 ∷ 97 ∷ 47 ∷
    108 ∷ 97 ∷ 110 ∷ 103 ∷ 47 ∷ 79 ∷ 98 ∷ 106 ∷ 101 ∷ 99 ∷ 116 ∷ 7 ∷ 0 ∷ 3 ∷ 1 ∷ 0 ∷ 3 ∷ 104 ∷ 105 ∷ 116 ∷ 1 ∷ 0 ∷ 3 ∷ 40 ∷ 41 ∷ 86 ∷ 1 ∷ 0 ∷ 4 ∷
    67 ∷ 111 ∷ 100 ∷ 101 ∷ 1 ∷ 0 ∷ 16 ∷ 106 ∷ 97 ∷ 118 ∷ 97 ∷ 47 ∷ 108 ∷ 97 ∷ 110 ∷ 103 ∷ 47 ∷ 83 ∷ 121 ∷ 115 ∷ 116 ∷ 101 ∷ 109 ∷ 7 ∷ 0 ∷ 8 ∷ 1 ∷
    0 ∷ 3 ∷ 111 ∷ 117 ∷ 116 ∷ 1 ∷ 0 ∷ 21 ∷ 76 ∷ 106 ∷ 97 ∷ 118 ∷ 97 ∷ 47 ∷ 105 ∷ 111 ∷ 47 ∷ 80 ∷ 114 ∷ 105 ∷ 110 ∷ 116 ∷ 83 ∷ 116 ∷ 114 ∷ 101 ∷
    97 ∷ 109 ∷ 59 ∷ 12 ∷ 0 ∷ 10 ∷ 0 ∷ 11 ∷ 9 ∷ 0 ∷ 9 ∷ 0 ∷ 12 ∷ 1 ∷ 0 ∷ 19 ∷ 106 ∷ 97 ∷ 118 ∷ 97 ∷ 47 ∷ 105 ∷ 111 ∷ 47 ∷ 80 ∷ 114 ∷ 105 ∷ 110 ∷
    116 ∷ 83 ∷ 116 ∷ 114 ∷ 101 ∷ 97 ∷ 109 ∷ 7 ∷ 0 ∷ 14 ∷ 1 ∷ 0 ∷ 7 ∷ 112 ∷ 114 ∷ 105 ∷ 110 ∷ 116 ∷ 108 ∷ 110 ∷ 1 ∷ 0 ∷ 4 ∷ 40 ∷ 73 ∷ 41 ∷ 86 ∷
    12 ∷ 0 ∷ 16 ∷ 0 ∷ 17 ∷ 10 ∷ 0 ∷ 15 ∷ 0 ∷ 18 ∷ 0 ∷ 33 ∷ 0 ∷ 2 ∷ 0 ∷ 4 ∷ 0 ∷ 0 ∷ 0 ∷ 0 ∷ 0 ∷ 1 ∷ 0 ∷ 9 ∷ 0 ∷ 5 ∷ 0 ∷ 6 ∷ 0 ∷ 1 ∷ 0 ∷ 7 ∷ 0 ∷
    0 ∷ 0 ∷ 20 ∷ 0 ∷ 2 ∷ 0 ∷ 0 ∷ 0 ∷ 0 ∷ 0 ∷ 8 ∷ 178 ∷ 0 ∷ 13 ∷ 4 ∷ 182 ∷ 0 ∷ 19 ∷ 177 ∷ 0 ∷ 0 ∷ 0 ∷ 0 ∷ 0 ∷ 0 ∷ []

abbrev pub entry_agent : agent_type.Agent
entry_agent = record {
  name = codes "entry";
  kind = Native;
  sets = codes "hook" ∷ [];
  rules = record { set = codes "hook"; class = codes "Loop"; edit = Entry (codes "f") (codes "()V") (codes "Hook") (codes "hit") } ∷ [];
  load =
      AddCapabilities (capabilities.Retransform ∷ capabilities.Bytecodes ∷ []) ∷ SetEventNotificationMode true 54 None
      ∷ SetEventNotificationMode true 56 None ∷ UseRules (codes "hook") ∷ [];
  script = [];
  callbacks =
      record {
        event = kinds.ClassPrepare;
        class = Some (codes "Loop");
        thread = None;
        calls =
            RetransformClasses (codes "Loop" ∷ []) ∷ RetransformClasses (codes "Loop" ∷ [])
            ∷ GetBytecodes (codes "Loop") (codes "f") (codes "()V") ∷ [];
      }
      ∷ [];
}

abbrev pub entry : World
entry = with_agent entry_agent (job_of (codes "Loop") (record { name = codes "Loop"; bytes = loop_twice } ∷ record { name = codes "Hook"; bytes = hook_file } ∷ []) 1000)

abbrev pub entry_schedule : List Actor
entry_schedule = replicate 6 Vm ++ replicate 37 (thread 1) ++ replicate 2 Vm

abbrev pub entry_text : List ℕ
entry_text = lines (
    codes "report 1"
    ∷ codes "profile 1"
    ∷ codes "main Loop"
    ∷ codes "schedule v:6 t1:37 v:2"
    ∷ codes "steps 45"
    ∷ codes "end dead"
    ∷ codes "thread 1 ended"
    ∷ codes "output 8"
    ∷ codes "1"
    ∷ codes "7"
    ∷ codes "1"
    ∷ codes "7"
    ∷ codes ""
    ∷ codes "agents 1"
    ∷ codes "agent entry 13"
    ∷ codes "0 AddCapabilities 0"
    ∷ codes "1 SetEventNotificationMode 0"
    ∷ codes "2 SetEventNotificationMode 0"
    ∷ codes "3 UseRules 0"
    ∷ codes "7 ClassFileLoadHook Loop hook 1/1 changed"
    ∷ codes "8 ClassPrepare 1 Loop"
    ∷ codes "9 ClassFileLoadHook Loop hook 1/1 changed"
    ∷ codes "9 RetransformClasses 0"
    ∷ codes "10 ClassFileLoadHook Loop hook 1/1 changed"
    ∷ codes "10 RetransformClasses 0"
    ∷ codes "11 GetBytecodes 0 13 b8001c00b200111007b60017b1"
    ∷ codes "16 ClassFileLoadHook Hook hook 1/1 kept"
    ∷ codes "17 ClassPrepare 1 Hook"
    ∷ [])

abbrev pub EntryRuleIsNotStacked : Type 0
EntryRuleIsNotStacked = IsRow entry entry_schedule Dead entry_text
