-- A worked row with two environments, each of which has a tag of its own for one object.
use Rattle.std.specs.Prelude.{ℕ, pos, negsuc, List, [], ◌∷◌, ◌++◌, None, true, codes, replicate}
use Rattle.ti_ids.specs.declared.actor.Actor.{Actor}
use Rattle.ti_ids.specs.declared.actor.Actor.TheVariants.{Vm}
use Rattle.ti_ids.specs.declared.actor.End.TheVariants.{Dead}
use Rattle.ti_codes.specs.declared.capability.Capability.TheVariants as capabilities
use Rattle.ti_codes.specs.declared.event.EventKind.TheVariants as kinds
use Rattle.agent_types.specs.declared.agent.Agent as agent_type
use Rattle.agent_types.specs.declared.call.Call.{Call}
use Rattle.agent_types.specs.declared.agent.AgentKind.TheVariants.{Native}
use Rattle.agent_types.specs.declared.call.Call.TheVariants.{AddCapabilities, SetEventNotificationMode, SetTag, GetTag, IterateThroughHeap}
use Rattle.machine_steps.specs.World.{World}
use Rattle.machine_rows.specs.Lines.{lines}
use Rattle.machine_rows.specs.Rows.{thread, agent, IsRow}
use Rattle.machine_rows.specs.LimitRows.{add_job}
use Rattle.machine_rows.specs.ChainRows.{with_agents}

-- what both agents load
abbrev pub loads : List Call
loads = AddCapabilities (capabilities.Tag ∷ []) ∷ SetEventNotificationMode true 50 None ∷ []

abbrev pub tags_1 : agent_type.Agent
tags_1 = record {
  name = codes "t1";
  kind = Native;
  sets = [];
  rules = [];
  load = loads;
  script = record { at = 0; call = GetTag 3 } ∷ record { at = 0; call = IterateThroughHeap 4 None None } ∷ [];
  callbacks = record { event = kinds.VMInit; class = None; thread = None; calls = SetTag 3 (pos 5) ∷ [] } ∷ [];
}

abbrev pub tags_2 : agent_type.Agent
tags_2 = record {
  name = codes "t2";
  kind = Native;
  sets = [];
  rules = [];
  load = loads;
  script = [];
  callbacks = record { event = kinds.VMInit; class = None; thread = None; calls = SetTag 3 (negsuc 0) ∷ GetTag 3 ∷ [] } ∷ [];
}

abbrev pub tags : World
tags = with_agents (tags_1 ∷ tags_2 ∷ []) add_job

abbrev pub tags_schedule : List Actor
tags_schedule = replicate 9 Vm ++ replicate 13 (thread 1) ++ replicate 2 (agent 1) ++ replicate 2 Vm

abbrev pub tags_text : List ℕ
tags_text = lines (
    codes "report 1"
    ∷ codes "profile 1"
    ∷ codes "main Add"
    ∷ codes "schedule v:9 t1:13 a1:2 v:2"
    ∷ codes "steps 26"
    ∷ codes "end dead"
    ∷ codes "thread 1 ended"
    ∷ codes "output 2"
    ∷ codes "5"
    ∷ codes ""
    ∷ codes "agents 2"
    ∷ codes "agent t1 6"
    ∷ codes "0 AddCapabilities 0"
    ∷ codes "1 SetEventNotificationMode 0"
    ∷ codes "5 VMInit 1"
    ∷ codes "6 SetTag 0"
    ∷ codes "22 GetTag 0 5"
    ∷ codes "23 IterateThroughHeap 0 3 1 2 4"
    ∷ codes "agent t2 5"
    ∷ codes "2 AddCapabilities 0"
    ∷ codes "3 SetEventNotificationMode 0"
    ∷ codes "5 VMInit 1"
    ∷ codes "7 SetTag 0"
    ∷ codes "8 GetTag 0 -1"
    ∷ [])

abbrev pub TagsOfEachEnvironment : Type 0
TagsOfEachEnvironment = IsRow tags tags_schedule Dead tags_text
