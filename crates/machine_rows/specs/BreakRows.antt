-- Worked rows with breakpoints: one that is met at each call, and one that a new version of its class clears.
use Rattle.std.specs.Prelude.{ℕ, List, [], ◌∷◌, ◌++◌, None, true, codes, replicate}
use Rattle.ti_ids.specs.declared.actor.Actor.{Actor}
use Rattle.ti_ids.specs.declared.actor.Actor.TheVariants.{Vm}
use Rattle.ti_ids.specs.declared.actor.End.TheVariants.{Dead}
use Rattle.ti_codes.specs.declared.capability.Capability.TheVariants as capabilities
use Rattle.ti_codes.specs.declared.event.EventKind.TheVariants as kinds
use Rattle.agent_types.specs.declared.agent.Agent as agent_type
use Rattle.agent_types.specs.declared.call.Call.{Call}
use Rattle.agent_types.specs.declared.agent.AgentKind.TheVariants.{Native}
use Rattle.agent_types.specs.declared.call.Call.TheVariants.{AddCapabilities, SetEventNotificationMode, SetBreakpoint, ClearBreakpoint, RetransformClasses}
use Rattle.machine_steps.specs.World.{World}
use Rattle.machine_rows.specs.Lines.{lines}
use Rattle.machine_rows.specs.Rows.{thread, IsRow}
use Rattle.machine_rows.specs.ChainRows.{with_agents, loop_job}

-- the beginning of `f`
abbrev pub sets : Call
sets = SetBreakpoint (codes "Loop") (codes "f") (codes "()V") 0

-- ---- breakpoint twice

abbrev pub twice_1 : agent_type.Agent
twice_1 = record {
  name = codes "one";
  kind = Native;
  sets = [];
  rules = [];
  load =
      AddCapabilities (capabilities.Breakpoint ∷ [])
      ∷ SetEventNotificationMode true 56 None ∷ SetEventNotificationMode true 62 None ∷ [];
  script = [];
  callbacks = record { event = kinds.ClassPrepare; class = None; thread = None; calls = sets ∷ [] } ∷ [];
}

abbrev pub twice : World
twice = with_agents (twice_1 ∷ []) loop_job

abbrev pub twice_schedule : List Actor
twice_schedule = replicate 5 Vm ++ replicate 19 (thread 1) ++ replicate 2 Vm

abbrev pub twice_text : List ℕ
twice_text = lines (
    codes "report 1"
    ∷ codes "profile 1"
    ∷ codes "main Loop"
    ∷ codes "schedule v:5 t1:19 v:2"
    ∷ codes "steps 26"
    ∷ codes "end dead"
    ∷ codes "thread 1 ended"
    ∷ codes "output 4"
    ∷ codes "7"
    ∷ codes "7"
    ∷ codes ""
    ∷ codes "agents 1"
    ∷ codes "agent one 7"
    ∷ codes "0 AddCapabilities 0"
    ∷ codes "1 SetEventNotificationMode 0"
    ∷ codes "2 SetEventNotificationMode 0"
    ∷ codes "7 ClassPrepare 1 Loop"
    ∷ codes "8 SetBreakpoint 0"
    ∷ codes "13 Breakpoint 1 Loop.f()V@0"
    ∷ codes "18 Breakpoint 1 Loop.f()V@0"
    ∷ [])

abbrev pub BreakpointTwice : Type 0
BreakpointTwice = IsRow twice twice_schedule Dead twice_text

-- ---- installing clears breakpoints

abbrev pub clearing_1 : agent_type.Agent
clearing_1 = record {
  name = codes "breaks";
  kind = Native;
  sets = [];
  rules = [];
  load = AddCapabilities (capabilities.Retransform ∷ capabilities.Breakpoint ∷ []) ∷ SetEventNotificationMode true 56 None ∷ [];
  script = [];
  callbacks =
      record {
        event = kinds.ClassPrepare;
        class = None;
        thread = None;
        calls = sets ∷ sets ∷ RetransformClasses (codes "Loop" ∷ []) ∷ ClearBreakpoint (codes "Loop") (codes "f") (codes "()V") 0 ∷ [];
      }
      ∷ [];
}

abbrev pub clearing : World
clearing = with_agents (clearing_1 ∷ []) loop_job

abbrev pub clearing_schedule : List Actor
clearing_schedule = replicate 4 Vm ++ replicate 22 (thread 1) ++ replicate 2 Vm

abbrev pub clearing_text : List ℕ
clearing_text = lines (
    codes "report 1"
    ∷ codes "profile 1"
    ∷ codes "main Loop"
    ∷ codes "schedule v:4 t1:22 v:2"
    ∷ codes "steps 28"
    ∷ codes "end dead"
    ∷ codes "thread 1 ended"
    ∷ codes "output 4"
    ∷ codes "7"
    ∷ codes "7"
    ∷ codes ""
    ∷ codes "agents 1"
    ∷ codes "agent breaks 7"
    ∷ codes "0 AddCapabilities 0"
    ∷ codes "1 SetEventNotificationMode 0"
    ∷ codes "6 ClassPrepare 1 Loop"
    ∷ codes "7 SetBreakpoint 0"
    ∷ codes "8 SetBreakpoint 40"
    ∷ codes "9 RetransformClasses 0"
    ∷ codes "10 ClearBreakpoint 41"
    ∷ [])

abbrev pub InstallingClearsBreakpoints : Type 0
InstallingClearsBreakpoints = IsRow clearing clearing_schedule Dead clearing_text
