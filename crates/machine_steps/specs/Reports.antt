-- The report of a run.
use Rattle.std.specs.Prelude.{ℕ, ◌+◌, List, [], ◌∷◌, map, length, Option}
use Rattle.ti_ids.specs.declared.actor.Actor.{Actor}
use Rattle.ti_ids.specs.declared.actor.End.{End}
use Rattle.ti_ids.specs.declared.state.ThreadState.{ThreadState}
use Rattle.ti_ids.specs.declared.state.ThreadState.TheVariants as states
use Rattle.report_text.specs.declared.parts.ReportParts.{ReportParts}
use Rattle.report_text.specs.declared.thread_line.ThreadLine.{ThreadLine}
use Rattle.report_text.specs.declared.thread_line.ThreadLine.TheVariants.{Ended, Uncaught, Live}
use Rattle.report_text.specs.declared.agent_log.AgentLog.{AgentLog}
use Rattle.report_text.specs.Runs.{runs_of}
use Rattle.report_text.specs.Texts.{report_text}
use Rattle.link_versions.specs.Classes.{Class}
use Rattle.agent_types.specs.declared.agent.Agent as agent_type
use Rattle.machine_state.specs.Jobs.{Job}
use Rattle.machine_state.specs.Core as core
use Rattle.ti_ids.specs.declared.state.Activity.{Activity}
use Rattle.ti_ids.specs.declared.state.Activity.TheVariants.{Throwing}
use Rattle.machine_state.specs.Core.{Core}
use Rattle.machine_state.specs.Trace.{Trace}
use Rattle.machine_state.specs.Logs.{log}
use Rattle.machine_state.specs.Acts.{State}
use Rattle.machine_steps.specs.World.{World}
use Rattle.machine_steps.specs.Sites.{classes_now}
use Rattle.machine_steps.specs.Throwing.{class_name_of}
use Rattle.machine_steps.specs.Replay.{state}

-- ---- how a thread stands

-- one that ended while it threw ended by that exception
abbrev pub ended_line : List Class → Core → Activity → ThreadLine
ended_line classes core (Throwing o) = Uncaught (class_name_of classes core o)
ended_line classes core _ = Ended

abbrev pub line_in : List Class → Core → core.Thread → ThreadState → ThreadLine
line_in classes core thread states.Ended = ended_line classes core thread.activity
line_in classes core thread _ = Live

abbrev pub thread_line : List Class → Core → core.Thread → ThreadLine
thread_line classes core thread = line_in classes core thread thread.state

-- ---- the logs of the agents, from this environment on

abbrev pub logs_from : Job → Trace → ℕ → List agent_type.Agent → List AgentLog
logs_from job trace n [] = []
logs_from job trace n (agent ∷ agents) = record { name = agent.name; lines = log job trace (record { 0 = n }) } ∷ logs_from job trace (n + 1) agents

-- ---- the report

-- what it prints of a state that a schedule has led to
abbrev pub parts_of : World → State → List Actor → Option End → ReportParts
parts_of w s schedule end = record {
  main = w.job.main;
  runs = runs_of schedule;
  steps = length schedule;
  end = end;
  threads = map (thread_line (classes_now w s) s.core) s.core.threads;
  output = s.core.output;
  agents = logs_from w.job s.trace 1 w.job.agents;
}

-- the schedule, how the run ended, how its threads stand, its output and its logs
abbrev pub report_parts : World → List Actor → Option End → ReportParts
report_parts w schedule end = parts_of w (state w schedule) schedule end

-- the report's text
abbrev pub report : World → List Actor → Option End → List ℕ
report w schedule end = report_text (report_parts w schedule end)
