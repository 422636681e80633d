-- The report of a run.
use Rattle.std.specs.Prelude.{ℕ, ◌+◌, List, [], ◌∷◌, map, length, Option}
use Rattle.ti_ids.specs.declared.actor.Actor.{Actor}
use Rattle.ti_ids.specs.declared.actor.End.{End}
use Rattle.ti_ids.specs.declared.state.ThreadState.{ThreadState}
use Rattle.ti_ids.specs.declared.state.ThreadState.TheVariants as states
use Rattle.report_text.specs.declared.parts.ReportParts.{ReportParts}
use Rattle.report_text.specs.declared.thread_line.ThreadLine.{ThreadLine}
use Rattle.report_text.specs.declared.thread_line.ThreadLine.TheVariants.{Ended, Live}
use Rattle.report_text.specs.declared.agent_log.AgentLog.{AgentLog}
use Rattle.report_text.specs.Runs.{runs_of}
use Rattle.report_text.specs.Texts.{report_text}
use Rattle.machine_model.specs.Jobs as jobs
use Rattle.machine_model.specs.Jobs.{Job}
use Rattle.machine_model.specs.Core as core
use Rattle.machine_model.specs.Trace.{Entry, log}
use Rattle.machine_model.specs.Replay.{state}

abbrev pub standing : ThreadState → ThreadLine
standing states.Unbegun = Live
standing states.Entering = Live
standing states.Running = Live
standing states.Ended = Ended

-- how a thread stands
abbrev pub thread_line : core.Thread → ThreadLine
thread_line thread = standing thread.state

-- the logs of the agents, from this environment on
abbrev pub logs_from : List Entry → ℕ → List jobs.Agent → List AgentLog
logs_from trace n [] = []
logs_from trace n (agent ∷ agents) = record { name = agent.name; lines = log trace n } ∷ logs_from trace (n + 1) agents

-- what the report of a run prints: the schedule, how the run ended, how its threads stand, its output and its logs
abbrev pub report_parts : Job → List Actor → Option End → ReportParts
report_parts job schedule end =
    let s = state job schedule in record {
      main = job.main;
      runs = runs_of schedule;
      steps = length schedule;
      end = end;
      threads = map thread_line s.core.threads;
      output = s.core.output;
      agents = logs_from s.trace 1 job.agents;
    }

-- the report's text
abbrev pub report : Job → List Actor → Option End → List ℕ
report job schedule end = report_text (report_parts job schedule end)
