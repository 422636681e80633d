-- The text of a report, as its lines. Each line ends in a line feed; the line of the output is the printed bytes, which
-- may have line feeds of their own.
use Rattle.std.specs.Prelude.{ℕ, ◌+◌, List, [], ◌∷◌, ◌++◌, Option, Some, None, length, codes, decimal, flat_map}
use Rattle.ti_ids.specs.declared.actor.Actor.{Actor}
use Rattle.ti_ids.specs.declared.actor.Actor.TheVariants.{Vm, Thread, Agent}
use Rattle.ti_ids.specs.declared.actor.End.{End}
use Rattle.ti_ids.specs.declared.actor.End.TheVariants.{Dead, StepLimit, LineLimit, OutputLimit, Stuck}
use Rattle.jv_names.specs.Names.{printed}
use Rattle.report_text.specs.declared.run.Run.{Run}
use Rattle.report_text.specs.declared.thread_line.ThreadLine.{ThreadLine}
use Rattle.report_text.specs.declared.thread_line.ThreadLine.TheVariants.{Ended, Uncaught, Live}
use Rattle.report_text.specs.declared.agent_log.AgentLog.{AgentLog}
use Rattle.report_text.specs.declared.parts.ReportParts.{ReportParts}

abbrev pub line : List ℕ → List ℕ
line text = text ++ 10 ∷ []

-- `v`, `t` and a thread's number, or `a` and an agent's
abbrev pub actor_text : Actor → List ℕ
actor_text Vm = codes "v"
actor_text (Thread thread) = 116 ∷ decimal thread.0
actor_text (Agent agent) = 97 ∷ decimal agent.0

-- behind a space: the actor, a colon, and the number of its steps
abbrev pub run_text : Run → List ℕ
run_text run = 32 ∷ actor_text run.actor ++ 58 ∷ decimal run.count

abbrev pub schedule_text : List Run → List ℕ
schedule_text runs = codes "schedule" ++ flat_map run_text runs

abbrev pub end_text : Option End → List ℕ
end_text None = codes "cut"
end_text (Some Dead) = codes "dead"
end_text (Some StepLimit) = codes "step-limit"
end_text (Some LineLimit) = codes "line-limit"
end_text (Some OutputLimit) = codes "output-limit"
end_text (Some Stuck) = codes "stuck"

-- how a thread stands, with the class of what it did not catch
abbrev pub standing_text : ThreadLine → List ℕ
standing_text Ended = codes "ended"
standing_text (Uncaught class) = codes "uncaught " ++ printed class
standing_text Live = codes "live"

abbrev pub thread_text : ℕ → ThreadLine → List ℕ
thread_text number thread = codes "thread " ++ (decimal number ++ 32 ∷ standing_text thread)

-- a line for each thread, by number from the first one's
abbrev pub thread_texts : ℕ → List ThreadLine → List (List ℕ)
thread_texts first [] = []
thread_texts first (thread ∷ threads) = thread_text first thread ∷ thread_texts (first + 1) threads

-- the number of bytes, and these bytes
abbrev pub output_texts : List ℕ → List (List ℕ)
output_texts output = (codes "output " ++ decimal (length output)) ∷ output ∷ []

-- an agent's name and the number of its log lines, and the lines
abbrev pub agent_texts : AgentLog → List (List ℕ)
agent_texts agent = (codes "agent " ++ (agent.name ++ 32 ∷ decimal (length agent.lines))) ∷ agent.lines

abbrev pub agents_texts : List AgentLog → List (List ℕ)
agents_texts agents = (codes "agents " ++ decimal (length agents)) ∷ flat_map agent_texts agents

-- how many steps were made, and why no more
abbrev pub end_texts : ℕ → Option End → List (List ℕ)
end_texts steps end = (codes "steps " ++ decimal steps) ∷ (codes "end " ++ end_text end) ∷ []

-- what was run, by which schedule, and how it is over
abbrev pub front_texts : ReportParts → List (List ℕ)
front_texts parts =
    codes "report 1"
    ∷ codes "profile 1"
    ∷ (codes "main " ++ printed parts.main)
    ∷ schedule_text parts.runs
    ∷ end_texts parts.steps parts.end

-- what came of it
abbrev pub back_texts : ReportParts → List (List ℕ)
back_texts parts = thread_texts 1 parts.threads ++ (output_texts parts.output ++ agents_texts parts.agents)

unfoldable pub report_text : ReportParts → List ℕ
report_text parts = flat_map line (front_texts parts ++ back_texts parts)
