-- How a run ends, and which actor may make the next step.
use Rattle.std.specs.Prelude.{ℕ, ◌+◌, List, [], ◌∷◌, ◌++◌, length, sum_by, Option, Some, None, is_none, Bool, true, false, ◌&&◌, ◌||◌, nat_le, IsTrue, if◌then◌else◌}
use Rattle.std.specs.List.{list_any}
use Rattle.ti_ids.specs.declared.actor.Actor.{Actor}
use Rattle.ti_ids.specs.declared.actor.Actor.TheVariants.{Vm, Thread, Agent}
use Rattle.ti_ids.specs.declared.actor.End.{End}
use Rattle.ti_ids.specs.declared.actor.End.TheVariants as ends
use Rattle.ti_codes.specs.declared.phase.Phase.{Phase}
use Rattle.ti_codes.specs.declared.phase.Phase.TheVariants as phases
use Rattle.agent_types.specs.declared.agent.Agent as agent_type
use Rattle.machine_state.specs.Jobs.{Job}
use Rattle.machine_state.specs.Core as core
use Rattle.machine_state.specs.Trace.{Trace}
use Rattle.machine_state.specs.Logs.{log}
use Rattle.machine_state.specs.Acts.{State}
use Rattle.machine_steps.specs.World.{World}
use Rattle.machine_steps.specs.Actors.{is_ready}

-- ---- all actors, in the order in which they are picked

abbrev pub numbered_threads : ℕ → List core.Thread → List Actor
numbered_threads n [] = []
numbered_threads n (t ∷ threads) = Thread (record { 0 = n }) ∷ numbered_threads (n + 1) threads

abbrev pub numbered_agents : ℕ → List agent_type.Agent → List Actor
numbered_agents n [] = []
numbered_agents n (a ∷ agents) = Agent (record { 0 = n }) ∷ numbered_agents (n + 1) agents

-- the machine, the threads, the agents
abbrev pub actors : Job → State → List Actor
actors job s = Vm ∷ numbered_threads 1 s.core.threads ++ numbered_agents 1 job.agents

-- ---- the logs of all environments

abbrev pub lines_from : Job → Trace → ℕ → List agent_type.Agent → List (List ℕ)
lines_from job trace n [] = []
lines_from job trace n (a ∷ agents) = log job trace (record { 0 = n }) ++ lines_from job trace (n + 1) agents

abbrev pub all_lines : Job → Trace → List (List ℕ)
all_lines job trace = lines_from job trace 1 job.agents

-- as soon as all logs have so many bytes, without line feeds, the run ends
abbrev pub most_log_bytes : ℕ
most_log_bytes = 67108864

abbrev pub is_logged_out : Job → Trace → Bool
is_logged_out job trace = let lines = all_lines job trace in nat_le job.limits.lines (length lines) || nat_le most_log_bytes (sum_by length lines)

-- ---- the end

abbrev pub is_dead : Phase → Bool
is_dead phases.Dead = true
is_dead _ = false

abbrev pub any_ready : World → State → Bool
any_ready w s = list_any (is_ready w s) (actors w.job s)

-- the first of these that holds
abbrev pub end : World → State → Option End
end w s =
    if is_dead s.core.phase then Some ends.Dead
    else if nat_le w.job.limits.steps s.steps then Some ends.StepLimit
    else if is_logged_out w.job s.trace then Some ends.LineLimit
    else if nat_le w.job.limits.output (length s.core.output) then Some ends.OutputLimit
    else if any_ready w s then None
    else Some ends.Stuck

-- After an end no actor is enabled.
abbrev pub is_enabled : World → State → Actor → Bool
is_enabled w s actor = is_none (end w s) && is_ready w s actor

abbrev pub IsEnabled : World → State → Actor → Type 0
IsEnabled w s actor = IsTrue (is_enabled w s actor)
