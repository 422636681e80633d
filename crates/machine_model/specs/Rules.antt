-- Which actor may make the next step, and by which rule. No call of an agent is ever pending yet.
use Rattle.std.specs.Prelude.{ℕ, ◌+◌, List, [], ◌∷◌, ◌++◌, length, Option, Some, None, option_map, is_some, is_none, Bool, true, false, ◌&&◌, nat_le, IsTrue, if◌then◌else◌}
use Rattle.std.specs.List.{list_all, list_any, flat_map}
use Rattle.ti_ids.specs.declared.actor.Actor.{Actor}
use Rattle.ti_ids.specs.declared.actor.Actor.TheVariants.{Vm, Thread, Agent}
use Rattle.ti_ids.specs.declared.actor.End.{End}
use Rattle.ti_ids.specs.declared.actor.End.TheVariants as ends
use Rattle.ti_ids.specs.declared.state.ThreadState.{ThreadState}
use Rattle.ti_ids.specs.declared.state.ThreadState.TheVariants.{Unbegun, Entering, Running, Ended}
use Rattle.ti_ids.specs.declared.state.InitState.{InitState}
use Rattle.ti_ids.specs.declared.state.InitState.TheVariants as states
use Rattle.ti_codes.specs.declared.phase.Phase.{Phase}
use Rattle.ti_codes.specs.declared.phase.Phase.TheVariants as phases
use Rattle.ti_ids.specs.Maybe.{◌>>=◌}
use Rattle.machine_model.specs.declared.MachineRule.{MachineRule}
use Rattle.machine_model.specs.declared.MachineRule.TheVariants as machines
use Rattle.machine_model.specs.declared.ThreadRule.{ThreadRule}
use Rattle.machine_model.specs.declared.ThreadRule.TheVariants as rules
use Rattle.machine_model.specs.Jobs as jobs
use Rattle.machine_model.specs.Jobs.{Job}
use Rattle.machine_model.specs.Core as core
use Rattle.machine_model.specs.Core.{Core, Frame, Java, Init, thread_at, class_state}
use Rattle.machine_model.specs.Trace.{Entry, log}

pub record State : Type 0 where
  pub core : Core
  pub trace : List Entry
  -- the steps so far
  pub steps : ℕ

abbrev pub is_live : Phase → Bool
is_live phases.OnLoad = false
is_live phases.Primordial = false
is_live phases.Start = false
is_live phases.Live = true
is_live phases.Dead = false

abbrev pub is_dead : Phase → Bool
is_dead phases.OnLoad = false
is_dead phases.Primordial = false
is_dead phases.Start = false
is_dead phases.Live = false
is_dead phases.Dead = true

abbrev pub is_over : ThreadState → Bool
is_over Unbegun = false
is_over Entering = false
is_over Running = false
is_over Ended = true

abbrev pub has_ended : core.Thread → Bool
has_ended thread = is_over thread.state

-- ---- the machine's own rules

-- in phase Live: once VMDeath was raised it dies; it is raised once every thread has ended
abbrev pub live_rule : Bool → Bool → Option MachineRule
live_rule true all_ended = Some machines.Die
live_rule false true = Some machines.RaiseDeath
live_rule false false = None

abbrev pub rule_in : Phase → Option MachineRule → Option MachineRule
rule_in phases.OnLoad live = Some machines.Start
rule_in phases.Primordial live = None
rule_in phases.Start live = Some machines.Init
rule_in phases.Live live = live
rule_in phases.Dead live = None

abbrev pub machine_rule : Core → Option MachineRule
machine_rule c = rule_in c.phase (live_rule c.died (list_all has_ended c.threads))

-- ---- a thread's rules

-- what main still needs of its class, or else the entry of main (JVM specification 5.3 to 5.5)
abbrev pub entry_rule : Option InitState → ThreadRule
entry_rule None = rules.Load
entry_rule (Some states.Loaded) = rules.Link
entry_rule (Some states.Linked) = rules.BeginInit
entry_rule (Some (states.InProgress t)) = rules.Enter
entry_rule (Some states.Initialized) = rules.Enter
-- nothing throws in this machine, so that no class becomes erroneous
entry_rule (Some states.Erroneous) = rules.Enter

-- a thread that has begun goes by its top frame
abbrev pub frame_rule : List Frame → ThreadRule → ThreadRule
frame_rule (Java f ∷ frames) otherwise = rules.Execute
frame_rule (Init name place ∷ frames) otherwise = rules.EndInit
frame_rule [] otherwise = otherwise

abbrev pub rule_for : ThreadState → List Frame → ThreadRule → Option ThreadRule
rule_for Unbegun frames entry = Some rules.Begin
rule_for Entering frames entry = Some (frame_rule frames entry)
rule_for Running frames entry = Some (frame_rule frames rules.Finish)
rule_for Ended frames entry = None

abbrev pub thread_rule : Job → Core → core.Thread → Option ThreadRule
thread_rule job c thread = rule_for thread.state thread.frames (entry_rule (class_state c job.main))

abbrev pub ruled : Job → Core → core.Thread → Option (core.Thread × ThreadRule)
ruled job c thread = option_map (λ rule. (thread, rule)) (thread_rule job c thread)

-- the thread and its rule, where it is ready
abbrev pub ready_thread : Job → Core → ℕ → Option (core.Thread × ThreadRule)
ready_thread job c t = if is_live c.phase then thread_at c t >>= ruled job c else None

abbrev pub is_ready : Job → Core → Actor → Bool
is_ready job c Vm = is_some (machine_rule c)
is_ready job c (Thread t) = is_some (ready_thread job c t.0)
is_ready job c (Agent e) = false

-- ---- the end of a run

abbrev pub numbered_threads : ℕ → List core.Thread → List Actor
numbered_threads n [] = []
numbered_threads n (t ∷ threads) = Thread (record { 0 = n }) ∷ numbered_threads (n + 1) threads

abbrev pub numbered_agents : ℕ → List jobs.Agent → List Actor
numbered_agents n [] = []
numbered_agents n (a ∷ agents) = Agent (record { 0 = n }) ∷ numbered_agents (n + 1) agents

-- in the order in which they are picked
abbrev pub actors : Job → Core → List Actor
actors job c = Vm ∷ numbered_threads 1 c.threads ++ numbered_agents 1 job.agents

abbrev pub lines_from : List Entry → ℕ → List jobs.Agent → List (List ℕ)
lines_from trace n [] = []
lines_from trace n (a ∷ agents) = log trace n ++ lines_from trace (n + 1) agents

-- the lines of all logs
abbrev pub all_lines : Job → State → List (List ℕ)
all_lines job s = lines_from s.trace 1 job.agents

-- as soon as all logs have so many bytes, without line feeds, the run ends
abbrev pub log_bytes : ℕ
log_bytes = 67108864

abbrev pub is_logged_out : Job → State → Bool
is_logged_out job s =
    let lines = all_lines job s in if nat_le job.limits.lines (length lines) then true else nat_le log_bytes (length (flat_map (λ line. line) lines))

abbrev pub any_ready : Job → State → Bool
any_ready job s = list_any (is_ready job s.core) (actors job s.core)

-- why there is no next step
abbrev pub end : Job → State → Option End
end job s =
    if is_dead s.core.phase then Some ends.Dead
    else if nat_le job.limits.steps s.steps then Some ends.StepLimit
    else if is_logged_out job s then Some ends.LineLimit
    else if nat_le job.limits.output (length s.core.output) then Some ends.OutputLimit
    else if any_ready job s then None
    else Some ends.Stuck

-- whether the actor may make the next step
abbrev pub is_enabled : Job → State → Actor → Bool
is_enabled job s actor = is_none (end job s) && is_ready job s.core actor

abbrev pub IsEnabled : Job → State → Actor → Type 0
IsEnabled job s actor = IsTrue (is_enabled job s actor)
