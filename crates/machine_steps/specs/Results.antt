-- What words and files ask for: a task, or the first refusal with its place. Refusals come in this order: the shape of the words; the
-- numbers of files; the fetches of classes, donors, agents and the schedule; the class files; the agent files; the schedule's text.
-- Only then is anything run, and nothing here knows a step.
use Rattle.std.specs.Prelude.{ℕ, ◌+◌, List, [], ◌∷◌, length, map, Some, None, Result, Ok, Err}
use Rattle.std.specs.List.{zip}
use Rattle.ti_ids.specs.declared.actor.Actor.{Actor}
use Rattle.jv_names.specs.Names.{Name}
use Rattle.job_words.specs.declared.input_limit.InputLimit.TheVariants.{ScheduleBytes}
use Rattle.job_words.specs.declared.refusal.Refusal.TheVariants.{Usage, BadAgent}
use Rattle.job_words.specs.Options.{Word}
use Rattle.job_words.specs.Words.{Given, Request, RunRequest, ReplayRequest, MakeRequest, request_of}
use Rattle.job_words.specs.Fetches.{Admitted, ◌>>=◌, number_of_files, Files, fetched, fetched_all, fetches, class_contents, donor_contents, agent_contents}
use Rattle.job_words.specs.Contents.{class_names, schedule_in}
use Rattle.agent_types.specs.declared.agent.Agent as agent_type
use Rattle.machine_state.specs.Jobs.{Job, File}
use Rattle.machine_steps.specs.World.{AgentReading}

pub data Task : Type 0 where
  -- with so many workers
  RunTask : Job → ℕ → Task
  ReplayTask : Job → List Actor → Task
  -- the made job of this number and this size
  MakeTask : ℕ → ℕ → Task

-- class files, by the names of their classes
abbrev pub named : List Name → List (List ℕ) → List File
named names contents = map (λ file. record { name = file.0; bytes = file.1 }) (zip names contents)

-- what an agent file says, where there are so many donors
module _ (read_agent : AgentReading) where
  abbrev pub agent_file : ℕ → ℕ → List ℕ → Admitted agent_type.Agent
  agent_file donors place bytes = elim (read_agent bytes donors) [ Err fault ↦ Err (BadAgent place fault) | Ok agent ↦ Ok agent ]

  abbrev pub agent_files : ℕ → ℕ → List (List ℕ) → Admitted (List agent_type.Agent)
  agent_files donors place [] = Ok []
  agent_files donors place (bytes ∷ others) =
      agent_file donors place bytes >>= λ agent. agent_files donors (place + 1) others >>= λ agents. Ok (agent ∷ agents)

  abbrev pub job_of : Given → List (List ℕ) → Admitted Job
  job_of given contents =
      let classes = class_contents given contents in
      class_names 1 [] classes >>= λ names. agent_files (length given.donors) 1 (agent_contents given contents) >>= λ agents.
      Ok (record {
        main = given.main;
        files = named names classes;
        donors = donor_contents given contents;
        agents = agents;
        limits = given.limits;
      })

  abbrev pub task_of : Files → Request → Admitted Task
  task_of files (RunRequest given workers) =
      number_of_files given >>= λ n. fetched_all files 1 0 (fetches given) >>= λ contents.
      job_of given contents >>= λ job. Ok (RunTask job workers)
  task_of files (ReplayRequest given name) =
      number_of_files given >>= λ n. fetched_all files 1 0 (fetches given) >>= λ contents.
      fetched ScheduleBytes (n + 1) (files (n + 1) name) >>= λ text.
      job_of given contents >>= λ job. schedule_in text >>= λ schedule. Ok (ReplayTask job schedule)
  task_of files (MakeRequest number size) = Ok (MakeTask number size)

  -- the first refusal, or the task
  abbrev pub result_of : List Word → Files → Admitted Task
  result_of words files = elim (request_of words) [ None ↦ Err Usage | Some request ↦ task_of files request ]
