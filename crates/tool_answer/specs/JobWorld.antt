-- The world of a job: what agents' files say, what rules make of classes, and what calls answer. Nothing of a run is left to be given but
-- its job.
use Rattle.std.specs.Option.{option_and_then}
use Rattle.rule_file.specs.Saying.{read_agent}
use Rattle.rule_edit.specs.Turns.{set_turn}
use Rattle.machine_state.specs.Jobs.{Job, agent_at}
use Rattle.machine_state.specs.Versions.{Turns}
use Rattle.machine_steps.specs.World.{World, Meaning, world_of}
use Rattle.tool_answer.specs.Answers.{calls_refuse, calls_answer}

-- what the rules of an environment's set make: those of its agent's file
abbrev pub rules_turn : Job → Turns
rules_turn job env set class bytes = option_and_then (λ agent. set_turn job.donors agent.rules set class bytes) (agent_at job env)

abbrev pub meaning : Meaning
meaning = record {
  read_agent = read_agent;
  turns = rules_turn;
  refuses = λ job. calls_refuse job (rules_turn job);
  answers = λ job. calls_answer job (rules_turn job);
}

abbrev pub job_world : Job → World
job_world job = world_of meaning job
