-- The world of a run: its job, and what its rules and calls mean. Everything else of the machine cites these and nothing behind them. So
-- what comes to be defined of rules, calls and agents' files changes this file alone.
use Rattle.std.specs.Prelude.{ℕ, List, Option, Result}
use Rattle.ti_ids.specs.declared.number.EnvNo.{EnvNo}
use Rattle.ti_ids.specs.declared.actor.Actor.{Actor}
use Rattle.ti_codes.specs.declared.error.ErrorCode.{ErrorCode}
use Rattle.job_words.specs.declared.agent_fault.AgentFault.{AgentFault}
use Rattle.agent_types.specs.declared.agent.Agent.{Agent}
use Rattle.agent_types.specs.declared.call.Call.{Call}
use Rattle.machine_state.specs.Jobs.{Job}
use Rattle.machine_state.specs.Trace.{Reply}
use Rattle.machine_state.specs.Versions.{Turns}
use Rattle.machine_state.specs.Acts.{State, Act}

-- What refuses an environment's call that an actor performs before anything is done for it, if anything does. The state is that in which
-- the call has been taken from its queue or its script.
abbrev pub CallRefusals : Type 0
CallRefusals = State → EnvNo → Call → Actor → Option ErrorCode

-- What a call answers: its code, which still may be an error; the values of its reply; and what it does besides, without the record of the
-- reply, which comes last.
pub record Answer : Type 0 where
  pub code : ErrorCode
  pub values : Reply
  pub acts : List Act

-- of a call that isn't refused so
abbrev pub CallAnswers : Type 0
CallAnswers = State → EnvNo → Call → Actor → Answer

pub record World : Type 0 where
  pub job : Job
  -- what the rules of a set make of a class's bytes
  pub turns : Turns
  pub refuses : CallRefusals
  pub answers : CallAnswers

-- ---- the world of a job

-- what an agent's file says, where there are so many donors
abbrev pub AgentReading : Type 0
AgentReading = List ℕ → ℕ → Result Agent AgentFault

-- what agents' files say, and what rules and calls mean in each job
pub record Meaning : Type 0 where
  pub read_agent : AgentReading
  pub turns : Job → Turns
  pub refuses : Job → CallRefusals
  pub answers : Job → CallAnswers

-- The slice says which actor one worker picks, and nothing of what an actor's step does. So the world of a job has none, and two jobs that
-- differ in it alone have one world.
abbrev pub unsliced : Job → Job
unsliced job = record job { limits = record job.limits { slice = 0 } }

abbrev pub world_in : Meaning → Job → World
world_in meaning job = record { job = job; turns = meaning.turns job; refuses = meaning.refuses job; answers = meaning.answers job }

abbrev pub world_of : Meaning → Job → World
world_of meaning job = world_in meaning (unsliced job)
