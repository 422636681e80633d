-- Tool calls as they come to be performed. A call waits in the queue of an actor, or is the next one of an agent's script; it is taken
-- from there, and what it does goes by the state in which it has been taken.
use Rattle.std.specs.Prelude.{Bool, List, [], ◌∷◌, ◌++◌, Option, Some, None, option_map, is_some, slice_get}
use Rattle.ti_ids.specs.declared.number.EnvNo.{EnvNo}
use Rattle.ti_ids.specs.declared.actor.Actor.{Actor}
use Rattle.ti_codes.specs.declared.error.ErrorCode.{ErrorCode}
use Rattle.agent_types.specs.declared.call.Call.{Call}
use Rattle.machine_state.specs.Core.{Core, Pending, queue_of}
use Rattle.agent_types.specs.Calls.{kind_of_call}
use Rattle.machine_state.specs.Trace.{Replied}
use Rattle.machine_state.specs.Acts.{State, Act, Change, Changes, Notes, TakesCall, TakesScript, changed}
use Rattle.machine_steps.specs.World.{World, Answer}

-- ---- calls that wait

-- the first one that waits for an actor
abbrev pub waiting_call : Core → Actor → Option Pending
waiting_call core actor = slice_get (queue_of core actor) 0

abbrev pub has_calls : Core → Actor → Bool
has_calls core actor = is_some (waiting_call core actor)

-- ---- the call that comes next

-- a call, and the change that takes it from where it stands
pub record NextCall : Type 0 where
  pub take : Change
  pub pending : Pending

-- one of an actor's queue, and one of a script
abbrev pub queued : Actor → Pending → NextCall
queued actor p = record { take = TakesCall actor; pending = p }

abbrev pub scripted : EnvNo → Call → NextCall
scripted env call = record { take = TakesScript env; pending = record { environment = env; call = call } }

-- the next one of an actor's queue
abbrev pub queued_call : Core → Actor → Option NextCall
queued_call core actor = option_map (queued actor) (waiting_call core actor)

-- ---- how it is performed

-- the state in which it has been taken; no frame is pushed by that, so the birth is looked at nowhere
abbrev pub taken : NextCall → State → State
taken c s = record s { core = changed 0 c.take s.core }

-- what refuses it to an actor that would perform it, before anything is done for it
abbrev pub refusal_of : World → State → Actor → NextCall → Option ErrorCode
refusal_of w s actor c = w.refuses (taken c s) c.pending.environment c.pending.call actor

abbrev pub refused : ErrorCode → Answer
refused code = record { code = code; values = []; acts = [] }

-- what it answers to an actor that performs it
abbrev pub answer_to : World → State → Actor → NextCall → Answer
answer_to w s actor c = elim (refusal_of w s actor c) [
  | Some code ↦ refused code
  | None ↦ w.answers (taken c s) c.pending.environment c.pending.call actor
]

-- the record of its reply
abbrev pub reply : NextCall → Answer → Act
reply c answer = Notes (Replied c.pending.environment (kind_of_call c.pending.call) answer.code answer.values)

-- the acts of a step of an actor that performs it: it is taken, it does what it does, and it replies
abbrev pub performs : World → State → Actor → NextCall → List Act
performs w s actor c = let answer = answer_to w s actor c in Changes c.take ∷ answer.acts ++ reply c answer ∷ []
