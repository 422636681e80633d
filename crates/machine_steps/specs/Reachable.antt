-- Every state that a schedule leads to has parts that stand for it.
use Rattle.std.specs.Prelude.{◌≡◌, IsSome, List}
use Rattle.std.specs.List.{AllByRecursion}
use Rattle.ti_ids.specs.declared.actor.Actor.{Actor}
use Rattle.thread_frames.specs.declared.frame.StackEntry.TheVariants.{Java, Init}
use Rattle.report_text.specs.Runs.{runs_of}
use Rattle.machine_state.specs.Core.{StackFrame}
use Rattle.machine_state.specs.FrameCode.{code}
use Rattle.machine_state.specs.Acts.{State, Act, Changes, Notes, Pushes}
use Rattle.machine_state.specs.Bytes.{HasBytes, MakesBytes, HoldsBytes}
use Rattle.agent_types.specs.declared.call.Call.{Call}
use Rattle.ti_ids.specs.declared.number.EnvNo.{EnvNo}
use Rattle.machine_steps.specs.World.{World}
use Rattle.machine_steps.specs.Replay.{state}
use Rattle.machine_steps.specs.Parts.{Parts}
use Rattle.machine_steps.specs.StandsFor.{StandsFor}

-- ---- frames with code

-- the frame of a method has code
abbrev pub HasCode : World → State → StackFrame → Type 0
HasCode w s (Java f) = IsSome (code w.job w.turns s.trace s.core.classes f)
HasCode w s (Init class) = Unit {0}

-- each frame has
abbrev pub AreCoded : World → State → Type 0
AreCoded w s = AllByRecursion (λ t. AllByRecursion (HasCode w s) t.frames) s.core.threads

-- ---- worlds

-- An act of a call pushes no frame, and a class that it redefines is of bytes.
abbrev pub FitsCall : Act → Type 0
FitsCall (Changes (Pushes t f)) = ⊥
FitsCall (Changes c) = Unit {0}
FitsCall (Notes what) = HoldsBytes what

-- What a job, its rules and its calls give is as it must be: files are bytes, rules make bytes of bytes, and each act of a call fits.
pub record IsOrderly (w : World) : Type 0 where
  pub files : HasBytes w.job
  pub rules : MakesBytes w.turns
  pub calls : (s : State) (env : EnvNo) (call : Call) (actor : Actor) → AllByRecursion FitsCall (w.answers s env call actor).acts

-- An act of a call is a record.
abbrev pub IsRecord : Act → Type 0
IsRecord (Changes c) = ⊥
IsRecord (Notes what) = Unit {0}

-- What a call does it does by its records: none changes the core by itself.
abbrev pub CallsRecord : World → Type 0
CallsRecord w = (s : State) (env : EnvNo) (call : Call) (actor : Actor) → AllByRecursion IsRecord (w.answers s env call actor).acts

-- ---- parts

-- there are parts that stand for a state, with this schedule
pub record HasParts (w : World) (s : State) (schedule : List Actor) : Type 0 where
  pub parts : Parts
  pub stand : StandsFor w s parts
  pub stored : parts.schedule ≡ runs_of schedule

-- A state each of whose frames has code has parts, and no other state has.
pub record PartsOfCoded : Type 0 where
  pub made : (w : World) (s : State) (schedule : List Actor) → AreCoded w s → HasParts w s schedule
  pub only : (w : World) (s : State) (p : Parts) → StandsFor w s p → AreCoded w s

-- ---- schedules

-- After every schedule each frame has code.
abbrev pub FramesHaveCode : Type 0
FramesHaveCode = (w : World) (schedule : List Actor) → IsOrderly w → AreCoded w (state w schedule)

-- After every schedule the state has parts that stand for it.
abbrev pub StatesHaveParts : Type 0
StatesHaveParts = (w : World) (schedule : List Actor) → IsOrderly w → HasParts w (state w schedule) schedule
