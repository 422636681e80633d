-- The laws of tool calls.
use Rattle.std.specs.Prelude.{◌≡◌, ◌≤◌, ◌⊎◌, ℕ, true, List, [], ◌∷◌, ◌++◌, map, flat_map, Some, None}
use Rattle.std.specs.List.{AllByRecursion}
use Rattle.ti_ids.specs.declared.number.EnvNo.{EnvNo}
use Rattle.ti_ids.specs.declared.actor.Actor.{Actor}
use Rattle.ti_codes.specs.declared.error.ErrorCode.{ErrorCode}
use Rattle.ti_codes.specs.declared.error.ErrorCode.TheVariants as errors
use Rattle.jv_names.specs.Names.{Name}
use Rattle.class_tree.specs.Ranges.{are_bytes}
use Rattle.agent_types.specs.declared.call.Call.{Call}
use Rattle.transform_chain.specs.declared.active.Active.{Active}
use Rattle.transform_chain.specs.Groups.{from_group}
use Rattle.transform_chain.specs.Turns.{Does, fold_from}
use Rattle.machine_state.specs.Jobs.{Job}
use Rattle.machine_state.specs.Trace.{Tagged}
use Rattle.machine_state.specs.Versions.{Turns}
use Rattle.machine_state.specs.Bytes.{HasBytes}
use Rattle.machine_state.specs.Acts.{State, Act, Notes}
use Rattle.machine_steps.specs.World.{World}
use Rattle.machine_steps.specs.Calls.{NextCall, refusal_of, answer_to, refused}
use Rattle.machine_steps.specs.Reachable.{CallsRecord, IsOrderly}
use Rattle.tool_answer.specs.Redefining.{Outcome, Replacing, refusal_at, notes_at, replaces}
use Rattle.tool_answer.specs.Answers.{calls_answer}
use Rattle.tool_answer.specs.JobWorld.{job_world}

-- What a call does it does by its records, in the world of every job.
abbrev pub CallsOnlyRecord : Type 0
CallsOnlyRecord = (job : Job) → CallsRecord (job_world job)

-- A call that is refused before anything is done for it does nothing, and its reply has no values.
abbrev pub RefusedDoesNothing : Type 0
RefusedDoesNothing = (w : World) (s : State) (actor : Actor) (c : NextCall) (code : ErrorCode)
    → refusal_of w s actor c ≡ Some code → answer_to w s actor c ≡ refused code

-- ---- the two class calls

-- A retransformation goes by those transformers alone that are capable of it, and tells of no other's turn.
pub record AsksCapable : Type 0 where
  pub alone : (class : Name) (ts : List (Active Does)) (bytes : List ℕ) → fold_from class 3 ts bytes ≡ fold_from class 3 (from_group 3 ts) bytes
  pub capable : (ts : List (Active Does)) → AllByRecursion (λ t. 3 ≤ t.group) (from_group 3 ts)

module _ (job : Job) (turns : Turns) (s : State) (actor : Actor) where
  -- none of these is refused
  abbrev pub ArePassed : List Replacing → Type 0
  ArePassed rs = AllByRecursion (λ r. refusal_at job turns s actor r ≡ None) rs

  -- the records of the turns at these, and of no others
  abbrev pub turns_at : List Replacing → List Act
  turns_at rs = flat_map (notes_at job turns s actor) rs

  -- none is refused, and all is done: behind the turns at all of them stand the records of their versions
  pub record Installs (rs : List Replacing) (o : Outcome) : Type 0 where
    pub passed : ArePassed rs
    pub code : o.code ≡ errors.None
    pub acts : o.acts ≡ turns_at rs ++ map Notes (map (λ r. r.makes) rs)

  -- one is the first that is refused: there are the turns up to it, and nothing else
  pub record Refuses (rs : List Replacing) (o : Outcome) : Type 0 where
    pub before : List Replacing
    pub at : Replacing
    pub rest : List Replacing
    pub parts : rs ≡ before ++ at ∷ rest
    pub passed : ArePassed before
    pub refusal : refusal_at job turns s actor at ≡ Some o.code
    pub acts : o.acts ≡ turns_at (before ++ at ∷ [])

-- A class call makes a version of each of its classes, or of none.
abbrev pub AllOrNone : Type 0
AllOrNone = (job : Job) (turns : Turns) (s : State) (actor : Actor) (rs : List Replacing)
    → let o = replaces job turns s actor rs in Installs job turns s actor rs o ⊎ Refuses job turns s actor rs o

-- ---- tags

-- an act that tags is of this environment
abbrev pub TagsAs : EnvNo → Act → Type 0
TagsAs env (Notes (Tagged of object tag)) = of ≡ env
TagsAs env a = Unit {0}

-- A call tags objects in its own environment alone.
abbrev pub TagsItsOwn : Type 0
TagsItsOwn = (job : Job) (turns : Turns) (s : State) (env : EnvNo) (call : Call) (actor : Actor)
    → AllByRecursion (TagsAs env) (calls_answer job turns s env call actor).acts

-- ---- bytes

-- So the world of a job of bytes is orderly: its rules make bytes of bytes, and what its calls redefine is bytes.
abbrev pub WorldsAreOrderly : Type 0
WorldsAreOrderly = (job : Job) → HasBytes job → AllByRecursion (λ d. are_bytes d ≡ true) job.donors → IsOrderly (job_world job)
