-- What holds of each act of a call: of the records of turns, of those of versions, and of those that other calls make.
use Rattle.std.proofs.Common.{ℕ, ◌+◌, Bool, List, [], ◌∷◌, ◌++◌, length, map, Option, Some, None}
use Rattle.std.specs.List.{AllByRecursion}
use Rattle.jv_names.specs.Names.{Name}
use Rattle.ti_ids.specs.declared.number.EnvNo.{EnvNo}
use Rattle.ti_ids.specs.declared.actor.Actor.{Actor}
use Rattle.ti_codes.specs.declared.error.ErrorCode.{ErrorCode}
use Rattle.transform_chain.specs.declared.folded.Turn.{Turn}
use Rattle.agent_types.specs.declared.call.Call.{Call}
use Rattle.agent_types.specs.declared.call.Call.TheVariants as calls
use Rattle.machine_state.specs.Jobs.{Job}
use Rattle.machine_state.specs.Trace.{Record, Turned}
use Rattle.machine_state.specs.Versions.{Turns}
use Rattle.machine_state.specs.Acts.{State, Act, Notes}
use Rattle.machine_steps.specs.Loading.{turns_from}
use Rattle.machine_steps.specs.Reachable.{IsRecord}
use Rattle.machine_steps.proofs.FittingSteps.{append_all}
use Rattle.machine_steps.specs.World.{unsliced}
use Rattle.tool_answer.specs.Redefining.{Outcome, Replacing, unless_refused, refusal_at, notes_at, replaces_from, replaces, with_donors, retransforming}
use Rattle.tool_answer.specs.Answers.{answer_of, records_of}
use Rattle.tool_answer.specs.JobWorld.{rules_turn}
use Rattle.tool_answer.specs.Laws.{CallsOnlyRecord}

-- ---- of records

module _ (P : Act → Type 0) where
  abbrev pub OfRecords : List Record → Type 0
  OfRecords records = AllByRecursion (λ r. P (Notes r)) records

  pub noted : (records : List Record) → OfRecords records → AllByRecursion P (map Notes records)
  noted [] all = tt
  noted (r ∷ rs) all = (all.0, noted rs all.1)

  abbrev pub OfTurns : Type 0
  OfTurns = (env : EnvNo) (class : Name) (set : Option Name) (k n : ℕ) (has_changed : Bool) → P (Notes (Turned env class set k n has_changed))

  turns_noted : OfTurns → (class : Name) (k n : ℕ) (turns : List Turn) → AllByRecursion P (turns_from class k n turns)
  turns_noted turned class k n [] = tt
  turns_noted turned class k n (t ∷ ts) = (turned t.env class t.set k n t.changed, turns_noted turned class (k + 1) n ts)

  refused_or : (refusal : Option ErrorCode) (acts : List Act) (otherwise : Outcome) → AllByRecursion P acts → AllByRecursion P otherwise.acts
      → AllByRecursion P (unless_refused refusal acts otherwise).acts
  refused_or (Some code) acts otherwise all more = all
  refused_or None acts otherwise all more = more

  module _ (job : Job) (turns : Turns) (s : State) (actor : Actor) (turned : OfTurns) where
    pub behind_noted : (acts : List Act) (r : Replacing) → AllByRecursion P acts → AllByRecursion P (acts ++ notes_at job turns s actor r)
    behind_noted acts r all =
        append_all P acts (notes_at job turns s actor r) all (turns_noted turned r.class 1 (length r.folded.turns) r.folded.turns)

    replaced_noted : (acts : List Act) (made : List Record) (rs : List Replacing) → AllByRecursion P acts → OfRecords made
        → AllByRecursion P (replaces_from job turns s actor acts made rs).acts
    replaced_noted acts made [] all of = append_all P acts (map Notes made) all (noted made of)
    replaced_noted acts made (r ∷ rs) all of =
        let behind = acts ++ notes_at job turns s actor r in
        let all_behind = behind_noted acts r all in
        refused_or (refusal_at job turns s actor r) behind (replaces_from job turns s actor behind made rs) all_behind
        (replaced_noted behind made rs all_behind of)

    pub all_noted : (rs : List Replacing) → OfRecords (map (λ r. r.makes) rs) → AllByRecursion P (replaces job turns s actor rs).acts
    all_noted rs of = replaced_noted [] (map (λ r. r.makes) rs) rs tt of

-- ---- a call does what it does by its records

always_record : (records : List Record) → OfRecords IsRecord records
always_record [] = tt
always_record (r ∷ rs) = (tt, always_record rs)

module _ (job : Job) (turns : Turns) (s : State) (actor : Actor) where
  turned : OfTurns IsRecord
  turned env class set k n has_changed = tt

  answer_noted : (env : EnvNo) (call : Call) → AllByRecursion IsRecord (answer_of job turns s env actor call).acts
  answer_noted env (calls.RedefineClasses classes donors) =
      let rs = with_donors job turns s actor classes donors in all_noted IsRecord job turns s actor turned rs (always_record (map (λ r. r.makes) rs))
  answer_noted env (calls.RetransformClasses classes) =
      let rs = map (retransforming job turns s actor) classes in all_noted IsRecord job turns s actor turned rs (always_record (map (λ r. r.makes) rs))
  answer_noted env call = noted IsRecord (records_of job turns s env actor call) (always_record (records_of job turns s env actor call))

pub calls_only_record : CallsOnlyRecord
calls_only_record job s env call actor = answer_noted (unsliced job) (rules_turn (unsliced job)) s actor env call
