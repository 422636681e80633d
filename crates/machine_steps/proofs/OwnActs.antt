-- The acts of calls and of the machine itself, one behind the other: where an act that takes a call and every record may come, those of
-- each call may, where calls do what they do by their records.
use Rattle.std.proofs.Common.{List, [], ◌∷◌, ◌++◌, Option, Some, None, map}
use Rattle.std.specs.List.{AllByRecursion}
use Rattle.ti_ids.specs.declared.number.EnvNo.{EnvNo}
use Rattle.ti_ids.specs.declared.actor.Actor.{Actor}
use Rattle.ti_codes.specs.declared.error.ErrorCode.{ErrorCode}
use Rattle.agent_types.specs.declared.call.Call.{Call}
use Rattle.machine_state.specs.Core.{Core}
use Rattle.machine_state.specs.Trace.{Record}
use Rattle.machine_state.specs.Acts.{Act, Changes, Notes, State}
use Rattle.instruction_effect.proofs.ActRules.{Follow, behind}
use Rattle.machine_steps.specs.World.{Answer, World}
use Rattle.machine_steps.specs.Calls.{NextCall, answer_to, performs, refusal_of, refused, reply, taken}
use Rattle.machine_steps.specs.Reachable.{CallsRecord, IsRecord}

answered_records : (w : World) → CallsRecord w → (s : State) (env : EnvNo) (call : Call) (actor : Actor) (refusal : Option ErrorCode)
    → AllByRecursion IsRecord (elim refusal as (λ _. Answer) [ Some code ↦ refused code | None ↦ w.answers s env call actor ]).acts
answered_records w records s env call actor (Some code) = tt
answered_records w records s env call actor None = records s env call actor

module _ (Ok : Core → Act → Type 0) where
  -- from every core on
  abbrev pub Always : List Act → Type 0
  Always acts = (now : Core) → Follow Ok now acts

  pub follow_both : (now : Core) (first acts : List Act) → Follow Ok now first → Always acts → Follow Ok now (first ++ acts)
  follow_both now [] acts h k = k now
  follow_both now (a ∷ first) acts h k = (h.0, follow_both (behind now a) first acts h.1 k)

  pub mapped_follow : {A : Type 0} (f : A → Act) (xs : List A) → ((now : Core) (x : A) → Ok now (f x)) → Always (map f xs)
  mapped_follow f [] h now = tt
  mapped_follow f (x ∷ xs) h now = (h now x, mapped_follow f xs h (behind now (f x)))

  -- ---- calls

  module _ (notes : (now : Core) (what : Record) → Ok now (Notes what)) where
    pub records_follow : (now : Core) (acts : List Act) → AllByRecursion IsRecord acts → Follow Ok now acts
    records_follow now [] h = tt
    records_follow now (Changes c ∷ acts) h = absurd h.0
    records_follow now (Notes what ∷ acts) h = (notes now what, records_follow now acts h.1)

    pub performed_follow : (w : World) → CallsRecord w → (s : State) (actor : Actor) (c : NextCall) → ((now : Core) → Ok now (Changes c.take))
        → Always (performs w s actor c)
    performed_follow w records s actor c take now =
        let answer : Answer = answer_to w s actor c in
        let then : Core = behind now (Changes c.take) in (
          take now,
          follow_both then answer.acts (reply c answer ∷ [])
              (records_follow then answer.acts
              (answered_records w records (taken c s) c.pending.environment c.pending.call actor (refusal_of w s actor c)))
              (λ next. (notes next _, tt)),
        )
