-- The world of a job of bytes is orderly.
use Rattle.std.proofs.Common.{◌≡◌, ℕ, zero, suc, true, List, [], ◌∷◌, map, Option, Some, None, refl}
use Rattle.std.specs.Prelude.{slice_get, unwrap_or}
use Rattle.std.specs.Option.{option_and_then}
use Rattle.std.specs.List.{AllByRecursion}
use Rattle.jv_names.specs.Names.{Name}
use Rattle.ti_ids.specs.declared.number.EnvNo.{EnvNo}
use Rattle.ti_ids.specs.declared.actor.Actor.{Actor}
use Rattle.class_tree.specs.Ranges.{are_bytes}
use Rattle.agent_types.specs.declared.agent.Agent as agent_type
use Rattle.agent_types.specs.declared.call.Call.{Call}
use Rattle.agent_types.specs.declared.call.Call.TheVariants as calls
use Rattle.rule_edit.specs.Turns.{set_turn}
use Rattle.rule_edit.proofs.Turned.{bytes_of_bytes}
use Rattle.machine_state.specs.Jobs.{Job, at_number, agent_at}
use Rattle.machine_state.specs.Trace.{Record, Loaded, Redefined}
use Rattle.machine_state.specs.Versions.{Turns}
use Rattle.machine_state.specs.Bytes.{MakesBytes}
use Rattle.machine_state.specs.Acts.{State, Notes}
use Rattle.machine_steps.specs.World.{unsliced}
use Rattle.machine_steps.specs.Reachable.{FitsCall}
use Rattle.tool_answer.specs.Redefining.{with_donors, retransforming}
use Rattle.tool_answer.specs.Answers.{answer_of, records_of}
use Rattle.tool_answer.specs.JobWorld.{rules_turn}
use Rattle.tool_answer.specs.Laws.{WorldsAreOrderly}
use Rattle.tool_answer.proofs.OnlyRecords.{OfRecords, OfTurns, noted, all_noted}
use Rattle.tool_answer.proofs.OwnTags.{OfCall, held, records_own}

abbrev AreDonors : List (List ℕ) → Type 0
AreDonors donors = AllByRecursion (λ d. are_bytes d ≡ true) donors

-- ---- rules

by_agent : (job : Job) (set class : Name) (bytes made : List ℕ) (agent : Option agent_type.Agent) → AreDonors job.donors → are_bytes bytes ≡ true
    → option_and_then (λ a. set_turn job.donors a.rules set class bytes) agent ≡ Some made → are_bytes made ≡ true
by_agent job set class bytes made None donors are is = absurd cc
by_agent job set class bytes made (Some a) donors are is = bytes_of_bytes job.donors a.rules set class bytes made donors are is

rules_make : (job : Job) → AreDonors job.donors → MakesBytes (rules_turn job)
rules_make job donors env set class bytes made are is = by_agent job set class bytes made (agent_at job env) donors are is

-- ---- calls

fits : (env : EnvNo) (r : Record) → OfCall env r → FitsCall (Notes r)
fits env (Loaded class bytes) h = absurd h
fits env (Redefined class bytes) h = absurd h
fits env r h = tt

turned : OfTurns FitsCall
turned env class set k n has_changed = tt

-- the bytes of a donor, or none
donor_bytes : (donors : List (List ℕ)) (n : ℕ) → AreDonors donors → are_bytes (unwrap_or (slice_get donors n) []) ≡ true
donor_bytes [] n all = refl
donor_bytes (d ∷ ds) zero all = all.0
donor_bytes (d ∷ ds) (suc n) all = donor_bytes ds n all.1

numbered_bytes : (donors : List (List ℕ)) (n : ℕ) → AreDonors donors → are_bytes (unwrap_or (at_number donors n) []) ≡ true
numbered_bytes donors zero all = refl
numbered_bytes donors (suc n) all = donor_bytes donors n all

module _ (job : Job) (donors_are : AreDonors job.donors) (turns : Turns) (s : State) (actor : Actor) where
  redefined_fits : (classes : List Name) (donors : List ℕ) → OfRecords FitsCall (map (λ r. r.makes) (with_donors job turns s actor classes donors))
  redefined_fits [] donors = tt
  redefined_fits (class ∷ classes) [] = tt
  redefined_fits (class ∷ classes) (donor ∷ donors) = (numbered_bytes job.donors donor donors_are, redefined_fits classes donors)

  retransformed_fits : (classes : List Name) → OfRecords FitsCall (map (λ r. r.makes) (map (retransforming job turns s actor) classes))
  retransformed_fits [] = tt
  retransformed_fits (class ∷ classes) = (tt, retransformed_fits classes)

  calls_fit : (env : EnvNo) (call : Call) → AllByRecursion FitsCall (answer_of job turns s env actor call).acts
  calls_fit env (calls.RedefineClasses classes donors) =
      all_noted FitsCall job turns s actor turned (with_donors job turns s actor classes donors) (redefined_fits classes donors)
  calls_fit env (calls.RetransformClasses classes) =
      all_noted FitsCall job turns s actor turned (map (retransforming job turns s actor) classes) (retransformed_fits classes)
  calls_fit env call =
      noted FitsCall (records_of job turns s env actor call)
      (held FitsCall env (fits env) (records_of job turns s env actor call) (records_own env job turns s actor call))

pub worlds_are_orderly : WorldsAreOrderly
worlds_are_orderly job files donors =
    let own = unsliced job in
    record {
      files = files;
      rules = rules_make own donors;
      calls = λ s env call actor. calls_fit own donors (rules_turn own) s actor env call;
    }
