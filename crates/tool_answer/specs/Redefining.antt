-- RedefineClasses and RetransformClasses (JVM TI): class by class the turns of the transformers are made, and then what they came to is
-- checked. The first class that is refused ends the call: later ones get no turn, and no version is made, but the turns that were made have
-- their records. Where none is refused the versions follow all turns.
use Rattle.std.specs.Prelude.{ℕ, List, [], ◌∷◌, ◌++◌, map, Option, Some, None, unwrap_or, if◌then◌else◌, Ok, Err}
use Rattle.std.specs.Option.{option_map_or}
use Rattle.ti_ids.specs.declared.actor.Actor.{Actor}
use Rattle.ti_codes.specs.declared.error.ErrorCode.{ErrorCode}
use Rattle.ti_codes.specs.declared.error.ErrorCode.TheVariants as errors
use Rattle.jv_names.specs.Names.{Name}
use Rattle.class_tree.specs.Trees.{Tree}
use Rattle.type_frames.specs.Answering.{class_passes}
use Rattle.transform_chain.specs.declared.folded.Folded.{Folded}
use Rattle.transform_chain.specs.Turns.{fold_from}
use Rattle.tool_answer.specs.Check.{check}
use Rattle.machine_state.specs.Jobs.{Job, at_number}
use Rattle.machine_state.specs.Trace.{Record, Redefined, Retransformed}
use Rattle.machine_state.specs.Chains.{rules_do, chain}
use Rattle.machine_state.specs.Versions.{Turns, left}
use Rattle.machine_state.specs.Acts.{State, Act, Notes}
use Rattle.machine_steps.specs.Linking.{hierarchy}
use Rattle.machine_steps.specs.Loading.{turn_notes}
use Rattle.tool_answer.specs.Naming.{newest_tree}

-- ---- one class

-- The last refusal is the type check's, over the classes as their files state them.
abbrev pub checked_types : Job → Tree → Option ErrorCode
checked_types job made = if class_passes (hierarchy job) made then None else Some errors.FailsVerification

-- what refuses bytes that would take the place of a tree
abbrev pub check_refusal : Job → Tree → List ℕ → Option ErrorCode
check_refusal job old bytes = elim (check old bytes) [ Err code ↦ Some code | Ok made ↦ checked_types job made ]

-- what is done at one class: what its turns come to, and the record of its version
pub record Replacing : Type 0 where
  pub class : Name
  pub folded : Folded
  pub makes : Record

-- what was done: what refuses one of the classes, or none does, and the records
pub record Outcome : Type 0 where
  pub code : ErrorCode
  pub acts : List Act

-- a refusal ends it behind these acts
abbrev pub unless_refused : Option ErrorCode → List Act → Outcome → Outcome
unless_refused (Some code) acts otherwise = record { code = code; acts = acts }
unless_refused None acts otherwise = otherwise

module _ (job : Job) (turns : Turns) (s : State) (actor : Actor) where
  -- A class is redefined from a donor's bytes, by all that are active; it is retransformed from the bytes that were kept, by those that are
  -- capable of it.
  abbrev pub redefining : Name → List ℕ → Replacing
  redefining class bytes = record {
    class = class;
    folded = fold_from class 1 (chain job (rules_do turns) s.trace actor) bytes;
    makes = Redefined class bytes;
  }

  abbrev pub retransforming : Name → Replacing
  retransforming class = record {
    class = class;
    folded = fold_from class 3 (chain job (rules_do turns) s.trace actor) (unwrap_or (left job turns class s.trace) []);
    makes = Retransformed class;
  }

  -- a class without a version is none that is loaded
  abbrev pub refusal_at : Replacing → Option ErrorCode
  refusal_at r = option_map_or (λ old. check_refusal job old r.folded.made) (newest_tree job turns s r.class) (Some errors.InvalidClass)

  -- ---- class by class

  abbrev pub notes_at : Replacing → List Act
  notes_at r = turn_notes r.class r.folded.turns

  -- These come next, behind these acts; where none is refused, all of these records follow.
  abbrev pub replaces_from : List Act → List Record → List Replacing → Outcome
  replaces_from acts made [] = record { code = errors.None; acts = acts ++ map Notes made }
  replaces_from acts made (r ∷ rs) =
      let behind = acts ++ notes_at r in unless_refused (refusal_at r) behind (replaces_from behind made rs)

  abbrev pub replaces : List Replacing → Outcome
  replaces rs = replaces_from [] (map (λ r. r.makes) rs) rs

  -- ---- the two calls

  -- each class with the donor that stands at its place; a donor that isn't there has no bytes
  abbrev pub with_donors : List Name → List ℕ → List Replacing
  with_donors (class ∷ classes) (donor ∷ donors) = redefining class (unwrap_or (at_number job.donors donor) []) ∷ with_donors classes donors
  with_donors classes donors = []

  abbrev pub redefines : List Name → List ℕ → Outcome
  redefines classes donors = replaces (with_donors classes donors)

  abbrev pub retransforms : List Name → Outcome
  retransforms classes = replaces (map retransforming classes)
