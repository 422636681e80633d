-- The versions of a class (JVM TI, "RedefineClasses" and "RetransformClasses"), as the trace has them: each load, redefinition and
-- retransformation makes one. What a set of rules answers is given by `turns`.
use Rattle.std.specs.Prelude.{ℕ, List, [], ◌∷◌, ◌++◌, fold, Option, Some, None, bytes_eq, if◌then◌else◌}
use Rattle.ti_ids.specs.declared.actor.Actor.{Actor}
use Rattle.jv_names.specs.Names.{Name}
use Rattle.transform_chain.specs.declared.active.Active.{Active}
use Rattle.transform_chain.specs.Groups.{up_to_group, from_group}
use Rattle.transform_chain.specs.Turns.{Does, folded}
use Rattle.machine_state.specs.Jobs.{Job}
use Rattle.machine_state.specs.Trace.{Record, Trace, Loaded, Redefined, Retransformed}
use Rattle.machine_state.specs.Chains.{rules_do, chain}
pub use Rattle.machine_state.specs.Chains.{Turns}

-- a version: the bytes that were kept when it was made, from which a retransformation begins, and its own bytes
pub record Version : Type 0 where
  pub kept : List ℕ
  pub bytes : List ℕ

-- what a record makes of a class: a version of these bytes, one of the bytes that are kept, or none
pub data Making : Type 0 where
  Given : List ℕ → Making
  Again : Making
  Nothing : Making

abbrev pub making : Name → Record → Making
making class (Loaded name bytes) = if bytes_eq name class then Given bytes else Nothing
making class (Redefined name bytes) = if bytes_eq name class then Given bytes else Nothing
making class (Retransformed name) = if bytes_eq name class then Again else Nothing
making class _ = Nothing

module _ (job : Job) (turns : Turns) (class : Name) where
  -- the version of kept bytes, by these active transformers
  abbrev pub version_of : List (Active Does) → List ℕ → Version
  version_of ts kept = record { kept = kept; bytes = folded class (from_group 3 ts) kept }

  -- The version that a record behind these makes, where these bytes were kept, by the transformers that are active before the record. What
  -- those that aren't capable of retransformation leave of given bytes is kept.
  abbrev pub version_made : Trace → Actor → List ℕ → Making → Option Version
  version_made before actor kept (Given bytes) = let ts = chain job (rules_do turns) before actor in Some (version_of ts (folded class (up_to_group 2 ts) bytes))
  version_made before actor kept Again = Some (version_of (chain job (rules_do turns) before actor) kept)
  version_made before actor kept Nothing = None

  -- the versions that the rest of a trace makes, where these bytes were kept
  abbrev pub versions_from : Trace → List ℕ → Trace → List Version
  versions_from before kept [] = []
  versions_from before kept (e ∷ rest) = elim (version_made before e.actor kept (making class e.what)) [
    | None ↦ versions_from (before ++ e ∷ []) kept rest
    | Some v ↦ v ∷ versions_from (before ++ e ∷ []) v.kept rest
  ]

  -- all versions of the class, the first one first
  abbrev pub versions : Trace → List Version
  versions trace = versions_from [] [] trace

  -- the bytes that were kept last
  abbrev pub left : Trace → Option (List ℕ)
  left trace = fold (λ last v. Some v.kept) None (versions trace)
