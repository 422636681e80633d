-- Which transformers of `java.lang.instrument` are registered, in the order in which they were added (`Instrumentation.addTransformer`
-- and `removeTransformer`).
use Rattle.std.specs.Prelude.{◌==◌, not, ◌&&◌, List, [], ◌∷◌, ◌++◌, fold, filter, bytes_eq, if◌then◌else◌}
use Rattle.ti_ids.specs.declared.number.EnvNo.{EnvNo}
use Rattle.jv_names.specs.Names.{Name}
use Rattle.transform_chain.specs.declared.registered.Registered.{Registered}

pub data Change : Type 0 where
  Adds : Registered → Change
  -- the one of an environment and a set that was added first
  Removes : EnvNo → Name → Change
  -- an environment is disposed
  Ends : EnvNo → Change

-- these without the first one of an environment and a set
abbrev pub without_first : EnvNo → Name → List Registered → List Registered
without_first env set [] = []
without_first env set (r ∷ rs) = if r.env.0 == env.0 && bytes_eq r.set set then rs else r ∷ without_first env set rs

abbrev pub registered_after : List Registered → Change → List Registered
registered_after rs (Adds r) = rs ++ r ∷ []
registered_after rs (Removes env set) = without_first env set rs
registered_after rs (Ends env) = filter (λ r. not (r.env.0 == env.0)) rs

-- those that are registered after all these changes
abbrev pub registered : List Change → List Registered
registered changes = fold registered_after [] changes
