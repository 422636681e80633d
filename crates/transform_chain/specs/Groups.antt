-- The four groups of transformers, in the order of their turns (`java.lang.instrument`, `ClassFileTransformer`; JVM TI,
-- "RetransformClasses"): those that are not capable of retransformation before those that are, and in both transformers of
-- `java.lang.instrument` before hooks. Where the two meet, the order is this project's own.
use Rattle.std.specs.Prelude.{ℕ, ◌≤◌, ◌==◌, Bool, nat_le, List, [], ◌∷◌, ◌++◌, filter, ⊤, if◌then◌else◌}
use Rattle.std.specs.List.{AllByRecursion}
use Rattle.transform_chain.specs.declared.active.Active.{Active}

-- that of a transformer of `java.lang.instrument`, and that of a hook, by whether it is capable
abbrev pub java_group : Bool → ℕ
java_group capable = if capable then 3 else 1

abbrev pub hook_group : Bool → ℕ
hook_group capable = if capable then 4 else 2

module _ {T : Type 0} where
  abbrev pub of_group : ℕ → List (Active T) → List (Active T)
  of_group n ts = filter (λ t. t.group == n) ts

  -- the groups one after the other, each in the order that its transformers have here
  abbrev pub in_groups : List (Active T) → List (Active T)
  in_groups ts = of_group 1 ts ++ of_group 2 ts ++ of_group 3 ts ++ of_group 4 ts

  abbrev pub up_to_group : ℕ → List (Active T) → List (Active T)
  up_to_group n ts = filter (λ t. nat_le t.group n) ts

  abbrev pub from_group : ℕ → List (Active T) → List (Active T)
  from_group n ts = filter (λ t. nat_le n t.group) ts

  -- no transformer stands before one of a lower group
  abbrev pub AreInGroups : List (Active T) → Type 0
  AreInGroups [] = ⊤
  AreInGroups (t ∷ ts) = AllByRecursion (λ u. t.group ≤ u.group) ts × AreInGroups ts
