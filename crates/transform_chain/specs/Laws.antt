-- The laws of groups and folds.
use Rattle.std.specs.Prelude.{◌≡◌, ℕ, ◌≤◌, List}
use Rattle.std.specs.List.{AllByRecursion}
use Rattle.jv_names.specs.Names.{Name}
use Rattle.transform_chain.specs.declared.active.Active.{Active}
use Rattle.transform_chain.specs.Groups.{of_group, in_groups, up_to_group, from_group, AreInGroups}
use Rattle.transform_chain.specs.Turns.{Does, folded}

-- By groups, no transformer stands before one of a lower group.
abbrev pub GroupsRise : Type 0
GroupsRise = (ts : List (Active Does)) → AreInGroups (in_groups ts)

-- By groups all transformers of the groups from 1 to 4 are there, those of one group in the order that they had, and no others.
pub record GroupsKeep : Type 0 where
  pub kept : (n : ℕ) (ts : List (Active Does)) → 1 ≤ n → n ≤ 4 → of_group n (in_groups ts) ≡ of_group n ts
  pub no_others : (ts : List (Active Does)) → AllByRecursion (λ t. (1 ≤ t.group) × (t.group ≤ 4)) (in_groups ts)

-- What all turns make is what those that are capable of retransformation make of what the others left.
abbrev pub KeptGoesOn : Type 0
KeptGoesOn = (class : Name) (ts : List (Active Does)) (bytes : List ℕ) → AreInGroups ts
    → folded class ts bytes ≡ folded class (from_group 3 ts) (folded class (up_to_group 2 ts) bytes)
