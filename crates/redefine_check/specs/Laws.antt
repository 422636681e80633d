-- The law of equivalent methods.
use Rattle.std.specs.Prelude.{◌≡◌, true, List}
use Rattle.class_tree.specs.declared.pool.Const.{Const}
use Rattle.class_tree.specs.declared.members.Member.{Member}
use Rattle.redefine_check.specs.Equivalence.{are_equivalent}

-- A method is equivalent to itself.
abbrev pub IsItself : Type 0
IsItself = (pool : List Const) (m : Member) → are_equivalent pool m pool m ≡ true
