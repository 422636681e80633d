-- The type check by which the link step goes always has an answer.
use Rattle.std.specs.Prelude.{◌≡◌, ◌⊎◌, ℕ}
use Rattle.class_tree.specs.Trees.{Tree}
use Rattle.type_frames.specs.Hierarchies.{Known}
use Rattle.type_frames.specs.TypeChecks.{ClassPasses, ClassFails}

-- the class fails its type check, at this place of its methods and this offset, and at no other
pub record FailsAtOnePlace (h : Known) (t : Tree) : Type 0 where
  pub place : ℕ
  pub offset : ℕ
  pub fails : ClassFails h t place offset
  pub alone : (other at : ℕ) → ClassFails h t other at → (place ≡ other) × (offset ≡ at)

-- A class passes its type check or fails at one place, whatever its tree.
abbrev pub PassesOrFails : Type 0
PassesOrFails = (h : Known) (t : Tree) → ClassPasses h t ⊎ FailsAtOnePlace h t
