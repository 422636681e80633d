-- The laws of the type check of a method and of a class.
use Rattle.std.specs.Prelude.{◌≡◌, ◌↔◌, ℕ, ◌≤◌, true, List, slice_get}
use Rattle.class_tree.specs.Trees.{Tree}
use Rattle.type_frames.specs.Hierarchies.{Known}
use Rattle.type_frames.specs.States.{State}
use Rattle.type_frames.specs.TypeChecks.{Checked, FitsUpTo, Fails, TypeChecks, ClassPasses, ClassFails}
use Rattle.type_frames.specs.Answering.{class_passes}

-- Two lists of states that fit up to a place agree up to it.
abbrev pub AgreeUpTo : Type 0
AgreeUpTo = (m : Checked) (states others : List State) (place : ℕ) → FitsUpTo m states place → FitsUpTo m others place → (k : ℕ) → k ≤ place → slice_get states k ≡ slice_get others k

-- A method first fails at one offset at most.
abbrev pub FailsAtOne : Type 0
FailsAtOne = (h : Known) (t : Tree) (place offset other : ℕ) → Fails h t place offset → Fails h t place other → offset ≡ other

-- A method doesn't both fail and pass.
abbrev pub NeverBoth : Type 0
NeverBoth = (h : Known) (t : Tree) (place offset : ℕ) (states : List State) → Fails h t place offset → TypeChecks h t place states → ⊥

-- A class first fails in one method at most, and there at one offset.
abbrev pub ClassFailsAtOne : Type 0
ClassFailsAtOne = (h : Known) (t : Tree) (place offset other at : ℕ) → ClassFails h t place offset → ClassFails h t other at → (place ≡ other) × (offset ≡ at)

-- A class doesn't both fail and pass.
abbrev pub ClassNeverBoth : Type 0
ClassNeverBoth = (h : Known) (t : Tree) (place offset : ℕ) → ClassFails h t place offset → ClassPasses h t → ⊥

-- The answer that is computed is that of the specification's type checker.
abbrev pub ChecksTypes : Type 0
ChecksTypes = (h : Known) (t : Tree) → (class_passes h t ≡ true) ↔ ClassPasses h t
