-- A law of the type states of a method.
use Rattle.std.specs.Prelude.{◌≡◌, ℕ, List}
use Rattle.class_tree.specs.Trees.{Tree}
use Rattle.type_frames.specs.declared.frame.MapFrame.{MapFrame}
use Rattle.type_frames.specs.Hierarchies.{Known}
use Rattle.type_verify.specs.Typing.{IsTyped}

-- A method has one list of type states at most.
abbrev pub TypedInOneWay : Type 0
TypedInOneWay = (h : Known) (t : Tree) (place : ℕ) (frames others : List MapFrame) → IsTyped h t place frames → IsTyped h t place others → frames ≡ others
