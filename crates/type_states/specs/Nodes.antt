-- How the code holds lists of types that share what they begin with: each node is a list that is longer by one than an older one.
use Rattle.std.specs.Prelude.{◌≡◌, ℕ, ◌+◌, ◌<◌, List, [], ◌∷◌, ◌++◌, length, slice_index_or}
use Rattle.std.specs.List.{list_any}
use Rattle.type_frames.specs.declared.vtype.VType.{VType}
use Rattle.type_frames.specs.Types.{is_uninit_this}
use Rattle.type_frames.specs.Seen.{type_seen}
use Rattle.type_states.specs.declared.node.Node.{Node}
use Rattle.type_states.specs.Lists.{list_at, IsLast, words_counted}

-- with the list of one more node
abbrev pub with_node : List (List VType) → Node → List (List VType)
with_node lists n = lists ++ (list_at lists n.below ++ type_seen n.listed ∷ []) ∷ []

abbrev pub lists_from : List (List VType) → List Node → List (List VType)
lists_from lists [] = lists
lists_from lists (n ∷ nodes) = lists_from (with_node lists n) nodes

-- the empty list, and that of each node
abbrev pub lists_of : List Node → List (List VType)
lists_of nodes = lists_from ([] ∷ []) nodes

-- a node of the list that has this type behind the one at a place
pub record IsOver (lists : List (List VType)) (place : ℕ) (t : VType) (n : Node) : Type 0 where
  pub below : n.below ≡ place
  pub listed : type_seen n.listed ≡ t
  pub words : n.words ≡ words_counted (list_at lists place ++ t ∷ [])
  pub this_uninit : n.this_uninit ≡ list_any is_uninit_this (list_at lists place ++ t ∷ [])

-- what a node says of the list at a place is so
pub record IsNode (lists : List (List VType)) (place : ℕ) (n : Node) : Type 0 where
  pub last : IsLast lists place (type_seen n.listed) n.below
  pub words : n.words ≡ words_counted (list_at lists place)
  pub this_uninit : n.this_uninit ≡ list_any is_uninit_this (list_at lists place)

abbrev pub AreNodes : List Node → Type 0
AreNodes nodes = (k : ℕ) (d : Node) → k < length nodes → IsNode (lists_of nodes) (k + 1) (slice_index_or nodes k d)
