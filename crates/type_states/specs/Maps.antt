-- How the code holds the states of a stack map: each entry as it stands in the class file, and where the list of its local variables is.
use Rattle.std.specs.Prelude.{ℕ, ◌<◌, ◌≤◌, List, All, map, length, slice_index}
use Rattle.std.specs.List.{list_any}
use Rattle.class_tree.specs.declared.pool.Const.{Const}
use Rattle.type_frames.specs.declared.vtype.VType.{VType}
use Rattle.type_frames.specs.declared.frame.MapFrame.{MapFrame}
use Rattle.type_frames.specs.Types.{expanded, is_uninit_this}
use Rattle.type_frames.specs.StackMaps.{stack_after, filled}
use Rattle.type_states.specs.declared.entry.Entry.{Entry}
use Rattle.type_states.specs.Lists.{list_at}

abbrev pub frame_held : List Const → ℕ → List (List VType) → Entry → MapFrame
frame_held pool max_locals lists e = record {
  at = e.at;
  locals = filled max_locals (list_at lists e.locals);
  stack = stack_after pool e.frame.now;
  this_uninit = list_any is_uninit_this (list_at lists e.locals);
}

abbrev pub frames_held : List Const → ℕ → List (List VType) → List Entry → List MapFrame
frames_held pool max_locals lists entries = map (frame_held pool max_locals lists) entries

-- the list of its local variables is there, and there is room for all that it lists
pub record IsEntry (pool : List Const) (max_locals max_stack : ℕ) (lists : List (List VType)) (e : Entry) : Type 0 where
  pub listed : e.locals < length lists
  pub locals : length (expanded (list_at lists e.locals)) ≤ max_locals
  pub stack : length (expanded (stack_after pool e.frame.now)) ≤ max_stack

-- each number is less than those behind it
abbrev pub Rises : List ℕ → Type 0
Rises xs = (i j : ℕ) → i < j → j < length xs → slice_index xs i < slice_index xs j

pub record IsMap (pool : List Const) (max_locals max_stack : ℕ) (lists : List (List VType)) (entries : List Entry) : Type 0 where
  pub each : All (IsEntry pool max_locals max_stack lists) entries
  pub rising : Rises (map (λ e. e.at) entries)
