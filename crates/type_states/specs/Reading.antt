-- What is read of the entries of a stack map.
use Rattle.std.specs.Prelude.{◌≡◌, ℕ, ◌<◌, ◌≤◌, List, Option, Some, None, IfSome, All, option_map, length, Result, Ok, Err}
use Rattle.class_tree.specs.declared.frames.StackMapFrame.{StackMapFrame}
use Rattle.type_frames.specs.declared.vtype.VType.{VType}
use Rattle.type_frames.specs.declared.frame.MapFrame.{MapFrame}
use Rattle.type_frames.specs.declared.fault.MapFault.{MapFault}
use Rattle.type_frames.specs.declared.fault.MapFault.TheVariants as fault
use Rattle.type_frames.specs.StackMaps.{Bounds, offset_after, frame_after}
use Rattle.type_states.specs.declared.entry.Entry.{Entry}
use Rattle.type_states.specs.declared.reading.MapBounds.{MapBounds}
use Rattle.type_states.specs.Lists.{list_at, IsGrown}
use Rattle.type_states.specs.Maps.{frame_held, IsEntry}

-- the answer is what the entries stand for, unless memory ran out
abbrev pub Reads : Result (List MapFrame) MapFault → Result (List MapFrame) ℕ → Type 0
Reads (Ok frames) map = map ≡ Ok frames
Reads (Err (fault.Bad place)) map = map ≡ Err place
Reads (Err fault.Memory) map = Unit {0}

-- what the code reads a map against
abbrev pub bounds_of : MapBounds → Bounds
bounds_of b = record { pool = b.pool.now; max_locals = b.max_locals; max_stack = b.max_stack; instrs = b.instrs.now }

-- a list of these types stands at the place, if there are such types
pub record IsListed (types : Option (List VType)) (old new : List (List VType)) (found : Option ℕ) : Type 0 where
  pub grown : IsGrown old new
  pub within : IfSome found (λ at. at < length new)
  pub is : types ≡ option_map (list_at new) found

-- the frame of an entry, and the list of its local variables
abbrev pub found_with : Bounds → List (List VType) → Entry → MapFrame × List VType
found_with b lists e = (frame_held b.pool b.max_locals lists e, list_at lists e.locals)

-- what stands for the entry behind these is found, if it is a good one
pub record IsFound (b : Bounds) (last : Option ℕ) (before : List VType) (e : StackMapFrame) (old new : List (List VType)) (found : Option Entry) : Type 0 where
  pub grown : IsGrown old new
  pub within : IfSome found (IsEntry b.pool b.max_locals b.max_stack new)
  pub at : IfSome found (λ x. x.at ≡ offset_after last e)
  pub is : frame_after b last before e ≡ option_map (found_with b new) found

-- the offset of the last entry is the greatest
abbrev pub IsLatest : Option ℕ → List Entry → Type 0
IsLatest None entries = length entries ≡ 0
IsLatest (Some at) entries = All (λ x. x.at ≤ at) entries
