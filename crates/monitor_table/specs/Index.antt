-- How a table finds an object's monitor: by the object's place, which names a monitor of the slab. No public clause cites
-- this module.
use Rattle.std.specs.Prelude.{◌≡◌, ◌≢◌, ℕ, ◌+◌, false, List, [], ◌∷◌, Option, None, Some, unwrap_or, slice_index_or, IsSome, IsSomeAnd}
use Rattle.std.specs.FinMap as finite
use Rattle.slab.specs.Slab.{Slab, get}
use Rattle.monitor_table.specs.Monitors.{Monitor, free, is_free, IsCounted}
use Rattle.monitor_table.specs.Table.{MonitorMap}

-- at the number of each object the place of its monitor, if it has one
abbrev pub Places : Type 0
Places = List (Option ℕ)

-- the place of the monitor of the object of this number
abbrev pub place_in : Places → ℕ → Option ℕ
place_in places number = slice_index_or places number None

-- the numbers of objects, from this one on, and the monitors at their places
abbrev pub placed_from : Slab Monitor → ℕ → Places → List (ℕ × Monitor)
placed_from monitors number [] = []
placed_from monitors number (None ∷ places) = placed_from monitors (number + 1) places
placed_from monitors number (Some key ∷ places) = (number, unwrap_or (get monitors key) free) ∷ placed_from monitors (number + 1) places

-- what contracts see of places and monitors
abbrev pub shown : Places → Slab Monitor → MonitorMap
shown places monitors = finite.from_entries (placed_from monitors 0 places)

-- the object has this place now, or none, and every other one keeps its own
pub record PutsPlace (old new : Places) (number : ℕ) (place : Option ℕ) : Type 0 where
  pub here : place_in new number ≡ place
  pub others : (other : ℕ) → other ≢ number → place_in new other ≡ place_in old other

-- a monitor that may stand in the table
pub record IsKept (m : Monitor) : Type 0 where
  pub in_use : is_free m ≡ false
  pub counted : IsCounted m

-- each place names a monitor that may stand there, different objects have different places, and there is no other monitor
pub record IsIndexed (place_of : ℕ → Option ℕ) (monitor_at : ℕ → Option Monitor) : Type 0 where
  pub named : (number key : ℕ) → place_of number ≡ Some key → IsSomeAnd (monitor_at key) IsKept
  pub apart : (number other key : ℕ) → place_of number ≡ Some key → place_of other ≡ Some key → number ≡ other
  pub no_other : (key : ℕ) → IsSome (monitor_at key) → (number : ℕ) × (place_of number ≡ Some key)
