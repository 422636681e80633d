-- A list with one element changed.
use Rattle.std.specs.Prelude.{◌≡◌, ℕ, List, Some, slice_get, slice_set}

-- the element at an index was changed so, and all others are as they were
pub record ChangedAt {A : Type 0} (n : ℕ) (by : A → A → Type 0) (old new : List A) : Type 0 where
  pub before : A
  pub now : A
  pub there : slice_get old n ≡ Some before
  pub changed : by before now
  pub others : new ≡ slice_set old n now
