-- Breakpoints (JVM TI, "Breakpoint"), whatever tells places and classes apart: `same` says whether two places are one, and `is_in`
-- whether a class has a place.
use Rattle.std.specs.Prelude.{Bool, true, false, List, Option, Some, None, if◌then◌else◌}
use Rattle.change_list.specs.Changes.{last_said}

pub data Change (P C : Type 0) : Type 0 where
  Sets : P → Change P C
  Clears : P → Change P C
  -- all breakpoints of a class are cleared
  ClearsClass : C → Change P C

module _ {P C : Type 0} (same : P → P → Bool) (is_in : C → P → Bool) where
  -- what a change says of a place, where it speaks of it
  abbrev pub breakpoint_said : P → Change P C → Option Bool
  breakpoint_said place (Sets at) = if same at place then Some true else None
  breakpoint_said place (Clears at) = if same at place then Some false else None
  breakpoint_said place (ClearsClass class) = if is_in class place then Some false else None

  -- a place has one where the last change that speaks of it sets it
  abbrev pub has_breakpoint : P → List (Change P C) → Bool
  has_breakpoint place changes = last_said (breakpoint_said place) false changes
