-- The laws of breakpoints and watches.
use Rattle.std.specs.Prelude.{◌≡◌, Bool, true, false, List, ◌∷◌, ◌++◌}
use Rattle.ti_codes.specs.declared.event.EventKind.{EventKind}
use Rattle.change_list.specs.Laws.{AreSilent}
use Rattle.breakpoint_table.specs.Breakpoints as breakpoints
use Rattle.breakpoint_table.specs.Breakpoints.{Sets, Clears, ClearsClass, breakpoint_said, has_breakpoint}
use Rattle.breakpoint_table.specs.Watches as watches
use Rattle.breakpoint_table.specs.Watches.{watch_said, is_watched}

-- A breakpoint stands from when it was set until it is cleared, or all of a class that has the place; of what no change speaks there is none.
pub record BreakpointsAsSet (P C : Type 0) : Type 0 where
  pub set : (same : P → P → Bool) (is_in : C → P → Bool) (place : P) (before after : List (breakpoints.Change P C)) → same place place ≡ true
      → AreSilent (breakpoint_said same is_in place) after → has_breakpoint same is_in place (before ++ Sets place ∷ after) ≡ true
  pub cleared : (same : P → P → Bool) (is_in : C → P → Bool) (place : P) (before after : List (breakpoints.Change P C)) → same place place ≡ true
      → AreSilent (breakpoint_said same is_in place) after → has_breakpoint same is_in place (before ++ Clears place ∷ after) ≡ false
  pub class_cleared : (same : P → P → Bool) (is_in : C → P → Bool) (place : P) (class : C) (before after : List (breakpoints.Change P C))
      → is_in class place ≡ true → AreSilent (breakpoint_said same is_in place) after
      → has_breakpoint same is_in place (before ++ ClearsClass class ∷ after) ≡ false
  pub unset : (same : P → P → Bool) (is_in : C → P → Bool) (place : P) (changes : List (breakpoints.Change P C))
      → AreSilent (breakpoint_said same is_in place) changes → has_breakpoint same is_in place changes ≡ false

-- A field is watched for an event as it was set last.
abbrev pub WatchesAsSet : Type 0 → Type 0
WatchesAsSet F = (same : F → F → Bool) (field : F) (kind : EventKind) (on : Bool) (before after : List (watches.Change F)) → same field field ≡ true
    → AreSilent (watch_said same field kind) after
    → is_watched same field kind (before ++ record { field = field; kind = kind; on = on } ∷ after) ≡ on

-- A field of which no change speaks is not watched.
abbrev pub NoneWatched : Type 0 → Type 0
NoneWatched F = (same : F → F → Bool) (field : F) (kind : EventKind) (changes : List (watches.Change F))
    → AreSilent (watch_said same field kind) changes → is_watched same field kind changes ≡ false
