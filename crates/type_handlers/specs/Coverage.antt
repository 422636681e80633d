-- Which handlers of an exception table cover an offset (JVM specification 4.7.3), by their places in the table, from 0.
use Rattle.std.specs.Prelude.{◌≡◌, ℕ, Bool, false, not, ◌||◌, List, length, filter, Option, slice_get, IsPermutation}
use Rattle.std.specs.List.{list_all, range_with_len}
use Rattle.std.specs.Option.{option_map_or}
use Rattle.class_tree.specs.declared.body.Handler.{Handler}
use Rattle.type_frames.specs.TypeChecks.{covers}

-- a `Covering` as contracts see it: its handlers, and the offset last advanced to
pub record Coverage : Type 0 where
  pub handlers : List Handler
  pub reached : Option ℕ

-- the handler at a place passes a test; there is one
abbrev pub passes_at : List Handler → (Handler → Bool) → ℕ → Bool
passes_at handlers test place = option_map_or test (slice_get handlers place) false

-- These are the places of the handlers that cover an offset, each once, in some order.
abbrev pub CoversAt : List Handler → List ℕ → ℕ → Type 0
CoversAt handlers places at = IsPermutation (filter (passes_at handlers (covers at)) (range_with_len 0 (length handlers))) places

-- The handlers at these places pass a test exactly if each handler passes it or does not cover the offset.
abbrev pub TestsAlike : Type 0
TestsAlike =
    (handlers : List Handler) (places : List ℕ) (at : ℕ) (test : Handler → Bool) → CoversAt handlers places at
    → list_all (passes_at handlers test) places ≡ list_all (λ h. not (covers at h) || test h) handlers
