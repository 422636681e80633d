-- How the handlers that cover an offset are held.
use Rattle.std.specs.Prelude.{◌≡◌, ℕ, ◌<◌, ◌≤◌, List, [], length, filter, take, drop, Option, All, MatchOption, slice_get, nat_lt, IsPermutation}
use Rattle.std.specs.List.{range_with_len}
use Rattle.std.specs.List.Sorted.{IsNonDecreasingBy}
use Rattle.std.specs.Option.{option_map_or}
use Rattle.class_tree.specs.declared.body.Handler.{Handler}

-- where the handler at a place begins, and where it ends; 0 behind the last handler
abbrev pub start_at : List Handler → ℕ → ℕ
start_at handlers place = option_map_or (λ h. h.start) (slice_get handlers place) 0

abbrev pub end_at : List Handler → ℕ → ℕ
end_at handlers place = option_map_or (λ h. h.end) (slice_get handlers place) 0

-- At an offset: those that have begun stand first, and of them those are active that have not ended.
pub record IsSplit (handlers : List Handler) (order : List ℕ) (begun : ℕ) (active : List ℕ) (at : ℕ) : Type 0 where
  pub started : All (λ place. start_at handlers place ≤ at) (take begun order)
  pub waiting : All (λ place. at < start_at handlers place) (drop begun order)
  pub lasting : active ≡ filter (λ place. nat_lt at (end_at handlers place)) (take begun order)

-- Before the first offset none has begun.
pub record IsHeld (handlers : List Handler) (order : List ℕ) (begun : ℕ) (active : List ℕ) (reached : Option ℕ) : Type 0 where
  pub complete : IsPermutation (range_with_len 0 (length handlers)) order
  pub ascending : IsNonDecreasingBy (start_at handlers) order
  pub within : begun ≤ length order
  pub split : MatchOption reached ((begun ≡ 0) × (active ≡ [])) (IsSplit handlers order begun active)
