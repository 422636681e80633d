-- What holds of handlers as they are held.
use Rattle.std.proofs.Common.{◌≡◌, ℕ, ◌<◌, ◌≤◌, false, List, [], ◌++◌, filter, length, take, drop, Option, Some, None, All, MatchOption, slice_get, nat_lt, refl, sym, ap, ap₂, ◌∙◌, subst, arith, append-nil, IsPermutation}
use Rattle.std.specs.Option.{option_map_or}
use Rattle.std.proofs.lemmas.Bool.Decides.{nat_tests}
use Rattle.std.proofs.lemmas.List.{take-append-drop}
use Rattle.std.proofs.lemmas.List.Elements.{All-nil, All-same, All-take, All-filter, All-weaker, filter-append}
use Rattle.std.proofs.lemmas.List.Sorted.{All-permutation}
use Rattle.class_tree.specs.declared.body.Handler.{Handler}
use Rattle.type_frames.specs.TypeChecks.{covers}
use Rattle.type_handlers.specs.Coverage.{passes_at, CoversAt}
use Rattle.type_handlers.specs.Ranges.{start_at, end_at, IsSplit, IsHeld}
use Rattle.type_handlers.proofs.Permuted.{IsPermutation-filter}
use Rattle.type_handlers.proofs.Filtered.{filter_same_on, filter_none}
use Rattle.type_handlers.proofs.Places.{range_within}

-- one that has begun covers an offset until it ends
started_covers : (at : ℕ) (o : Option Handler) → option_map_or (λ h. h.start) o 0 ≤ at → option_map_or (covers at) o false ≡ nat_lt at (option_map_or (λ h. h.end) o 0)
started_covers at None h = grind (arith, nat_tests)
started_covers at (Some handler) h = grind (arith, nat_tests)

waiting_covers_not : (at : ℕ) (o : Option Handler) → at < option_map_or (λ h. h.start) o 0 → option_map_or (covers at) o false ≡ false
waiting_covers_not at None h = refl
waiting_covers_not at (Some handler) h = grind (arith, nat_tests)

-- the active ones are those that cover the offset
active_is : (handlers : List Handler) (order : List ℕ) (begun : ℕ) (active : List ℕ) (at : ℕ) → IsSplit handlers order begun active at → filter (passes_at handlers (covers at)) order ≡ active
active_is handlers order begun active at h =
    let c = passes_at handlers (covers at) in
    let lasts = λ (place : ℕ). nat_lt at (end_at handlers place) in
    let first : filter c (take begun order) ≡ filter lasts (take begun order) =
    filter_same_on c lasts (take begun order) (All-weaker (λ place. start_at handlers place ≤ at) (λ place. c place ≡ lasts place) (λ place. started_covers at (slice_get handlers place)) _ h.started) in
    let later : filter c (drop begun order) ≡ [] =
    filter_none c (drop begun order) (All-weaker (λ place. at < start_at handlers place) (λ place. c place ≡ false) (λ place. waiting_covers_not at (slice_get handlers place)) _ h.waiting) in
    ap (filter c) (sym (take-append-drop begun order)) ∙ filter-append c (take begun order) (drop begun order) ∙ ap₂ ◌++◌ first later ∙ append-nil _ ∙ sym h.lasting

pub held_covers : (handlers : List Handler) (order : List ℕ) (begun : ℕ) (active : List ℕ) (reached : Option ℕ) → IsHeld handlers order begun active reached → MatchOption reached (active ≡ []) (CoversAt handlers active)
held_covers handlers order begun active None h = h.split.1
held_covers handlers order begun active (Some at) h =
    subst (IsPermutation _) (active_is handlers order begun active at h.split) (IsPermutation-filter (passes_at handlers (covers at)) _ order h.complete)

active_within : (handlers : List Handler) (order : List ℕ) (begun : ℕ) (active : List ℕ) (reached : Option ℕ) → All (λ place. place < length handlers) order → MatchOption reached ((begun ≡ 0) × (active ≡ [])) (IsSplit handlers order begun active) → All (λ place. place < length handlers) active
active_within handlers order begun active None all h =
    let within = λ (place : ℕ). place < length handlers in
    All-same within active [] h.1 (All-nil within)
active_within handlers order begun active (Some at) all h =
    let within = λ (place : ℕ). place < length handlers in
    let lasts = λ (place : ℕ). nat_lt at (end_at handlers place) in
    All-same within active (filter lasts (take begun order)) h.lasting (All-filter lasts within (take begun order) (All-take within begun order all))

pub held_within : (handlers : List Handler) (order : List ℕ) (begun : ℕ) (active : List ℕ) (reached : Option ℕ) → IsHeld handlers order begun active reached → All (λ place. place < length handlers) active
held_within handlers order begun active reached h =
    active_within handlers order begun active reached (All-permutation (λ place. place < length handlers) _ order h.complete (range_within (length handlers))) h.split
