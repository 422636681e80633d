-- What holds of handlers as they are held after going on to an offset.
use Rattle.std.proofs.Common.{◌≡◌, ℕ, ◌+◌, ◌-◌, ◌<◌, ◌≤◌, true, List, ◌++◌, filter, length, take, get_or, Option, Some, None, slice_index, slice_range, nat_lt, refl, sym, ap, ◌∙◌, arith, ◌⊎◌, inl, inr, take-add}
use Rattle.std.specs.Option.{ForSome}
use Rattle.std.proofs.lemmas.Bool.Decides.{nat_tests}
use Rattle.std.proofs.lemmas.List.{length-take, length-drop, get_or-take, get_or-drop, get_or_default}
use Rattle.std.proofs.lemmas.List.Elements.{filter-append}
use Rattle.class_tree.specs.declared.body.Handler.{Handler}
use Rattle.type_handlers.specs.Ranges.{start_at, end_at, IsHeld}
use Rattle.type_handlers.proofs.Filtered.{filter_twice}

front_and_range : (xs : List ℕ) (a b : ℕ) → a ≤ b → take a xs ++ slice_range xs a b ≡ take b xs
front_and_range xs a b h =
    let e : a + (b - a) ≡ b = omega arith in
    sym (take-add a (b - a) xs) ∙ ap (λ n. take n xs) e

-- what has not ended later on has not ended
still : (handlers : List Handler) (reached at place : ℕ) → reached ≤ at → nat_lt at (end_at handlers place) ≡ true → nat_lt reached (end_at handlers place) ≡ true
still handlers reached at place h e = grind (arith, nat_tests)

-- those that had begun, at a place in their order
had_begun : (handlers : List Handler) (order : List ℕ) (begun : ℕ) (active : List ℕ) (reached : Option ℕ) (at k d : ℕ) → IsHeld handlers order begun active reached → ForSome reached (λ r. r ≤ at) → k < begun → start_at handlers (get_or order k d) ≤ at
had_begun handlers order begun active None at k d held later h = absurd (omega (arith, held.split.0))
had_begun handlers order begun active (Some reached) at k d held later h =
    let long : k < length (take begun order) = omega (arith, length-take begun order, held.within) in
    let was : start_at handlers (get_or order k d) ≤ reached = rw (← get_or-take begun order k d h) (held.split.started k d long) in
    omega (arith, later reached refl)

below_or_not : (a b : ℕ) → (a < b) ⊎ (b ≤ a)
below_or_not a b = grind arith

by_cases : (P : Type 0) (a b : ℕ) → (a < b) ⊎ (b ≤ a) → (a < b → P) → (b ≤ a → P) → P
by_cases P a b (inl h) below not_below = below h
by_cases P a b (inr h) below not_below = not_below h

-- all that begin before the next ones do, at a place in their order
begun_at : (handlers : List Handler) (order : List ℕ) (begun : ℕ) (active : List ℕ) (reached : Option ℕ) (at next : ℕ) → IsHeld handlers order begun active reached → ForSome reached (λ r. r ≤ at)
    → ((k : ℕ) → begun ≤ k → k < next → start_at handlers (slice_index order k) ≤ at) → (k d : ℕ) → k < next → k < length order → start_at handlers (get_or order k d) ≤ at
begun_at handlers order begun active reached at next held later begins k d short long =
    by_cases (start_at handlers (get_or order k d) ≤ at) k begun (below_or_not k begun)
    (had_begun handlers order begun active reached at k d held later)
    (λ h. rw (get_or_default order k d 0 long) (begins k h short))

lasting_more : (handlers : List Handler) (order : List ℕ) (begun : ℕ) (active : List ℕ) (reached : Option ℕ) (at next : ℕ) → IsHeld handlers order begun active reached → ForSome reached (λ r. r ≤ at) → begun ≤ next
    → filter (λ place. nat_lt at (end_at handlers place)) (active ++ slice_range order begun next) ≡ filter (λ place. nat_lt at (end_at handlers place)) (take next order)
lasting_more handlers order begun active None at next held later h =
    let lasts = λ (place : ℕ). nat_lt at (end_at handlers place) in
    let none : next - 0 ≡ next = omega arith in
    rw (held.split.1, held.split.0) (ap (λ n. filter lasts (take n order)) none)
lasting_more handlers order begun active (Some reached) at next held later h =
    let lasts = λ (place : ℕ). nat_lt at (end_at handlers place) in
    let lasted = λ (place : ℕ). nat_lt reached (end_at handlers place) in
    let more = slice_range order begun next in
    ap (λ l. filter lasts (l ++ more)) held.split.lasting
    ∙ filter-append lasts (filter lasted (take begun order)) more
    ∙ ap (λ l. l ++ filter lasts more) (filter_twice lasted lasts (λ place. still handlers reached at place (later reached refl)) (take begun order))
    ∙ sym (filter-append lasts (take begun order) more)
    ∙ ap (filter lasts) (front_and_range order begun next h)

-- The next ones, up to the first that begins behind the offset, are put behind the active ones, and of these those stay that last.
pub advanced : (handlers : List Handler) (order : List ℕ) (begun : ℕ) (active : List ℕ) (reached : Option ℕ) → IsHeld handlers order begun active reached
    → (at next : ℕ) → ForSome reached (λ r. r ≤ at) → begun ≤ next → next ≤ length order
    → ((k : ℕ) → begun ≤ k → k < next → start_at handlers (slice_index order k) ≤ at) → (next < length order → at < start_at handlers (slice_index order next))
    → (more left : List ℕ) → more ≡ active ++ slice_range order begun next → left ≡ filter (λ place. nat_lt at (end_at handlers place)) more
    → IsHeld handlers order next left (Some at)
advanced handlers order begun active reached held at next later from within begins waits more left more_is left_is = record {
  complete = held.complete;
  ascending = held.ascending;
  within = within;
  split = record {
    started = λ k d h.
        let short : k < next = omega (arith, length-take next order) in
        let long : k < length order = omega arith in
        rw (get_or-take next order k d short)
        (begun_at handlers order begun active reached at next held later begins k d short long);
    waiting = λ k d h.
        let long : next + k < length order = omega (arith, length-drop next order) in
        let first : at < start_at handlers (get_or order next d) = rw (get_or_default order next d 0 (omega arith)) (waits (omega arith)) in
        let rises : start_at handlers (get_or order next d) ≤ start_at handlers (get_or order (next + k) d) = held.ascending next (next + k) d (omega arith) long in
        rw (get_or-drop next order k d) (omega arith);
    lasting = left_is ∙ ap (filter (λ place. nat_lt at (end_at handlers place))) more_is ∙ lasting_more handlers order begun active reached at next held later from;
  };
}
