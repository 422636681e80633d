-- Laws of the places of handlers that cover an offset.
use Rattle.std.proofs.Common.{◌≡◌, ℕ, zero, suc, ◌<◌, Bool, false, not, ◌||◌, List, [], ◌∷◌, map, length, get_or, Option, Some, None, All, slice_get, refl, sym, ◌∙◌, arith}
use Rattle.std.specs.List.{list_all, range_with_len}
use Rattle.std.specs.Option.{option_map_or}
use Rattle.std.proofs.lemmas.List.{length-map}
use Rattle.std.proofs.lemmas.List.Folds.{list_all-map}
use Rattle.std.proofs.lemmas.List.FromFn.{fill_by_all, length-range_with_len, get_or-range_with_len}
use Rattle.class_tree.specs.declared.body.Handler.{Handler}
use Rattle.type_frames.specs.TypeChecks.{covers}
use Rattle.type_handlers.specs.Coverage.{passes_at, TestsAlike}
use Rattle.type_handlers.proofs.Permuted.{list_all-IsPermutation}
use Rattle.type_handlers.proofs.Filtered.{list_all-filter}

get_or-map_some : {X : Type 0} (xs : List X) (k : ℕ) → get_or (map Some xs) k None ≡ slice_get xs k
get_or-map_some [] k = refl
get_or-map_some (x ∷ xs) zero = refl
get_or-map_some (x ∷ xs) (suc k) = get_or-map_some xs k

-- the elements, by their places
elements : {X : Type 0} (xs : List X) → map Some xs ≡ map (slice_get xs) (range_with_len 0 (length xs))
elements xs = fill_by_all (slice_get xs) (map Some xs) (length xs) None (length-map xs Some) (λ k h. get_or-map_some xs k)

pub list_all-places : {X : Type 0} (test : Option X → Bool) (xs : List X) → list_all (λ k. test (slice_get xs k)) (range_with_len 0 (length xs)) ≡ list_all (λ x. test (Some x)) xs
list_all-places test xs =
    sym (list_all-map test (slice_get xs) (range_with_len 0 (length xs))) ∙ rw (← elements xs) (list_all-map test Some xs)

-- what a caller cites: a test passes at the places of the handlers that cover an offset exactly if each handler passes it or does not
-- cover the offset
pub list_all-covering : TestsAlike
list_all-covering handlers places at test covering =
    sym (list_all-IsPermutation (passes_at handlers test) _ places covering)
    ∙ list_all-filter (passes_at handlers (covers at)) (passes_at handlers test) (range_with_len 0 (length handlers))
    ∙ list_all-places (λ o. not (option_map_or (covers at) o false) || option_map_or test o false) handlers

-- all places of a list are within it
pub range_within : (n : ℕ) → All (λ k. k < n) (range_with_len 0 n)
range_within n k d h =
    let m : k < n = omega (arith, length-range_with_len 0 n) in
    omega (arith, get_or-range_with_len 0 n k d m)

-- for a caller that reads the handler at a place of a slice
pub passes_at-get_or : (handlers : List Handler) (test : Handler → Bool) (place : ℕ) (d : Handler) → place < length handlers → passes_at handlers test place ≡ test (get_or handlers place d)
passes_at-get_or [] test place d h = absurd (omega arith)
passes_at-get_or (x ∷ xs) test zero d h = refl
passes_at-get_or (x ∷ xs) test (suc place) d h = passes_at-get_or xs test place d (omega arith)
