-- Places of instructions in their list, put at their offsets one after the other.
use Rattle.std.proofs.Common.{◌≡◌, ◌≢◌, ℕ, zero, suc, ◌+◌, ◌-◌, ◌<◌, ◌≤◌, List, length, set, Some, refl, sym, ap, ◌∙◌, arith, ◌⊎◌, inl, inr}
use Rattle.std.specs.Prelude.{slice_get, slice_index_or}
use Rattle.std.proofs.lemmas.List.{get_or-set_same, get_or-set_other, length-set}
use Rattle.std.proofs.lemmas.Option.{slice_get-get_or, slice_get_within, get_or_from_slice_get}
use Rattle.std.proofs.lemmas.Bool.{cases_lt}
use Rattle.class_code.specs.declared.instr.Instr.{Instr}
use Rattle.class_code.specs.Listing.{IsRising}
use Rattle.class_code.proofs.Lookups.{Rise, rises}
use Rattle.code_index.specs.Indexes.{AreBelow, ArePlaced}

-- what stands beside a list isn't looked at within it
same_default : (instrs : List (ℕ × Instr)) (i : ℕ) (d e : ℕ × Instr) → i < length instrs → slice_index_or instrs i e ≡ slice_index_or instrs i d
same_default instrs i d e within = get_or_from_slice_get instrs i (slice_index_or instrs i d) e (slice_get-get_or instrs i d within)

-- all offsets are below one more than the last
pub last_above : (instrs : List (ℕ × Instr)) (end : ℕ) (d : ℕ × Instr) → IsRising instrs → 0 < length instrs
    → end ≡ (slice_index_or instrs (length instrs - 1) d).0 + 1 → AreBelow instrs end
last_above instrs end d rising some is place e within = by (cases_lt place (length instrs - 1))
  where
    last : ℕ
    last = length instrs - 1

    same : (slice_index_or instrs last e).0 ≡ (slice_index_or instrs last d).0
    same = ap (λ (p : ℕ × Instr). p.0) (same_default instrs last d e (omega (arith, some)))

    by : (place < last) ⊎ (last ≤ place) → (slice_index_or instrs place e).0 < end
    by (inl before) = omega (arith, is, same, (rises instrs rising).below place last e before (omega (arith, some)))
    by (inr behind) =
        let here : place ≡ last = omega (arith, within, behind) in
        let at : (slice_index_or instrs place e).0 ≡ (slice_index_or instrs last e).0 = ap (λ (n : ℕ). (slice_index_or instrs n e).0) here in
        omega (arith, is, same, at)

-- one more is placed
pub one_more : (instrs : List (ℕ × Instr)) (places : List ℕ) (k at : ℕ) (own : ℕ × Instr) → IsRising instrs → k < length instrs
    → at ≡ (slice_index_or instrs k own).0 → at < length places → ArePlaced instrs k places → ArePlaced instrs (k + 1) (set places at k)
one_more instrs places k at own rising within is room placed place d small = by (cases_lt place k)
  where
    long : length (set places at k) ≡ length places
    long = length-set places at k

    by : (place < k) ⊎ (k ≤ place) → slice_get (set places at k) (slice_index_or instrs place d).0 ≡ Some place
    by (inl before) =
        let offset = (slice_index_or instrs place d).0 in
        let old = placed place d before in
        let same = same_default instrs k own d within in
        let below = (rises instrs rising).below place k d before within in
        let other : offset ≢ at = λ e. absurd (omega (arith, e, is, below, ap (λ (p : ℕ × Instr). p.0) same)) in
        let room_there : offset < length (set places at k) = omega (arith, long, slice_get_within places offset place old) in
        slice_get-get_or (set places at k) offset 0 room_there
        ∙ ap (λ (n : ℕ). Some n) (get_or-set_other places at offset k 0 other ∙ get_or_from_slice_get places offset place 0 old)
    by (inr behind) =
        let here : place ≡ k = omega (arith, small, behind) in
        let offset = (slice_index_or instrs place d).0 in
        let same = ap (λ (p : ℕ × Instr). p.0) (same_default instrs k own d within) in
        let there : offset ≡ at = ap (λ (n : ℕ). (slice_index_or instrs n d).0) here ∙ same ∙ sym is in
        let got : slice_get (set places at k) at ≡ Some k =
        slice_get-get_or (set places at k) at 0 (omega (arith, long, room)) ∙ ap (λ (n : ℕ). Some n) (get_or-set_same places at k 0 room) in
        ap (λ (n : ℕ). slice_get (set places at k) n) there ∙ got ∙ ap (λ (n : ℕ). Some n) (sym here)

-- so that there are as many offsets as before
pub below_set : (instrs : List (ℕ × Instr)) (places : List ℕ) (at k : ℕ) → AreBelow instrs (length places) → AreBelow instrs (length (set places at k))
below_set instrs places at k below place d within = omega (arith, length-set places at k, below place d within)

-- a place is at most the offset that stands there
pub place_within : (instrs : List (ℕ × Instr)) (place : ℕ) (d : ℕ × Instr) → IsRising instrs → place < length instrs
    → place ≤ (slice_index_or instrs place d).0
place_within instrs zero d rising within = omega arith
place_within instrs (suc place) d rising within =
    let before = place_within instrs place d rising (omega (arith, within)) in
    omega (arith, before, (rises instrs rising).below place (suc place) d (omega arith) within)
