-- Of instructions whose offsets rise, a search by halving finds the one at an offset, and the one that follows it stands behind it.
use Rattle.std.proofs.Common.{◌≡◌, ◌≢◌, ℕ, zero, suc, ◌+◌, ◌<◌, ◌≤◌, ◌⊎◌, inl, inr, eqb, ltb, eq-eqb, List, [], ◌∷◌, length, map, Some, None, Err, refl, ap, add-one, arith}
use Rattle.std.specs.Prelude.{slice_index_or, slice_get, find}
use Rattle.std.specs.Option.{option_map}
use Rattle.std.specs.List.{HoldsAt}
use Rattle.std.specs.List.Sorted.{IsBinarySearchResult}
use Rattle.std.specs.Ordering.{nat_cmp, ordering_index}
use Rattle.std.specs.declared.cmp.Ordering.TheVariants.{Less, Equal, Greater}
use Rattle.std.proofs.lemmas.Bool.{ne_eqb, cases_lt}
use Rattle.std.proofs.lemmas.Bool.Decides.{nat_tests}
use Rattle.std.proofs.lemmas.List.{get_or-map, length-map}
use Rattle.std.proofs.lemmas.List.Kept.{AllPairs-from_increasing}
use Rattle.class_code.specs.declared.instr.Instr.{Instr}
use Rattle.class_code.specs.declared.instr.Instr.TheVariants as instr
use Rattle.class_code.specs.declared.instr.Simple.TheVariants as simple
use Rattle.class_code.specs.Listing.{IsRising}
use Rattle.class_code.specs.Lookups.{instr_at, following}

-- each offset is below all later ones
pub record Rise (code : List (ℕ × Instr)) : Type 0 where
  pub below : (i j : ℕ) (d : ℕ × Instr) → i < j → j < length code → (slice_index_or code i d).0 < (slice_index_or code j d).0

rises_on : (p : ℕ × Instr) (code : List (ℕ × Instr)) → Rise (p ∷ code) → Rise code
rises_on p code rise = record { below = λ i j d lt within. rise.below (suc i) (suc j) d (omega arith) (omega arith) }

pub rises : (code : List (ℕ × Instr)) → IsRising code → Rise code
rises code rising = record {
  below = λ i j d lt within.
      let n : j < length (map (λ (p : ℕ × Instr). p.0) code) = omega (arith, length-map code (λ (p : ℕ × Instr). p.0)) in
      let all = AllPairs-from_increasing (map (λ (p : ℕ × Instr). p.0) code) rising i j d.0 lt n in
      let first = get_or-map (λ (p : ℕ × Instr). p.0) code i d d.0 (omega arith) in
      let second = get_or-map (λ (p : ℕ × Instr). p.0) code j d d.0 within in
      omega (arith, all, first, second);
}

-- the first one with an offset is the one that was found
found : (code : List (ℕ × Instr)) (k pc : ℕ) (d : ℕ × Instr) → Rise code → k < length code → (slice_index_or code k d).0 ≡ pc → find (λ p. eqb p.0 pc) code ≡ Some (slice_index_or code k d)
found [] k pc d rise within at = absurd (omega arith)
found (p ∷ code) zero pc d rise within at = rw (eq-eqb p.0 pc at) refl
found (p ∷ code) (suc k) pc d rise within at =
    let below = rise.below zero (suc k) d (omega arith) within in
    rw (ne_eqb p.0 pc (λ e. absurd (omega (arith, below)))) (found code k pc d (rises_on p code rise) (omega arith) at)

-- the first one past an offset is the next one
next_found : (code : List (ℕ × Instr)) (k pc : ℕ) (d : ℕ × Instr) → Rise code → k < length code → (slice_index_or code k d).0 ≡ pc → find (λ p. ltb pc p.0) code ≡ slice_get code (suc k)
next_found [] k pc d rise within at = absurd (omega arith)
next_found (p ∷ []) zero pc d rise within at = grind (arith, nat_tests)
next_found (p ∷ q ∷ code) zero pc d rise within at =
    let below = rise.below zero (suc zero) d (omega arith) (omega arith) in
    grind (arith, nat_tests)
next_found (p ∷ code) (suc k) pc d rise within at =
    let below = rise.below zero (suc k) d (omega arith) within in
    let rest = next_found code k pc d (rises_on p code rise) (omega arith) at in
    grind (arith, nat_tests)

no_one : ℕ × Instr
no_one = (0, instr.Simple simple.Nop)

same_offset : (a b : ℕ) → nat_cmp a b ≡ Equal → a ≡ b
same_offset a b e = grind (arith, nat_tests)

less_differs : (a b : ℕ) → nat_cmp a b ≡ Less → a ≢ b
less_differs a b e same = grind (arith, nat_tests)

greater_differs : (a b : ℕ) → nat_cmp a b ≡ Greater → a ≢ b
greater_differs a b e same = grind (arith, nat_tests)

-- the comparisons with an offset rise with the number
compared : (a b t : ℕ) → a ≤ b → ordering_index (nat_cmp a t) ≤ ordering_index (nat_cmp b t)
compared a b t le = grind (arith, nat_tests)

rank_rises : (code : List (ℕ × Instr)) (pc i j : ℕ) (d : ℕ × Instr) → Rise code → i ≤ j → j < length code → (i < j) ⊎ (j ≤ i) → ordering_index (nat_cmp (slice_index_or code i d).0 pc) ≤ ordering_index (nat_cmp (slice_index_or code j d).0 pc)
rank_rises code pc i j d rise le within (inl lt) =
    let below = rise.below i j d lt within in
    compared (slice_index_or code i d).0 (slice_index_or code j d).0 pc (omega arith)
rank_rises code pc i j d rise le within (inr ge) =
    let same : i ≡ j = omega arith in
    rw same (omega arith)

pub instr_found : (code : List (ℕ × Instr)) (k pc : ℕ) (d : ℕ × Instr) → IsRising code → k < length code → HoldsAt (λ p. nat_cmp p.0 pc ≡ Equal) code k → instr_at code pc ≡ Some (slice_index_or code k d).1
instr_found code k pc d rising within equal =
    ap (option_map (λ (p : ℕ × Instr). p.1)) (found code k pc d (rises code rising) within (same_offset _ pc (equal d)))

pub following_found : (code : List (ℕ × Instr)) (k pc : ℕ) → IsRising code → k < length code → HoldsAt (λ p. nat_cmp p.0 pc ≡ Equal) code k → following code pc ≡ option_map (λ p. p.0) (slice_get code (k + 1))
following_found code k pc rising within equal =
    rw add-one (ap (option_map (λ (p : ℕ × Instr). p.0)) (next_found code k pc no_one (rises code rising) within (same_offset _ pc (equal no_one))))

-- none has the offset
not_found : (code : List (ℕ × Instr)) (pc : ℕ) → ((k : ℕ) (d : ℕ × Instr) → k < length code → (slice_index_or code k d).0 ≢ pc) → find (λ p. eqb p.0 pc) code ≡ None
not_found [] pc none = refl
not_found (p ∷ code) pc none =
    rw (ne_eqb p.0 pc (none zero p (omega arith))) (not_found code pc (λ k d within. none (suc k) d (omega arith)))

pub none_found : (code : List (ℕ × Instr)) (k pc : ℕ) → IsRising code → IsBinarySearchResult (λ p. nat_cmp p.0 pc) code (Err k) → instr_at code pc ≡ None
none_found code k pc rising parted =
    let rise = rises code rising in
    let parts = parted (λ i j d le lt. rank_rises code pc i j d rise le lt (cases_lt i j)) in
    ap (option_map (λ (p : ℕ × Instr). p.1)) (not_found code pc (λ i d within. elim (cases_lt i k) [
      | inl below ↦ less_differs _ pc (parts.0 i d (omega arith) below)
      | inr above ↦ greater_differs _ pc (parts.1 i d above within)
    ]))
