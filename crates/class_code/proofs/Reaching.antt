-- The offsets of a list of instructions rise, and a search by halving finds the one that begins at an offset.
use Rattle.std.proofs.Common.{◌≡◌, ℕ, zero, suc, ◌+◌, ◌≤◌, ◌<◌, inl, inr, ℤ, pos, negsuc, List, [], ◌∷◌, length, Result, Ok, Err, sym, ap, arith}
use Rattle.std.specs.Prelude.{is_ok, slice_index_or}
use Rattle.std.specs.List.Sorted.{IsSearchInRange, IsBinarySearchResult, IsNonDecreasingBy}
use Rattle.std.specs.Ordering.{int_cmp, int_eq, ordering_index, is_eq}
use Rattle.std.proofs.lemmas.Bool.{cases_lt}
use Rattle.std.proofs.lemmas.Bool.Decides.{nat_tests}
use Rattle.std.proofs.lemmas.List.Folds.{list_any_at, list_any_none}
use Rattle.class_code.specs.declared.instr.Simple.TheVariants as simple
use Rattle.class_code.specs.declared.instr.Instr.{Instr}
use Rattle.class_code.specs.declared.instr.Instr.TheVariants as instr
use Rattle.class_code.specs.Spelling.{spelling}
use Rattle.class_code.specs.Listing.{InPlace, begins}

at_least : (at : ℕ) (ps : List (ℕ × Instr)) (k : ℕ) (d : ℕ × Instr) → InPlace at ps → k < length ps → at ≤ (slice_index_or ps k d).0
at_least at [] k d place lt = absurd (omega arith)
at_least at (p ∷ ps) zero d place lt = omega (arith, place.0)
at_least at (p ∷ ps) (suc k) d place lt = omega (arith, at_least (at + length (spelling p.1)) ps k d place.3 (omega arith))

pub offsets_rise : (at : ℕ) (ps : List (ℕ × Instr)) → InPlace at ps → IsNonDecreasingBy (λ p. p.0) ps
offsets_rise at [] place i j d le lt = absurd (omega arith)
offsets_rise at (p ∷ ps) place zero j d le lt = omega (arith, place.0, at_least at (p ∷ ps) j d place lt)
offsets_rise at (p ∷ ps) place (suc i) zero d le lt = absurd (omega arith)
offsets_rise at (p ∷ ps) place (suc i) (suc j) d le lt = offsets_rise (at + length (spelling p.1)) ps place.3 i j d (omega arith) (omega arith)

-- the comparisons with a target rise with the number
compared : (a b : ℕ) (t : ℤ) → a ≤ b → ordering_index (int_cmp (pos a) t) ≤ ordering_index (int_cmp (pos b) t)
compared a b (pos n) le = grind (arith, nat_tests)
compared a b (negsuc n) le = omega arith

module _ (ps : List (ℕ × Instr)) (target : ℤ) where
  none : ℕ × Instr
  none = (0, instr.Simple simple.Nop)

  pub reached : (r : Result ℕ ℕ) → IsNonDecreasingBy (λ p. p.0) ps → IsSearchInRange r (length ps) → IsBinarySearchResult (λ p. int_cmp (pos p.0) target) ps r → is_ok r ≡ begins ps target
  reached (Ok at) rise in_range equal = sym (list_any_at (λ p. int_eq (pos p.0) target) ps at none in_range (ap is_eq (equal none)))
  reached (Err at) rise in_range parted =
      let parts = parted (λ i j d le lt. compared (slice_index_or ps i d).0 (slice_index_or ps j d).0 target (rise i j d le lt)) in
      sym (list_any_none (λ p. int_eq (pos p.0) target) ps (λ k d lt. elim (cases_lt k at) [
        | inl below ↦ ap is_eq (parts.0 k d (omega arith) below)
        | inr above ↦ ap is_eq (parts.1 k d above lt)
      ]))
