-- Offsets of instructions are numbers of two bytes.
use Rattle.std.proofs.Common.{◌≡◌, ℕ, ◌+◌, ◌<◌, ◌≤◌, ◌^◌, false, List, [], ◌∷◌, length, get_or, ap, arith, length-append}
use Rattle.std.specs.List.Sorted.{IsNonDecreasingBy}
use Rattle.std.proofs.lemmas.List.Elements.{All-cons}
use Rattle.class_code.specs.Spelling.{spelling}
use Rattle.class_code.specs.Listing.{spelled, InPlace, IsSpelled, IsListing}
use Rattle.class_code.proofs.Reaching.{offsets_rise}
use Rattle.std.specs.Prelude.{All, pos}
use Rattle.std.specs.Ordering.{int_eq}
use Rattle.std.proofs.lemmas.Bool.Decides.{nat_tests}
use Rattle.std.proofs.lemmas.List.Folds.{list_any_none}
use Rattle.class_code.specs.declared.instr.Instr.{Instr}
use Rattle.class_code.specs.Listing.{begins}

apart : (a b : ℕ) → a < 2 ^ 16 → 2 ^ 16 ≤ b → int_eq (pos a) (pos b) ≡ false
apart a b lt le = grind (arith, nat_tests)

-- no instruction begins further on
pub none_begun : (instrs : List (ℕ × Instr)) (at : ℕ) → All (λ p. p.0 < 2 ^ 16) instrs → 2 ^ 16 ≤ at → begins instrs (pos at) ≡ false
none_begun instrs at offsets le = list_any_none (λ p. int_eq (pos p.0) (pos at)) instrs (λ k d lt. apart (get_or instrs k d).0 at (offsets k d lt) le)

all_within : (at n : ℕ) (ps : List (ℕ × Instr)) → InPlace at ps → at + length (spelled ps) < n → All (λ p. p.0 < n) ps
all_within at n [] place lt = λ k d none. absurd (omega arith)
all_within at n (p ∷ ps) place lt =
    let len = length-append (spelling p.1) (spelled ps) in
    let here = place.0 in
    All-cons (λ (q : ℕ × Instr). q.0 < n) p ps (omega arith) (all_within (at + length (spelling p.1)) n ps place.3 (omega arith))

-- as those of a code are
pub offsets_short : (code : List ℕ) (ps : List (ℕ × Instr)) → IsSpelled code ps → length code < 2 ^ 16 → All (λ p. p.0 < 2 ^ 16) ps
offsets_short code ps is lt = let len = ap length is.whole in all_within 0 (2 ^ 16) ps is.in_place (omega arith)

pub rising_of : (code : List ℕ) (ps : List (ℕ × Instr)) → IsListing code ps → IsNonDecreasingBy (λ p. p.0) ps
rising_of code ps is = offsets_rise 0 ps is.spelled.in_place

pub offsets_of : (code : List ℕ) (ps : List (ℕ × Instr)) → IsListing code ps → length code < 2 ^ 16 → All (λ p. p.0 < 2 ^ 16) ps
offsets_of code ps is lt = offsets_short code ps is.spelled lt
