-- An instruction is found at its offset by the index, and none where none begins.
use Rattle.std.proofs.Common.{◌≡◌, ◌≢◌, ℕ, zero, suc, ◌+◌, ◌<◌, ◌≤◌, eqb, List, [], ◌∷◌, length, Option, Some, None, refl, sym, ap, ◌∙◌, arith}
use Rattle.std.specs.Prelude.{slice_get, slice_index_or, find, IfNone}
use Rattle.std.specs.Option.{option_map}
use Rattle.std.specs.Ordering.{nat_cmp}
use Rattle.std.specs.declared.cmp.Ordering.TheVariants.{Equal}
use Rattle.std.proofs.lemmas.Bool.{ne_eqb}
use Rattle.std.proofs.lemmas.Bool.Decides.{nat_tests}
use Rattle.std.proofs.lemmas.Option.{get_or_from_slice_get, slice_get_within, slice_get-get_or}
use Rattle.class_code.specs.declared.instr.Instr.{Instr}
use Rattle.class_code.specs.Listing.{IsRising}
use Rattle.class_code.specs.Lookups.{instr_at, following}
use Rattle.class_code.proofs.Lookups.{instr_found, following_found}
use Rattle.code_index.specs.Indexes.{IsIndexed, IsPlaceOf}

equal_cmp : (a b : ℕ) → a ≡ b → nat_cmp a b ≡ Equal
equal_cmp a b e = grind (arith, nat_tests)

pub instr_placed : (code : List (ℕ × Instr)) (k pc : ℕ) (d : ℕ × Instr) → IsRising code → IsPlaceOf code pc k
    → instr_at code pc ≡ Some (slice_index_or code k d).1
instr_placed code k pc d rising place = instr_found code k pc d rising place.0 (λ e. equal_cmp _ pc (place.1 e))

pub following_placed : (code : List (ℕ × Instr)) (k pc : ℕ) → IsRising code → IsPlaceOf code pc k
    → following code pc ≡ option_map (λ p. p.0) (slice_get code (k + 1))
following_placed code k pc rising place = following_found code k pc rising place.0 (λ e. equal_cmp _ pc (place.1 e))

-- ---- none

no_first : (code : List (ℕ × Instr)) (pc : ℕ) → ((k : ℕ) (d : ℕ × Instr) → k < length code → (slice_index_or code k d).0 ≢ pc)
    → find (λ p. eqb p.0 pc) code ≡ None
no_first [] pc none = refl
no_first (p ∷ code) pc none = rw (ne_eqb p.0 pc (none zero p (omega arith))) (no_first code pc (λ k d within. none (suc k) d (omega arith)))

pub none_begins : (code : List (ℕ × Instr)) (pc : ℕ) → ((k : ℕ) (d : ℕ × Instr) → k < length code → (slice_index_or code k d).0 ≢ pc)
    → instr_at code pc ≡ None
none_begins code pc none = ap (option_map (λ (p : ℕ × Instr). p.1)) (no_first code pc none)

-- what the index has at an offset is the place of what begins there
at_offset : (code : List (ℕ × Instr)) (places : List ℕ) (pc e : ℕ) → IsIndexed code places → (k : ℕ) (d : ℕ × Instr) → k < length code
    → (slice_index_or code k d).0 ≡ pc → (slice_index_or places pc e ≡ k) × (pc < length places)
at_offset code places pc e indexed k d within here =
    let at : slice_get places pc ≡ Some k = ap (λ (n : ℕ). slice_get places n) (sym here) ∙ indexed.placed k d within in
    (get_or_from_slice_get places pc k e at, slice_get_within places pc k at)

pub absent_past : (code : List (ℕ × Instr)) (places : List ℕ) (pc : ℕ) → IsIndexed code places → length places ≤ pc → instr_at code pc ≡ None
absent_past code places pc indexed past =
    none_begins code pc (λ k d within here. absurd (omega (arith, past, (at_offset code places pc 0 indexed k d within here).1)))

pub absent_place : (code : List (ℕ × Instr)) (places : List ℕ) (pc place : ℕ) → IsIndexed code places → place ≡ slice_index_or places pc place
    → length code ≤ place → instr_at code pc ≡ None
absent_place code places pc place indexed is past =
    none_begins code pc (λ k d within here. absurd (omega (arith, is, past, within, (at_offset code places pc place indexed k d within here).0)))

pub absent_other : (code : List (ℕ × Instr)) (places : List ℕ) (pc place : ℕ) (entry : ℕ × Instr) → IsIndexed code places
    → place ≡ slice_index_or places pc place → place < length code → entry ≡ slice_index_or code place entry → entry.0 ≢ pc → instr_at code pc ≡ None
absent_other code places pc place entry indexed is room at other = none_begins code pc differ
  where
    differ : (k : ℕ) (d : ℕ × Instr) → k < length code → (slice_index_or code k d).0 ≢ pc
    differ k d within here =
        let same : k ≡ place = omega (arith, is, (at_offset code places pc place indexed k d within here).0) in
        let own : slice_index_or code k d ≡ entry =
        ap (λ (n : ℕ). slice_index_or code n d) same ∙ get_or_from_slice_get code place (slice_index_or code place entry) d (slice_get-get_or code place entry room) ∙ sym at in
        other (ap (λ (p : ℕ × Instr). p.0) (sym own) ∙ here)

-- ---- as calls end

pub if_none : {A : Type 0} (r : Option A) (X : Type 0) → X → IfNone r X
if_none None X x = x
if_none (Some a) X x = tt
