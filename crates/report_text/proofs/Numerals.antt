-- Numbers of one to nine digits are read back.
use Rattle.std.proofs.Common.{◌≡◌, ◌∙◌, ◌≤◌, ◌<◌, ◌+◌, ◌-◌, ◌*◌, ◌%◌, ◌^◌, ℕ, List, [], ◌∷◌, ◌++◌, length, true, not, eqb, leb, ltb, Some, refl, ap, arith, get_or, inl, inr}
use Rattle.std.specs.Prelude.{◌⊎◌, decimal}
use Rattle.std.specs.List.{list_all}
use Rattle.std.proofs.lemmas.Fmt.{decimal_by_steps, length-decimal-le, first_decimal}
use Rattle.std.proofs.lemmas.Bool.{le-leb, lt-ltb, leb-true}
use Rattle.std.proofs.lemmas.List.Folds.{list_all-append}
use Rattle.report_text.specs.Named.{IsNumber}
use Rattle.report_text.specs.Stated.{is_digit, value_behind, numeral}
use Rattle.report_text.proofs.Pieces.{both, differs, lacks, lacks-tested}

value-more : (front : ℕ) (digits : List ℕ) (last : ℕ) → value_behind front (digits ++ last ∷ []) ≡ value_behind front digits * 10 + (last - 48)
value-more front [] last = refl
value-more front (digit ∷ digits) last = value-more (front * 10 + (digit - 48)) digits last

all-more : (digits : List ℕ) (last : ℕ) → list_all is_digit digits ≡ true → is_digit last ≡ true → list_all is_digit (digits ++ last ∷ []) ≡ true
all-more digits last h k = list_all-append is_digit digits (last ∷ []) ∙ rw (h, k) refl

digit_of : (n : ℕ) → n < 10 → is_digit (48 + n) ≡ true
digit_of n h =
    let low : leb 48 (48 + n) ≡ true = le-leb _ _ (omega arith) in
    let high : leb (48 + n) 57 ≡ true = le-leb _ _ (omega arith) in
    rw (low, high) refl

abbrev Writes : ℕ → List ℕ → Type 0
Writes n digits = (list_all is_digit digits ≡ true) × (value_behind 0 digits ≡ n)

decimal-writes : (n : ℕ) → n < 2 ^ 64 → Writes n (decimal n)
decimal-writes n h =
    decimal_by_steps Writes
    (λ n lt. (rw (digit_of n lt) refl, omega arith))
    (λ n digits ge w. (all-more digits (48 + n % 10) w.0 (digit_of (n % 10) (omega arith)), value-more 0 digits (48 + n % 10) ∙ omega (arith, w.1)))
    n h

numeral-is : (digits : List ℕ) (n : ℕ) → Writes n digits → 48 < get_or digits 0 0 → length digits ≤ 9 → numeral digits ≡ Some n
numeral-is [] n w first short = absurd (omega arith)
numeral-is (digit ∷ digits) n w first short =
    let all = w.0 in
    let low : ltb 48 digit ≡ true = lt-ltb _ _ first in
    let few : ltb (length digits) 9 ≡ true = lt-ltb _ _ (omega arith) in
    rw (all, low, few) (ap (λ (k : ℕ). Some k) w.1)

pub numeral-decimal : (n : ℕ) → IsNumber n → numeral (decimal n) ≡ Some n
numeral-decimal n h =
    let some = h.0 in
    let small = h.1 in
    numeral-is (decimal n) n (decimal-writes n (omega arith)) (first_decimal n some (omega arith)) (length-decimal-le 9 n (omega arith) small (omega arith))

no_digit : (s u : ℕ) → (s < 48) ⊎ (57 < s) → is_digit u ≡ true → not (eqb u s) ≡ true
no_digit s u out h =
    let k = both (leb 48 u) (leb u 57) h in
    let low = leb-true 48 u k.0 in
    let high = leb-true u 57 k.1 in
    differs u s (λ e. elim out [ inl below ↦ omega arith | inr above ↦ omega arith ])

pub lacks-decimal : (s n : ℕ) → (s < 48) ⊎ (57 < s) → IsNumber n → lacks s (decimal n) ≡ true
lacks-decimal s n out h = let small = h.1 in lacks-tested is_digit s (decimal n) (λ u. no_digit s u out) (decimal-writes n (omega arith)).0
