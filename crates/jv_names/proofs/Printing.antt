-- What names print as is visible ASCII, and so one line.
use Rattle.std.proofs.Common.{◌≡◌, ◌∙◌, ◌<◌, ◌≤◌, ◌+◌, ◌%◌, ◌/◌, ℕ, true, false, not, ◌&&◌, cond, eqb, leb, ltb, [], ◌∷◌, refl, arith}
use Rattle.std.specs.Prelude.{flat_map}
use Rattle.std.specs.List.{list_all}
use Rattle.std.proofs.lemmas.Bool.{le-leb}
use Rattle.std.proofs.lemmas.List.Folds.{list_all-append}
use Rattle.jv_names.specs.Names.{Name, is_visible, hex_digit, printed_unit, printed}

visible-between : (unit : ℕ) → 33 ≤ unit → unit ≤ 126 → is_visible unit ≡ true
visible-between unit low high =
    let above : leb 33 unit ≡ true = le-leb _ _ low in
    let below : leb unit 126 ≡ true = le-leb _ _ high in
    rw (above, below) refl

hex_digit-visible : (digit : ℕ) → digit < 16 → is_visible (hex_digit digit) ≡ true
hex_digit-visible digit small =
    elim (ltb digit 10) as (λ b. is_visible (cond b (48 + digit) (87 + digit)) ≡ true) [
      | true ↦ visible-between (48 + digit) (omega arith) (omega arith)
      | false ↦ visible-between (87 + digit) (omega arith) (omega arith)
    ]

escape-visible : (unit : ℕ) → list_all is_visible (92 ∷ 117 ∷ hex_digit (unit / 4096 % 16) ∷ hex_digit (unit / 256 % 16) ∷ hex_digit (unit / 16 % 16) ∷ hex_digit (unit % 16) ∷ []) ≡ true
escape-visible unit =
    let first = hex_digit-visible (unit / 4096 % 16) (omega arith) in
    let second = hex_digit-visible (unit / 256 % 16) (omega arith) in
    let third = hex_digit-visible (unit / 16 % 16) (omega arith) in
    let fourth = hex_digit-visible (unit % 16) (omega arith) in
    rw (first, second, third, fourth) refl

printed_unit-visible : (unit : ℕ) → list_all is_visible (printed_unit unit) ≡ true
printed_unit-visible unit =
    elim (is_visible unit) as (λ b. is_visible unit ≡ b → list_all is_visible (cond (b && not (eqb unit 92)) (unit ∷ []) (92 ∷ 117 ∷ hex_digit (unit / 4096 % 16) ∷ hex_digit (unit / 256 % 16) ∷ hex_digit (unit / 16 % 16) ∷ hex_digit (unit % 16) ∷ [])) ≡ true) [
      | true ↦ λ shows. elim (eqb unit 92) as (λ b. list_all is_visible (cond (not b) (unit ∷ []) (92 ∷ 117 ∷ hex_digit (unit / 4096 % 16) ∷ hex_digit (unit / 256 % 16) ∷ hex_digit (unit / 16 % 16) ∷ hex_digit (unit % 16) ∷ [])) ≡ true) [ true ↦ escape-visible unit | false ↦ rw shows refl ]
      | false ↦ λ hides. escape-visible unit
    ] refl

-- each unit of a printed name is visible; none is a space or a line feed
pub printed-visible : (name : Name) → list_all is_visible (printed name) ≡ true
unfolding printed
printed-visible [] = refl
printed-visible (unit ∷ units) =
    let front = printed_unit-visible unit in
    list_all-append is_visible (printed_unit unit) (flat_map printed_unit units) ∙ rw (front, printed-visible units) refl
