-- What is computed of bytes is what modified UTF-8 says of them: each answer of TextReading has its case, and no other.
use Rattle.std.proofs.Common.{◌≡◌, ℕ, ◌+◌, ◌/◌, ◌^◌, ◌<◌, ◌≤◌, true, false, eqb, leb, List, [], ◌∷◌, ◌++◌, length, take, drop, Option, Some, None, lit≤, refl, sym, ap, ◌∙◌, arith}
use Rattle.std.specs.Str.{bytes_eq}
use Rattle.std.proofs.Math.Seq.{take-append_seam, drop-append_seam}
use Rattle.std.proofs.lemmas.Bool.Decides.{nat_tests}
use Rattle.std.proofs.lemmas.List.{append-nil, take-append-drop}
use Rattle.std.proofs.lemmas.Option.{none-some, cond_some, option_and_then_some}
use Rattle.std.proofs.lemmas.Slice.Eq.{bytes_eq-Decides}
use Rattle.jv_names.specs.Utf8.{unit_bytes}
use Rattle.jv_names.specs.TextReading.{unit_size, bits_of_unit, spelled_unit, first_size, unit_at, IsUnitAnswer}
use Rattle.jv_names.proofs.UnitBytes.{each_unit}

-- ---- the size

size_front : (unit : ℕ) → unit < 2 ^ 16 → (after : List ℕ) → first_size (unit_bytes unit ++ after) ≡ Some (length (unit_bytes unit))
size_front = each_unit (λ unit own. unit < 2 ^ 16 → (after : List ℕ) → first_size (own ++ after) ≡ Some (length own))
    (λ unit low high small after.
    let l : leb 1 unit ≡ true = grind (arith, nat_tests) in
    let h : leb unit 0x7f ≡ true = grind (arith, nat_tests) in
    rw (l, h) refl)
    (λ small after. refl)
    (λ unit low high small after.
    let first : ℕ = 0xc0 + unit / 64 in
    let a : leb 1 first ≡ true = grind (arith, nat_tests) in
    let b : leb first 0x7f ≡ false = grind (arith, nat_tests) in
    let c : eqb first 0xc0 ≡ false = grind (arith, nat_tests) in
    let d : leb 0xc2 first ≡ true = grind (arith, nat_tests) in
    let e : leb first 0xdf ≡ true = grind (arith, nat_tests) in
    rw (a, b, c, d, e) refl)
    (λ unit low small after.
    let first : ℕ = 0xe0 + unit / 4096 in
    let a : leb 1 first ≡ true = grind (arith, nat_tests) in
    let b : leb first 0x7f ≡ false = grind (arith, nat_tests) in
    let c : eqb first 0xc0 ≡ false = grind (arith, nat_tests) in
    let d : leb 0xc2 first ≡ true = grind (arith, nat_tests) in
    let e : leb first 0xdf ≡ false = grind (arith, nat_tests) in
    let f : leb 0xe0 first ≡ true = grind (arith, nat_tests) in
    let g : leb first 0xef ≡ true = grind (arith, nat_tests) in
    rw (a, b, c, d, e, f, g) refl)

-- A unit has as many bytes as its first byte tells.
pub unit_size-first : (unit first : ℕ) (others : List ℕ) → unit < 2 ^ 16 → unit_bytes unit ≡ first ∷ others → unit_size first ≡ Some (length (unit_bytes unit))
unit_size-first unit first others small e = ap first_size (sym e ∙ sym (append-nil (unit_bytes unit))) ∙ size_front unit small []

size_bound : (first size : ℕ) → unit_size first ≡ Some size → first ≤ 0xef
size_bound first size sized =
    elim (leb first 0xef) as (λ b. leb first 0xef ≡ b → first ≤ 0xef) [
      | true ↦ λ test. grind (arith, nat_tests, test)
      | false ↦ λ test.
          let more : 0xef < first = grind (arith, nat_tests, test) in
          let a : leb 1 first ≡ true = grind (arith, nat_tests) in
          let b : leb first 0x7f ≡ false = grind (arith, nat_tests) in
          let c : eqb first 0xc0 ≡ false = grind (arith, nat_tests) in
          let d : leb 0xc2 first ≡ true = grind (arith, nat_tests) in
          let e : leb first 0xdf ≡ false = grind (arith, nat_tests) in
          let f : leb 0xe0 first ≡ true = grind (arith, nat_tests) in
          let none : unit_size first ≡ None = rw (a, b, c, d, e, f, test) refl in
          absurd (none-some size (sym none ∙ sized))
    ] refl

-- what is spelled as a unit is below 2 ^ 16
sized_unit : (unit : ℕ) (after : List ℕ) (size : ℕ) → first_size (unit_bytes unit ++ after) ≡ Some size → unit < 2 ^ 16
sized_unit = each_unit (λ unit own. (after : List ℕ) (size : ℕ) → first_size (own ++ after) ≡ Some size → unit < 2 ^ 16)
    (λ unit low high after size sized. omega arith)
    (λ after size sized. lit≤ tt)
    (λ unit low high after size sized. omega arith)
    (λ unit low after size sized. omega (arith, size_bound (0xe0 + unit / 4096) size sized))

-- ---- the unit

bits_again : (unit : ℕ) → bits_of_unit (unit_bytes unit) ≡ unit
bits_again = each_unit (λ unit own. bits_of_unit own ≡ unit) (λ unit low high. refl) refl (λ unit low high. omega arith) (λ unit low. omega arith)

-- A unit's bytes at the front are read as the unit.
pub unit_at-text : (unit : ℕ) (after : List ℕ) → unit < 2 ^ 16 → unit_at (unit_bytes unit ++ after) ≡ Some (unit, after)
unfolding unit_at
unit_at-text unit after small =
    let own = unit_bytes unit in
    let same : bytes_eq own own ≡ true = (bytes_eq-Decides own own).1 refl in
    rw (size_front unit small after, take-append_seam own after, drop-append_seam own after, bits_again unit, same) refl

spelled-front : (own rest : List ℕ) (x : ℕ × List ℕ) → spelled_unit own rest ≡ Some x → own ++ rest ≡ unit_bytes x.0 ++ x.1
spelled-front own rest x e =
    let bits = bits_of_unit own in
    let p = cond_some (bytes_eq (unit_bytes bits) own) (bits, rest) x e in
    let own_is : unit_bytes bits ≡ own = (bytes_eq-Decides (unit_bytes bits) own).0 p.0 in
    ap (λ (bytes : List ℕ). bytes ++ rest) (sym own_is) ∙ ap (λ (y : ℕ × List ℕ). unit_bytes y.0 ++ y.1) p.1

-- What is read is a unit whose bytes stand at the front.
pub unit_at-front : (bytes : List ℕ) (x : ℕ × List ℕ) → unit_at bytes ≡ Some x → (x.0 < 2 ^ 16) × (bytes ≡ unit_bytes x.0 ++ x.1)
unfolding unit_at
unit_at-front bytes x e =
    option_and_then_some (λ (size : ℕ). spelled_unit (take size bytes) (drop size bytes)) (first_size bytes) x e (λ size sized spelled.
    let whole : bytes ≡ unit_bytes x.0 ++ x.1 = sym (take-append-drop size bytes) ∙ spelled-front (take size bytes) (drop size bytes) x spelled in
    (sized_unit x.0 x.1 size (ap first_size (sym whole) ∙ sized), whole))

answer-unit : (bytes : List ℕ) (read : Option (ℕ × List ℕ)) → unit_at bytes ≡ read → IsUnitAnswer bytes read
answer-unit bytes None e = λ unit after small is. none-some (unit, after) (sym e ∙ ap unit_at is ∙ unit_at-text unit after small)
answer-unit bytes (Some x) e = unit_at-front bytes x e

-- what is computed is so
pub unit_at-is : (bytes : List ℕ) → IsUnitAnswer bytes (unit_at bytes)
unit_at-is bytes = answer-unit bytes (unit_at bytes) refl

-- and what is so is computed
pub unit_at-only : (bytes : List ℕ) (answer : Option (ℕ × List ℕ)) → IsUnitAnswer bytes answer → unit_at bytes ≡ answer
unit_at-only bytes None none =
    elim (unit_at bytes) as (λ r. unit_at bytes ≡ r → r ≡ None) [
      | None ↦ λ _. refl
      | Some x ↦ λ read. let front = unit_at-front bytes x read in absurd (none x.0 x.1 front.0 front.1)
    ] refl
unit_at-only bytes (Some x) found = ap unit_at found.1 ∙ unit_at-text x.0 x.1 found.0
