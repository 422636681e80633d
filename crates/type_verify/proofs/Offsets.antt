-- Offsets of instructions rise.
use Rattle.std.proofs.Common.{◌≡◌, ℕ, ◌<◌, ◌≤◌, ◌∙◌, List, get_or, Option, Some, sym, ap, arith}
use Rattle.std.specs.Prelude.{slice_get}
use Rattle.std.proofs.lemmas.Option.{slice_get_within, get_or_from_slice_get}
use Rattle.class_code.specs.declared.instr.Instr.{Instr}
use Rattle.class_code.specs.Listing.{IsRising}
use Rattle.class_code.proofs.Lookups.{rises}

some_is : {A : Type 0} {x y : A} → Some x ≡ Some y → x ≡ y
some_is e = cc

pub rising_le : (instrs : List (ℕ × Instr)) (i k : ℕ) (p q : ℕ × Instr) → IsRising instrs → slice_get instrs i ≡ Some p → slice_get instrs k ≡ Some q → i < k → p.0 ≤ q.0
rising_le instrs i k p q rising at there lt =
    let within = slice_get_within instrs k q there in
    let below = (rises instrs rising).below i k p lt within in
    let first = get_or_from_slice_get instrs i p p at in
    let second = get_or_from_slice_get instrs k q p there in
    let one : (get_or instrs i p).0 ≡ p.0 = ap (λ (x : ℕ × Instr). x.0) first in
    let two : (get_or instrs k p).0 ≡ q.0 = ap (λ (x : ℕ × Instr). x.0) second in
    omega (arith, below, one, two)

-- what was reached is not behind a later instruction
pub reached_later : (instrs : List (ℕ × Instr)) (i : ℕ) (p : ℕ × Instr) (reached : Option ℕ) → IsRising instrs → slice_get instrs i ≡ Some p → reached ≡ Some p.0
    → (x : ℕ) → reached ≡ Some x → (k : ℕ) (q : ℕ × Instr) → i < k → slice_get instrs k ≡ Some q → x ≤ q.0
reached_later instrs i p reached rising at is x e k q lt there =
    let same : x ≡ p.0 = some_is (sym e ∙ is) in
    let le = rising_le instrs i k p q rising at there lt in
    omega (arith, same, le)
