-- The lengths that `multianewarray` takes.
use Rattle.std.proofs.Common.{◌≡◌, ℕ, suc, ◌+◌, ◌-◌, ◌<◌, ◌≤◌, ◌∙◌, replicate, Option, Some, None, sym, ap, arith}
use Rattle.ti_ids.specs.Maybe.{◌>>=◌}
use Rattle.type_frames.specs.declared.vtype.VType.TheVariants.{Integer}
use Rattle.type_frames.specs.Hierarchies.{Known}
use Rattle.type_frames.specs.States.{State, taken, all_taken}

next : (h : Known) (end i : ℕ) (s : State) (left : Option State) → i < end → taken h Integer s ≡ left → all_taken h (replicate (end - i) Integer) s ≡ (left >>= all_taken h (replicate (end - (i + 1)) Integer))
next h end i s left lt e =
    let more : end - i ≡ suc (end - (i + 1)) = omega arith in
    ap (λ (n : ℕ). all_taken h (replicate n Integer) s) more ∙ ap (λ (o : Option State). o >>= all_taken h (replicate (end - (i + 1)) Integer)) e

pub lengths_more : (h : Known) (end i : ℕ) (s after : State) → i < end → taken h Integer s ≡ Some after → all_taken h (replicate (end - (i + 1)) Integer) after ≡ all_taken h (replicate (end - i) Integer) s
lengths_more h end i s after lt e = sym (next h end i s (Some after) lt e)

pub lengths_not : (h : Known) (end i : ℕ) (s : State) → i < end → taken h Integer s ≡ None → all_taken h (replicate (end - i) Integer) s ≡ None
lengths_not h end i s lt e = next h end i s None lt e

pub lengths_over : (h : Known) (end i : ℕ) (s : State) → end ≤ i → all_taken h (replicate (end - i) Integer) s ≡ Some s
lengths_over h end i s le = let none : end - i ≡ 0 = omega arith in ap (λ (n : ℕ). all_taken h (replicate n Integer) s) none
