-- A frame that isn't refused leaves a stack within its limits.
use Rattle.std.proofs.Common.{◌≡◌, ◌≤◌, ℕ, ◌+◌, Bool, true, false, ◌∷◌, List, length, refl, sym, subst, arith}
use Rattle.std.specs.Prelude.{nat_le, nat_lt, ◌||◌}
use Rattle.std.proofs.lemmas.Bool.Decides.{nat_tests}
use Rattle.std.proofs.lemmas.List.Sums.{sum_by-cons}
use Rattle.thread_frames.specs.Frame.{entry_words}
use Rattle.thread_frames.specs.ThreadStack.{most_words, stack_words, IsWithinLimits}
use Rattle.machine_state.specs.Core.{StackFrame}
use Rattle.instruction_effect.specs.Arguments.{is_deep}

room_left : (frames words more : ℕ) (full over : Bool) → nat_le 1024 frames ≡ full → nat_lt 262144 (words + more) ≡ over → (full || over) ≡ false
    → (frames + 1 ≤ 1024) × (more + words ≤ 262144)
room_left frames words more true over is above none = absurd (cc)
room_left frames words more false true is above none = absurd (cc)
room_left frames words more false false is above none = (grind (arith, nat_tests), grind (arith, nat_tests))

pub push_within : (frames : List StackFrame) (e : StackFrame) → is_deep frames (entry_words e) ≡ false → IsWithinLimits frames (stack_words frames)
    → IsWithinLimits (e ∷ frames) (stack_words (e ∷ frames))
push_within frames e fits within =
    let left = room_left (length frames) (stack_words frames) (entry_words e) _ _ refl refl fits in
    record {
      counted = refl;
      frames = omega (arith, left.0);
      words_within = subst (λ (n : ℕ). n ≤ most_words) (sym (sum_by-cons entry_words e frames)) left.1;
    }
