-- The words and the number of the entries of a stack whose top is not counted.
use Rattle.std.proofs.Common.{◌≡◌, ℕ, ◌∙◌, ◌+◌, ◌-◌, ◌<◌, ◌≤◌, List, [], ◌∷◌, length, refl, ap, sym, subst, inl, inr, arith}
use Rattle.std.specs.Prelude.{Some, IsSome, slice_get, slice_set, IsTrue, nat_lt}
use Rattle.std.proofs.lemmas.Bool.{lt-ltb, ltb-true}
use Rattle.std.proofs.lemmas.List.Sums.{sum_by-cons}
use Rattle.thread_frames.specs.Frame.{entry_words, IsJava}
use Rattle.thread_frames.specs.Arguments.{without_operands}
use Rattle.thread_frames.specs.ThreadStack.{most_frames, most_words, stack_words, top_words, IsDeep, IsKept, java_top, popped, without_arguments, without_arguments_below}
use Rattle.thread_frames.specs.declared.frame.Frame.{Frame}
use Rattle.thread_frames.specs.declared.frame.StackEntry.TheVariants.{Java, Init}
use Rattle.thread_frames.specs.declared.frame.StackEntry.{StackEntry}

module _ {P : Type 0} where
  pub top_and_below : (stack : List (StackEntry P)) → stack_words stack ≡ top_words stack + stack_words (popped stack)
  top_and_below [] = refl
  top_and_below (entry ∷ rest) = sum_by-cons entry_words entry rest

  -- ---- when a stack is too deep

  -- a stack that is not too deep has room for one more entry
  not_deep : (stack : List (StackEntry P)) (words : ℕ) → ¬ (IsDeep stack words) → (length stack < most_frames) × (stack_words stack + words ≤ most_words)
  not_deep stack words not =
      let frames : ¬ (most_frames ≤ length stack) = λ deep. not (inl deep) in
      let small : ¬ (most_words < stack_words stack + words) = λ deep. not (inr deep) in
      (omega (arith, frames), omega (arith, small))

  deep_words : (stack : List (StackEntry P)) (words : ℕ) → length stack < most_frames → IsDeep stack words → most_words < stack_words stack + words
  deep_words stack words few (inl many) = absurd (omega arith)
  deep_words stack words few (inr large) = large

  -- the top alone is too large
  pub deep_by_top : (stack : List (StackEntry P)) (below top words : ℕ) → IsKept stack below → top ≡ top_words stack → most_words - below < top → IsDeep stack words
  deep_by_top stack below top words kept counted large =
      inr (omega (arith, top_and_below stack, kept.below.counted))

  -- the top leaves so many words
  pub deep_by_words : (stack : List (StackEntry P)) (below top words : ℕ) → IsKept stack below → top ≡ top_words stack → top ≤ most_words - below → length stack < most_frames → (IsTrue (nat_lt (most_words - below - top) words) → IsDeep stack words) × (IsDeep stack words → IsTrue (nat_lt (most_words - below - top) words))
  deep_by_words stack below top words kept counted fits few =
      let all : stack_words stack ≡ below + top = omega (arith, top_and_below stack, kept.below.counted) in
      let within : below ≤ most_words = kept.below.words_within in (
        λ test. inr (omega (arith, ltb-true (most_words - below - top) words test, all, within)),
        λ deep. lt-ltb (most_words - below - top) words (omega (arith, deep_words stack words few deep, all, within)),
      )

  -- ---- changes

  -- an entry is put on top
  pub kept_pushed : (old new : List (StackEntry P)) (entry : StackEntry P) (below covered : ℕ) → IsKept old below → covered ≡ top_words old → ¬ (IsDeep old (entry_words entry)) → new ≡ entry ∷ old → IsKept new (below + covered)
  kept_pushed old new entry below covered kept counted not put =
      let room = not_deep old (entry_words entry) not in
      let all : below + covered ≡ stack_words old = omega (arith, top_and_below old, kept.below.counted) in
      let P : List (StackEntry P) → Type 0 = λ stack. IsKept stack (below + covered) in
      subst P (sym put) (record {
        below = record { counted = all; frames = omega (arith, room.0); words_within = omega (arith, room.1, all) };
        frames = omega (arith, room.0);
      })

  -- the top is taken away
  pub words_popped : (old new : List (StackEntry P)) (entry : StackEntry P) (below uncovered : ℕ) → IsKept old below → uncovered ≡ top_words new → old ≡ entry ∷ new → below ≡ uncovered + stack_words (popped new)
  words_popped old new entry below uncovered kept counted taken =
      let P : List (StackEntry P) → Type 0 = λ stack. IsKept stack below in
      let seen = subst P taken kept in
      omega (arith, seen.below.counted, top_and_below new, counted)

  pub kept_popped : (old new : List (StackEntry P)) (entry : StackEntry P) (below uncovered : ℕ) → IsKept old below → uncovered ≡ top_words new → old ≡ entry ∷ new → IsKept new (below - uncovered)
  kept_popped old new entry below uncovered kept counted taken =
      let P : List (StackEntry P) → Type 0 = λ stack. IsKept stack below in
      let seen = subst P taken kept in
      let words = words_popped old new entry below uncovered kept counted taken in
      let count : length (popped new) ≤ length new = shorter new in
      record {
        below = record { counted = omega (arith, words); frames = omega (arith, seen.below.frames, count); words_within = omega (arith, seen.below.words_within) };
        frames = seen.below.frames;
      }
    where
      shorter : (stack : List (StackEntry P)) → length (popped stack) ≤ length stack
      shorter [] = omega arith
      shorter (entry ∷ rest) = omega arith

  -- the top is exchanged
  pub set_top : (stack : List (StackEntry P)) (entry : StackEntry P) → 0 < length stack → slice_set stack 0 entry ≡ entry ∷ popped stack
  set_top [] entry some = absurd (omega arith)
  set_top (old ∷ rest) entry some = refl

  pub kept_replaced : (stack : List (StackEntry P)) (entry : StackEntry P) (below : ℕ) → 0 < length stack → IsKept stack below → IsKept (entry ∷ popped stack) below
  kept_replaced [] entry below some kept = absurd (omega arith)
  kept_replaced (old ∷ rest) entry below some kept = record { below = kept.below; frames = kept.frames }

  -- ---- entries

  pub some_java : (stack : List (StackEntry P)) → IsSome (java_top stack) → 0 < length stack
  some_java [] some = cc
  some_java (entry ∷ rest) some = omega arith

  pub two_below_java : (stack : List (StackEntry P)) → IsSome (java_top (popped stack)) → 1 < length stack
  two_below_java [] some = cc
  two_below_java (top ∷ rest) some = omega (arith, some_java rest some)

  pub java_top_at : (stack : List (StackEntry P)) (frame : Frame P) → slice_get stack 0 ≡ Some (Java frame) → java_top stack ≡ Some frame
  java_top_at [] frame at = cc
  java_top_at (Java top ∷ rest) frame at = cc
  java_top_at (Init class ∷ rest) frame at = cc

  pub java_top_is : (stack : List (StackEntry P)) (entry : StackEntry P) → IsSome (java_top stack) → slice_get stack 0 ≡ Some entry → IsJava entry
  java_top_is [] entry some at = cc
  java_top_is (top ∷ rest) (Java frame) some at = tt
  java_top_is (Java top ∷ rest) (Init class) some at = cc
  java_top_is (Init other ∷ rest) (Init class) some at = cc

  pub java_below_is : (stack : List (StackEntry P)) (entry : StackEntry P) → IsSome (java_top (popped stack)) → slice_get stack 1 ≡ Some entry → IsJava entry
  java_below_is [] entry some at = cc
  java_below_is (top ∷ rest) entry some at = java_top_is rest entry some at

  -- ---- operands below the top

  pub set_below : (stack : List (StackEntry P)) (count : ℕ) (caller : Frame P) → slice_get stack 1 ≡ Some (Java caller) → slice_set stack 1 (Java (without_operands count caller)) ≡ without_arguments_below count stack
  set_below [] count caller at = cc
  set_below (top ∷ []) count caller at = cc
  set_below (top ∷ entry ∷ rest) count caller at =
      let same : entry ≡ Java caller = cc in
      ap (λ (e : StackEntry P). top ∷ without_arguments count (e ∷ rest)) (sym same)

  without_words : (stack : List (StackEntry P)) (count : ℕ) → (stack_words (without_arguments count stack) ≡ stack_words stack) × (length (without_arguments count stack) ≡ length stack)
  without_words [] count = (refl, refl)
  without_words (Java caller ∷ rest) count =
      (sum_by-cons entry_words (Java (without_operands count caller)) rest ∙ sym (sum_by-cons entry_words (Java caller) rest), refl)
  without_words (Init class ∷ rest) count = (refl, refl)

  pub kept_without : (stack : List (StackEntry P)) (count below : ℕ) → IsKept stack below → IsKept (without_arguments_below count stack) below
  kept_without [] count below kept = kept
  kept_without (top ∷ rest) count below kept =
      let same = without_words rest count in
      record {
        below = record { counted = kept.below.counted ∙ sym same.0; frames = omega (arith, kept.below.frames, same.1); words_within = kept.below.words_within };
        frames = omega (arith, kept.frames, same.1);
      }
