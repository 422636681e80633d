-- Entries that are held the lowest first, with others behind them.
use Rattle.std.proofs.Common.{◌≡◌, ℕ, zero, suc, ◌∙◌, ◌+◌, ◌-◌, ◌<◌, ◌≤◌, List, [], ◌∷◌, length, get_or, take, Some, reverse, refl, ap, sym, subst, arith}
use Rattle.std.specs.Prelude.{Result, Ok, Err, OnOk, OnErr, slice_get, slice_set}
use Rattle.std.proofs.lemmas.List.{reverse-append, take-set, take_more, take_more_set, length-set, length-take-le, get_or-take}
use Rattle.thread_frames.specs.ThreadStack.{IsKept, HoldsEntries, HasFrameAt, IsPutAt, IsSameBelow, IsDeep, top_words, popped, without_arguments_below}
use Rattle.thread_frames.specs.Operands.{OperandStack}
use Rattle.thread_frames.specs.Arguments.{without_topmost, without_operands}
use Rattle.thread_frames.specs.Frame.{entry_words, IsJava}
use Rattle.thread_frames.specs.declared.frame.Frame.{Frame}
use Rattle.thread_frames.specs.declared.frame.StackEntry.{StackEntry}
use Rattle.thread_frames.specs.declared.frame.StackEntry.TheVariants.{Java, Init}
use Rattle.thread_frames.proofs.Reversed.{get-held, reverse-set}
use Rattle.thread_frames.proofs.StackWords.{kept_pushed, kept_popped, words_popped, kept_without, set_below}

module _ {P : Type 0} where
  -- a write behind those that are held
  pub taken_hidden : (slots : List (StackEntry P)) (depth : ℕ) (entry : StackEntry P) → take depth (slice_set slots depth entry) ≡ take depth slots
  taken_hidden slots depth entry = take-set slots depth entry

  pub held_hidden : (slots : List (StackEntry P)) (depth words : ℕ) (entry : StackEntry P) → HoldsEntries slots depth words → HoldsEntries (slice_set slots depth entry) depth words
  held_hidden slots depth words entry held =
      let Kept : List (StackEntry P) → Type 0 = λ entries. IsKept (reverse entries) words in
      record {
        within = omega (arith, held.within, length-set slots depth entry);
        kept = subst Kept (sym (taken_hidden slots depth entry)) held.kept;
      }

  -- the last one that is held is the top
  pub taken_last : (slots : List (StackEntry P)) (depth : ℕ) (entry : StackEntry P) → depth < length slots → reverse (take (depth + 1) slots) ≡ get_or slots depth entry ∷ reverse (take depth slots)
  taken_last slots depth entry within =
      ap reverse (take_more slots depth entry within) ∙ reverse-append (take depth slots) (get_or slots depth entry ∷ [])

  none : StackEntry P
  none = Init (record { 0 = 0 })

  -- what is left without the top
  pub held_popped : (slots : List (StackEntry P)) (depth words uncovered : ℕ) → 0 < depth → HoldsEntries slots depth words → uncovered ≡ top_words (reverse (take (depth - 1) slots)) → (uncovered ≤ words) × HoldsEntries slots (depth - 1) (words - uncovered)
  held_popped slots zero words uncovered some held counted = absurd (omega arith)
  held_popped slots (suc rest) words uncovered some held counted =
      let same : suc rest ≡ rest + 1 = omega arith in
      let less : suc rest - 1 ≡ rest = omega arith in
      let inside : rest < length slots = omega (arith, held.within) in
      let old : reverse (take (suc rest) slots) ≡ get_or slots rest none ∷ reverse (take rest slots) = ap (λ (n : ℕ). reverse (take n slots)) same ∙ taken_last slots rest none inside in
      let new : uncovered ≡ top_words (reverse (take rest slots)) = counted ∙ ap (λ (n : ℕ). top_words (reverse (take n slots))) less in
      let total = words_popped (reverse (take (suc rest) slots)) (reverse (take rest slots)) (get_or slots rest none) words uncovered held.kept new old in
      let left : HoldsEntries slots rest (words - uncovered) = record {
        within = omega (arith, held.within);
        kept = kept_popped (reverse (take (suc rest) slots)) (reverse (take rest slots)) (get_or slots rest none) words uncovered held.kept new old;
      } in
      let Left : ℕ → Type 0 = λ n. HoldsEntries slots n (words - uncovered) in
      (omega (arith, total), subst Left (sym less) left)

  pub seen_popped : (slots : List (StackEntry P)) (depth : ℕ) → 0 < depth → depth ≤ length slots → reverse (take (depth - 1) slots) ≡ popped (reverse (take depth slots))
  seen_popped slots zero some within = absurd (omega arith)
  seen_popped slots (suc rest) some within =
      let same : suc rest ≡ rest + 1 = omega arith in
      let less : suc rest - 1 ≡ rest = omega arith in
      let old : reverse (take (suc rest) slots) ≡ get_or slots rest none ∷ reverse (take rest slots) = ap (λ (n : ℕ). reverse (take n slots)) same ∙ taken_last slots rest none (omega arith) in
      ap (λ (n : ℕ). reverse (take n slots)) less ∙ sym (ap (λ (stack : List (StackEntry P)). popped stack) old)

  -- ---- a frame at a place

  pub java_at : (slots : List (StackEntry P)) (place : ℕ) (entry : StackEntry P) → HasFrameAt slots place → entry ≡ get_or slots place entry → IsJava entry
  java_at [] place entry has read = absurd has
  java_at (first ∷ rest) zero entry has read = let Java : StackEntry P → Type 0 = IsJava in subst Java (sym read) has
  java_at (first ∷ rest) (suc place) entry has read = java_at rest place entry has read

  pub place_within : (slots : List (StackEntry P)) (place : ℕ) → HasFrameAt slots place → place < length slots
  place_within [] place has = absurd has
  place_within (first ∷ rest) zero has = omega arith
  place_within (first ∷ rest) (suc place) has = omega (arith, place_within rest place has)

  pub put_begun : {T E : Type 0} (result : Result T E) (slots : List (StackEntry P)) (place : ℕ) (frame begun : Frame P) → place < length slots → OnOk result (frame ≡ begun) → OnOk result (IsPutAt slots (slice_set slots place (Java frame)) place (Java begun))
  put_begun (Ok done) slots place frame begun within made =
      let Put : Frame P → Type 0 = λ f. IsPutAt slots (slice_set slots place (Java f)) place (Java begun) in
      subst Put (sym made) (record { put = take_more_set slots place (Java begun) within; within = omega (arith, within, length-set slots place (Java begun)) })
  put_begun (Err fault) slots place frame begun within made = tt

  pub kept_begun : {T E : Type 0} (result : Result T E) (slots : List (StackEntry P)) (place : ℕ) (entry : StackEntry P) → place < length slots → OnErr result (IsSameBelow slots (slice_set slots place entry) place)
  kept_begun (Ok done) slots place entry within = tt
  kept_begun (Err fault) slots place entry within =
      record { same = taken_hidden slots place entry; within = omega (arith, within, length-set slots place entry) }

  -- an entry is put on top
  pub held_pushed : (old new : List (StackEntry P)) (depth words covered : ℕ) (entry : StackEntry P) → HoldsEntries old depth words → covered ≡ top_words (reverse (take depth old)) → ¬ (IsDeep (reverse (take depth old)) (entry_words entry)) → IsPutAt old new depth entry → HoldsEntries new (depth + 1) (words + covered)
  held_pushed old new depth words covered entry held counted room at =
      let put : reverse (take (depth + 1) new) ≡ entry ∷ reverse (take depth old) = ap reverse at.put ∙ reverse-append (take depth old) (entry ∷ []) in
      record {
        within = omega (arith, at.within);
        kept = kept_pushed (reverse (take depth old)) (reverse (take (depth + 1) new)) entry words covered held.kept counted room put;
      }

  -- ---- a write to an entry that is held

  pub take-set_within : (slots : List (StackEntry P)) (depth place : ℕ) (entry : StackEntry P) → place < depth → take depth (slice_set slots place entry) ≡ slice_set (take depth slots) place entry
  take-set_within slots zero place entry within = absurd (omega arith)
  take-set_within [] (suc depth) place entry within = refl
  take-set_within (first ∷ rest) (suc depth) zero entry within = refl
  take-set_within (first ∷ rest) (suc depth) (suc place) entry within =
      ap (λ (entries : List (StackEntry P)). first ∷ entries) (take-set_within rest depth place entry (omega arith))

  -- the caller's entry below the top
  pub caller_at : (slots : List (StackEntry P)) (depth place : ℕ) (entry : StackEntry P) → place + 2 ≡ depth → depth ≤ length slots → entry ≡ get_or slots place entry → slice_get (reverse (take depth slots)) 1 ≡ Some entry
  caller_at slots depth place entry below within read =
      let count : length (take depth slots) ≡ depth = length-take-le depth slots within in
      get-held (take depth slots) place 1 entry (omega (arith, count, below)) (read ∙ sym (get_or-take depth slots place entry (omega (arith, below))))

  -- the operands that a call takes are gone
  pub arguments_gone : (slots : List (StackEntry P)) (depth place count : ℕ) (entry : StackEntry P) (caller : Frame P) (stack : OperandStack) → place + 2 ≡ depth → depth ≤ length slots → entry ≡ get_or slots place entry → entry ≡ Java caller → stack ≡ without_topmost count caller.stack → reverse (take depth (slice_set slots place (Java (record caller { stack = stack })))) ≡ without_arguments_below count (reverse (take depth slots))
  arguments_gone slots depth place count entry caller stack below within read java dropped =
      let long : length (take depth slots) ≡ depth = length-take-le depth slots within in
      let at = caller_at slots depth place entry below within read ∙ ap (λ (e : StackEntry P). Some e) java in
      ap (λ (s : OperandStack). reverse (take depth (slice_set slots place (Java (record caller { stack = s }))))) dropped
      ∙ ap reverse (take-set_within slots depth place (Java (without_operands count caller)) (omega (arith, below)))
      ∙ reverse-set (take depth slots) place 1 (Java (without_operands count caller)) (omega (arith, long, below))
      ∙ set_below (reverse (take depth slots)) count caller at

  pub held_without : (old new : List (StackEntry P)) (depth words count : ℕ) → length new ≡ length old → reverse (take depth new) ≡ without_arguments_below count (reverse (take depth old)) → HoldsEntries old depth words → HoldsEntries new depth words
  held_without old new depth words count same gone held =
      let Kept : List (StackEntry P) → Type 0 = λ stack. IsKept stack words in
      record { within = omega (arith, held.within, same); kept = subst Kept (sym gone) (kept_without (reverse (take depth old)) count words held.kept) }
