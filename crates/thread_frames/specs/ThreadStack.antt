-- The stack of one thread (JVM specification 2.5.2), as the list of its entries, the top first.
use Rattle.std.specs.Prelude.{ℕ, ◌≡◌, ◌+◌, ◌<◌, ◌≤◌, ◌⊎◌, List, [], ◌∷◌, ◌++◌, length, take, drop, reverse, sum_by, Option, Some, None, IsSomeAnd, slice_get}
use Rattle.std.specs.Option.{option_map_or}
use Rattle.ti_ids.specs.declared.number.ClassNo.{ClassNo}
use Rattle.ti_ids.specs.declared.value.Value.{Value}
use Rattle.thread_frames.specs.Frame.{entry_words, IsJava}
use Rattle.thread_frames.specs.Arguments.{topmost, called_frame, without_operands}
use Rattle.thread_frames.specs.declared.frame.Frame.{Frame}
use Rattle.thread_frames.specs.declared.frame.Invocation.{Invocation}
use Rattle.thread_frames.specs.declared.frame.StackEntry.{StackEntry}
use Rattle.thread_frames.specs.declared.frame.StackEntry.TheVariants.{Java, Init}

-- how many entries a stack has at most
abbrev pub most_frames : ℕ
most_frames = 1024

-- how many words its entries take at most
abbrev pub most_words : ℕ
most_words = 262144

module _ {P : Type 0} where
  -- the words of all entries
  abbrev pub stack_words : List (StackEntry P) → ℕ
  stack_words stack = sum_by entry_words stack

  -- the words of the top
  abbrev pub top_words : List (StackEntry P) → ℕ
  top_words [] = 0
  top_words (entry ∷ rest) = entry_words entry

  -- the stack is too deep for one more entry of so many words
  abbrev pub IsDeep : List (StackEntry P) → ℕ → Type 0
  IsDeep stack words = (most_frames ≤ length stack) ⊎ (most_words < stack_words stack + words)

  -- the frame on top, if the top is the frame of a method
  abbrev pub java_top : List (StackEntry P) → Option (Frame P)
  java_top [] = None
  java_top (Java frame ∷ rest) = Some frame
  java_top (Init class ∷ rest) = None

  -- the class on top, if the top is an initialization
  abbrev pub init_top : List (StackEntry P) → Option ClassNo
  init_top [] = None
  init_top (Java frame ∷ rest) = None
  init_top (Init class ∷ rest) = Some class

  -- the stack with this entry on top
  abbrev pub pushed : StackEntry P → List (StackEntry P) → List (StackEntry P)
  pushed entry stack = entry ∷ stack

  -- the stack without its top; an empty one stays
  abbrev pub popped : List (StackEntry P) → List (StackEntry P)
  popped stack = drop 1 stack

  -- the stack with this frame in the place of its top
  abbrev pub replaced : Frame P → List (StackEntry P) → List (StackEntry P)
  replaced frame stack = Java frame ∷ drop 1 stack

  -- the topmost operands of the frame on top, of which the last lies on top
  abbrev pub arguments_on : ℕ → List (StackEntry P) → List Value
  arguments_on count stack = option_map_or (λ caller. topmost count caller.stack) (java_top stack) []

  -- the stack whose top, if it is the frame of a method, is without so many of its topmost operands
  abbrev pub without_arguments : ℕ → List (StackEntry P) → List (StackEntry P)
  without_arguments count [] = []
  without_arguments count (Java caller ∷ rest) = Java (without_operands count caller) ∷ rest
  without_arguments count (Init class ∷ rest) = Init class ∷ rest

  -- the same of the entry below the top
  abbrev pub without_arguments_below : ℕ → List (StackEntry P) → List (StackEntry P)
  without_arguments_below count [] = []
  without_arguments_below count (top ∷ rest) = top ∷ without_arguments count rest

  -- the stack after a call: so many operands of the top have become the arguments of the frame of a method
  abbrev pub called : Invocation P → ℕ → List (StackEntry P) → List (StackEntry P)
  called call count stack = pushed (Java (called_frame call (arguments_on count stack))) (without_arguments count stack)

  -- the entries are counted in words, and neither entries nor words are more than there may be
  pub record IsWithinLimits (stack : List (StackEntry P)) (words : ℕ) : Type 0 where
    pub counted : words ≡ stack_words stack
    pub frames : length stack ≤ most_frames
    pub words_within : words ≤ most_words

  -- what is kept of a stack whose top may be exchanged: all below the top is within the limits, and so is the number of entries
  pub record IsKept (stack : List (StackEntry P)) (words_below : ℕ) : Type 0 where
    pub below : IsWithinLimits (popped stack) words_below
    pub frames : length stack ≤ most_frames

  -- ---- entries that are held the lowest first, and behind them what was popped

  -- the frame of a method stands at a place
  abbrev pub HasFrameAt : List (StackEntry P) → ℕ → Type 0
  HasFrameAt slots place = IsSomeAnd (slice_get slots place) IsJava

  -- this entry stands at a place, and all before it is as it was
  pub record IsPutAt (old new : List (StackEntry P)) (place : ℕ) (entry : StackEntry P) : Type 0 where
    pub put : take (place + 1) new ≡ take place old ++ entry ∷ []
    pub within : place < length new

  -- all before a place is as it was
  pub record IsSameBelow (old new : List (StackEntry P)) (place : ℕ) : Type 0 where
    pub same : take place new ≡ take place old
    pub within : place ≤ length new

  -- what is kept of them: so many are there, and they are a stack that is kept
  pub record HoldsEntries (slots : List (StackEntry P)) (depth words_below : ℕ) : Type 0 where
    pub within : depth ≤ length slots
    pub kept : IsKept (reverse (take depth slots)) words_below
