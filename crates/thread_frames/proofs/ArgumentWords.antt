-- The words of arguments, and of the frame that is made of them.
use Rattle.std.proofs.Common.{◌≡◌, ℕ, ◌∙◌, ◌+◌, ◌-◌, ◌≤◌, List, [], ◌∷◌, length, take, reverse, replicate, refl, ap, arith}
use Rattle.std.specs.Prelude.{flat_map, pos}
use Rattle.std.proofs.lemmas.List.{length-append, length-replicate, take_all}
use Rattle.std.proofs.lemmas.List.Sums.{sum_by-cons, sum_by-take-le}
use Rattle.std.proofs.lemmas.List.Sorted.{sum_by-IsPermutation, IsPermutation-reverse}
use Rattle.ti_ids.specs.declared.value.Value.{Value}
use Rattle.ti_ids.specs.declared.value.Value.TheVariants.{Int, Long, Ref}
use Rattle.thread_frames.specs.Operands.{OperandStack, value_words, words_of}
use Rattle.thread_frames.specs.Frame.{frame_words}
use Rattle.thread_frames.specs.Arguments.{topmost, places_of, locals_of, called_frame}
use Rattle.thread_frames.specs.declared.frame.Invocation.{Invocation}

length-places_of : (value : Value) → length (places_of value) ≡ value_words value
length-places_of (Int n) = refl
length-places_of (Long n) = refl
length-places_of (Ref object) = refl

-- A value takes as many local variables as words.
pub length-places : (values : List Value) → length (flat_map places_of values) ≡ words_of values
length-places [] = refl
length-places (value ∷ values) =
    omega (arith, length-append (places_of value) (flat_map places_of values), length-places_of value, length-places values, sum_by-cons value_words value values)

-- Where the arguments fit, there are as many local variables as the method's code has.
pub length-locals_of : (count : ℕ) (arguments : List Value) → words_of arguments ≤ count → length (locals_of count arguments) ≡ count
length-locals_of count arguments fits =
    let places = flat_map places_of arguments in
    omega (arith, length-append places (replicate (count - length places) (Int (pos 0))), length-replicate (count - length places) (Int (pos 0)), length-places arguments, fits)

pub words_called : {P : Type 0} (call : Invocation P) (arguments : List Value) → words_of arguments ≤ call.max_locals → frame_words (called_frame call arguments) ≡ call.max_locals + call.max_stack
words_called call arguments fits = omega (arith, length-locals_of call.max_locals arguments fits)

words_of-reverse : (values : List Value) → words_of (reverse values) ≡ words_of values
words_of-reverse values = sum_by-IsPermutation value_words values (reverse values) (IsPermutation-reverse values)

-- the topmost operands take no more words than all
pub topmost_within : (count : ℕ) (stack : OperandStack) → words_of (topmost count stack) ≤ words_of stack.entries
topmost_within count stack = omega (arith, words_of-reverse (take count stack.entries), sum_by-take-le value_words stack.entries count)

pub topmost_all : (count : ℕ) (stack : OperandStack) → length stack.entries ≤ count → words_of (topmost count stack) ≡ words_of stack.entries
topmost_all count stack all = words_of-reverse (take count stack.entries) ∙ ap (λ (values : List Value). words_of values) (take_all count stack.entries all)
