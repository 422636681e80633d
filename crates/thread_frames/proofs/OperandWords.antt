-- An operand stack has no more entries than words.
use Rattle.std.proofs.Common.{ℕ, ◌≡◌, ◌∙◌, ◌+◌, ◌<◌, ◌≤◌, List, [], ◌∷◌, Some, length, get_or, reverse, ap, sym, subst, arith}
use Rattle.std.specs.Prelude.{slice_get, slice_set}
use Rattle.std.proofs.lemmas.Option.{get_or_from_slice_get}
use Rattle.std.proofs.lemmas.List.{length-reverse}
use Rattle.std.proofs.lemmas.List.Sums.{sum_by-cons, sum_by-set, get_or-le-sum_by}
use Rattle.thread_frames.proofs.Reversed.{get-held}
use Rattle.ti_ids.specs.declared.value.Value.{Value}
use Rattle.ti_ids.specs.declared.value.Value.TheVariants.{Int, Long, Ref}
use Rattle.thread_frames.specs.Operands.{OperandStack, value_words, words_of, Fits}

one_word : (value : Value) → 1 ≤ value_words value
one_word (Int n) = omega arith
one_word (Long n) = omega arith
one_word (Ref object) = omega arith

length_within : (values : List Value) → length values ≤ words_of values
length_within [] = omega arith
length_within (value ∷ values) = omega (arith, sum_by-cons value_words value values, one_word value, length_within values)

-- values in the other order, as the memory holds them
pub held_within : (values : List Value) → length values ≤ words_of (reverse values)
held_within values = omega (arith, length-reverse values, length_within (reverse values))

-- where a value fits on top, there is memory for one more
pub fewer_than_room : (values : List Value) (room : ℕ) (stack : OperandStack) (value : Value) → stack ≡ record { entries = reverse values; room = room } → Fits stack value → length values < room
fewer_than_room values room stack value seen fits =
    let P : OperandStack → Type 0 = λ s. Fits s value in
    omega (arith, subst P seen fits, sum_by-cons value_words value (reverse values), one_word value, held_within values)

-- the words after a write
pub words_of-set : (values : List Value) (depth : ℕ) (old new : Value) → depth < length values → slice_get values depth ≡ Some old → words_of (slice_set values depth new) + value_words old ≡ words_of values + value_words new
words_of-set values depth old new within at =
    sym (ap (λ (value : Value). words_of (slice_set values depth new) + value_words value) (get_or_from_slice_get values depth old old at)) ∙ sum_by-set value_words values depth new old within

pub words_of-get : (values : List Value) (depth : ℕ) (value : Value) → depth < length values → slice_get values depth ≡ Some value → value_words value ≤ words_of values
words_of-get values depth value within at =
    omega (arith, ap (λ (v : Value). value_words v) (get_or_from_slice_get values depth value value at), get_or-le-sum_by value_words values depth value within)

-- the same where the values are held with the top last
pub words_written : (held : List Value) (place depth words : ℕ) (old new : Value) → place + depth + 1 ≡ length held → old ≡ get_or held place old → words ≡ words_of (reverse held) → (value_words old ≤ words) × (words + value_words new ≡ words_of (slice_set (reverse held) depth new) + value_words old)
words_written held place depth words old new within read counted =
    let inside : depth < length (reverse held) = omega (arith, within, length-reverse held) in
    let at = get-held held place depth old within read in
    (omega (arith, words_of-get (reverse held) depth old inside at), omega (arith, words_of-set (reverse held) depth old new inside at))
