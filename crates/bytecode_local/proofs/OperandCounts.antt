-- The words of operands that are taken or put one by one.
use Rattle.std.proofs.Common.{◌≡◌, ℕ, zero, suc, ◌+◌, ◌-◌, ◌<◌, ◌≤◌, List, [], ◌∷◌, ◌++◌, length, take, drop, Some, None, refl, sym, ap, subst, ◌∙◌, add-one, arith}
use Rattle.std.specs.Prelude.{slice_get, slice_index_or, slice_set}
use Rattle.std.proofs.Math.Seq.{drop-cons}
use Rattle.std.proofs.lemmas.List.{take_more, take_more_set}
use Rattle.std.proofs.lemmas.Option.{slice_get_within, get_or_from_slice_get}
use Rattle.std.proofs.lemmas.List.Sums.{sum_by-cons, sum_by-append, sum_by_more, sum_by-take-le, sum_by-take-drop}
use Rattle.ti_ids.specs.declared.value.Value.{Value}
use Rattle.ti_ids.specs.declared.value.Value.TheVariants as value
use Rattle.thread_frames.specs.Operands.{OperandStack, Fits, value_words, words_of}

pub words_at_most_two : (v : Value) → value_words v ≤ 2
words_at_most_two (value.Int n) = omega arith
words_at_most_two (value.Long n) = omega arith
words_at_most_two (value.Ref r) = omega arith

-- one more from the top
pub words_of_more : (values : List Value) (i : ℕ) (v : Value) → slice_get values i ≡ Some v → words_of (take (i + 1) values) ≡ words_of (take i values) + value_words v
words_of_more values i v at =
    sum_by_more value_words values i v (slice_get_within values i v at)
    ∙ ap (λ w. words_of (take i values) + value_words w) (get_or_from_slice_get values i v v at)

words_of_none : (n : ℕ) → words_of (take n []) ≡ 0
words_of_none zero = refl
words_of_none (suc n) = refl

-- there are no more
pub words_of_all : (values : List Value) (i n : ℕ) → slice_get values i ≡ None → i ≤ n → words_of (take n values) ≡ words_of (take i values)
words_of_all [] i n past le = words_of_none n ∙ sym (words_of_none i)
words_of_all (v ∷ values) zero n past le = cc
words_of_all (v ∷ values) (suc i) zero past le = absurd (omega arith)
words_of_all (v ∷ values) (suc i) (suc n) past le =
    let rest = words_of_all values i n past (omega arith) in
    omega (arith, sum_by-cons value_words v (take n values), sum_by-cons value_words v (take i values))

-- what stays and what comes take the words that they take together
pub words_of_changed : (given entries : List Value) (taken : ℕ) → words_of (given ++ drop taken entries) + words_of (take taken entries) ≡ words_of given + words_of entries
words_of_changed given entries taken =
    omega (arith, sum_by-append value_words given (drop taken entries), sum_by-take-drop value_words entries taken)

pub words_of_taken : (entries : List Value) (taken : ℕ) → words_of (take taken entries) ≤ words_of entries
words_of_taken entries taken = sum_by-take-le value_words entries taken

-- a part of what comes takes no more words than the whole
pub words_of_part : (given entries : List Value) (i : ℕ) → words_of (drop i given ++ entries) ≤ words_of (given ++ entries)
words_of_part given entries i =
    omega (arith, sum_by-append value_words given entries, sum_by-append value_words (drop i given) entries, sum_by-take-drop value_words given i)

-- one operand more, from the last to the first
pub one_more_put : (given entries : List Value) (i : ℕ) (v : Value) → i < length given → v ≡ slice_index_or given i v → v ∷ (drop (i + 1) given ++ entries) ≡ drop i given ++ entries
one_more_put given entries i v within at =
    rw (add-one, drop-cons given i v within) (ap (λ w. w ∷ (drop (suc i) given ++ entries)) at)

pub room_for_more : (given entries : List Value) (i room : ℕ) (v : Value) → i < length given → v ≡ slice_index_or given i v → words_of (given ++ entries) ≤ room → words_of (v ∷ (drop (i + 1) given ++ entries)) ≤ room
room_for_more given entries i room v within at fits =
    omega (arith, ap words_of (one_more_put given entries i v within at), words_of_part given entries i)

-- one value more is copied
pub copied_more : (held values : List Value) (i : ℕ) (d : Value) → i < length held → i < length values → take i held ≡ take i values → take (i + 1) (slice_set held i (slice_index_or values i d)) ≡ take (i + 1) values
copied_more held values i d room within same =
    take_more_set held i (slice_index_or values i d) room ∙ ap (λ front. front ++ slice_index_or values i d ∷ []) same ∙ sym (take_more values i d within)

-- before one is put, there is room for it
pub room_for_next : (given : List Value) (base stack : OperandStack) (left : ℕ) (d : Value) → 0 < left → left ≤ length given → stack ≡ record { entries = drop left given ++ base.entries; room = base.room } → words_of (given ++ base.entries) ≤ base.room → Fits stack (slice_index_or given (left - 1) d)
room_for_next given base stack zero d some within seen fits = absurd (omega arith)
room_for_next given base stack (suc i) d some within seen fits =
    let v = slice_index_or given (suc i - 1) d in
    let P : OperandStack → Type 0 = λ s. Fits s v in
    let here : suc i - 1 ≡ i = omega arith in
    let put : v ∷ (drop (suc i) given ++ base.entries) ≡ drop i given ++ base.entries =
    rw here (rw (drop-cons given i d (omega arith)) refl) in
    subst P (sym seen) (omega (arith, ap words_of put, words_of_part given base.entries i))
