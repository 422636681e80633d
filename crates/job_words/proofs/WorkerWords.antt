-- Which words ask for more than one worker: those of which a pair does.
use Rattle.std.proofs.Common.{◌≡◌, ◌∙◌, ℕ, ◌+◌, List, [], ◌∷◌, ◌++◌, length, take, drop, Option, Some, None, Bool, true, false, ◌&&◌, ◌||◌, not, refl, sym, ap, subst, arith, get_or}
use Rattle.std.specs.Prelude.{codes, nat_eq, bytes_eq, position, ◌==◌, option_map, if◌then◌else◌}
use Rattle.std.specs.List.{starts_with, list_any}
use Rattle.std.proofs.lemmas.Bool.{lt-ltb, false≢true}
use Rattle.std.proofs.lemmas.List.{take-append-drop, drop_more}
use Rattle.std.proofs.lemmas.List.Quantifiers.{position-Some}
use Rattle.std.proofs.lemmas.Slice.Eq.{bytes_eq-Decides}
use Rattle.std.proofs.lemmas.Bool.Decides.{Decides-eqb}
use Rattle.job_words.specs.Options.{Word}
use Rattle.job_words.specs.Words.{Pair, pair_in, is_value, onto, pairs_of, many, is_pair_of_many, many_in}

-- ---- one word

abbrev pub workers : Word
workers = codes "--workers"

abbrev front : Word
front = codes "--workers="

abbrev pair : Word → Word → Pair
pair name value = record { name = name; value = value }

-- the pair asks for many workers
abbrev pub is_many : Pair → Bool
is_many p = bytes_eq p.name workers && many p.value

pair_front : (rest : Word) → pair_in (front ++ rest) ≡ Some (pair workers rest)
pair_front rest =
    let long = lt-ltb 9 (length (front ++ rest)) (omega arith) in
    rw long refl

begins_with : (word : Word) → starts_with nat_eq word front ≡ true → word ≡ front ++ drop 10 word
begins_with word e = sym (take-append-drop 10 word) ∙ ap (λ l. l ++ drop 10 word) (sym ((bytes_eq-Decides front (take 10 word)).0 e))

-- a word that is split at its first `=`
split_from : (word : Word) (p : Pair) (at : Option ℕ) → at ≡ position (λ byte. byte == 61) word
    → option_map (λ place. pair (take place word) (drop (place + 1) word)) at ≡ Some p → word ≡ p.name ++ 61 ∷ p.value
split_from word p None found e = absurd cc
split_from word p (Some i) found e =
    let there = position-Some (λ byte. byte == 61) word i 0 (sym found) in
    let sign : get_or word i 0 ≡ 61 = (Decides-eqb (get_or word i 0) 61).0 there.1 in
    let is : pair (take i word) (drop (i + 1) word) ≡ p = cc in
    let parts : word ≡ take i word ++ 61 ∷ drop (i + 1) word = sym (take-append-drop i word) ∙ ap (λ l. take i word ++ l) (drop_more word i 0 there.0 ∙ ap (λ b. b ∷ drop (i + 1) word) sign) in
    subst (λ q. word ≡ q.name ++ 61 ∷ q.value) is parts

split_at : (word : Word) (p : Pair) → pair_in word ≡ Some p → word ≡ p.name ++ 61 ∷ p.value
split_at word p e = split_from word p (position (λ byte. byte == 61) word) refl e

not_named : (word : Word) (p : Pair) (named : Bool) → pair_in word ≡ Some p → false ≡ starts_with nat_eq word front → named ≡ bytes_eq p.name workers → (named && many p.value) ≡ false
not_named word p false e front_is is = refl
not_named word p true e front_is is =
    let name : p.name ≡ workers = (bytes_eq-Decides p.name workers).0 (sym is) in
    let whole : word ≡ front ++ p.value = split_at word p e ∙ ap (λ n. n ++ 61 ∷ p.value) name in
    absurd (false≢true (front_is ∙ ap (λ w. starts_with nat_eq w front) whole))

-- with the front, or without it
pair_by : (word : Word) (p : Pair) (is : Bool) → pair_in word ≡ Some p → is ≡ starts_with nat_eq word front → (is && many (drop 10 word)) ≡ is_many p
pair_by word p true e front_is =
    let whole = begins_with word (sym front_is) in
    let same : Some (pair workers (drop 10 word)) ≡ Some p = sym (pair_front (drop 10 word)) ∙ ap pair_in (sym whole) ∙ e in
    let is : pair workers (drop 10 word) ≡ p = cc in
    subst (λ q. many (drop 10 word) ≡ is_many q) is refl
pair_by word p false e front_is = sym (not_named word p (bytes_eq p.name workers) e front_is refl)

pub pair_many : (word : Word) (p : Pair) → pair_in word ≡ Some p → is_pair_of_many word ≡ is_many p
pair_many word p e = pair_by word p (starts_with nat_eq word front) e refl

-- a word that isn't split
no_front : (word : Word) (is : Bool) → pair_in word ≡ None → is ≡ starts_with nat_eq word front → (is && many (drop 10 word)) ≡ false
no_front word false e front_is = refl
no_front word true e front_is =
    let whole = begins_with word (sym front_is) in
    let same : Some (pair workers (drop 10 word)) ≡ None = sym (pair_front (drop 10 word)) ∙ ap pair_in (sym whole) ∙ e in
    absurd cc

pub plain_many : (word : Word) → pair_in word ≡ None → is_pair_of_many word ≡ false
plain_many word e = no_front word (starts_with nat_eq word front) e refl

-- ---- words

-- a word that is split isn't the bare name
not_bare : (word : Word) (p : Pair) (is : Bool) → pair_in word ≡ Some p → is ≡ bytes_eq word workers → is ≡ false
not_bare word p false e bare = refl
not_bare word p true e bare =
    let same : None ≡ Some p = ap pair_in (sym ((bytes_eq-Decides word workers).0 (sym bare))) ∙ e in
    absurd cc

-- a value begins neither with the front nor with the bare name
other_sign : (byte : ℕ) (is : Bool) → not (byte == 45) ≡ true → is ≡ nat_eq 45 byte → is ≡ false
other_sign byte false e sign = refl
other_sign byte true e sign =
    let minus : 45 ≡ byte = (Decides-eqb 45 byte).0 (sym sign) in
    absurd (false≢true (ap (λ b. not (b == 45)) minus ∙ e))

same_sign : (byte : ℕ) (is : Bool) → not is ≡ true → is ≡ false
same_sign byte false e = refl
same_sign byte true e = absurd (false≢true e)

value_begins : (value : Word) → is_value value ≡ true → is_pair_of_many value ≡ false
value_begins [] e = refl
value_begins (byte ∷ bytes) e = rw (other_sign byte (nat_eq 45 byte) e refl) refl

value_bare : (value : Word) → is_value value ≡ true → bytes_eq value workers ≡ false
value_bare [] e = refl
value_bare (byte ∷ bytes) e = rw (same_sign byte (nat_eq byte 45) e) refl

behind_value : (value : Word) (words : List Word) → is_value value ≡ true → many_in (value ∷ words) ≡ many_in words
behind_value value [] e = value_begins value e
behind_value value (word ∷ words) e = rw (value_begins value e, value_bare value e) refl

-- what stands behind a pair
record Behind (p : Pair) (others : Option (List Pair)) (pairs : List Pair) : Type 0 where
  rest : List Pair
  found : others ≡ Some rest
  whole : p ∷ rest ≡ pairs

behind : (p : Pair) (others : Option (List Pair)) (pairs : List Pair) → onto p others ≡ Some pairs → Behind p others pairs
behind p None pairs e = absurd cc
behind p (Some rest) pairs e = record { rest = rest; found = refl; whole = cc }

pub or_none : (is : Bool) → (is || false) ≡ is
or_none true = refl
or_none false = refl

abbrev Counts : List Word → Type 0
Counts words = (pairs : List Pair) → pairs_of words ≡ Some pairs → many_in words ≡ list_any is_many pairs

last : (word : Word) (split : Option Pair) → split ≡ pair_in word → (pairs : List Pair) → option_map (λ p. p ∷ []) split ≡ Some pairs → is_pair_of_many word ≡ list_any is_many pairs
last word None e pairs of = absurd cc
last word (Some p) e pairs of =
    let whole : p ∷ [] ≡ pairs = cc in
    subst (λ l. is_pair_of_many word ≡ list_any is_many l) whole (pair_many word p (sym e) ∙ sym (or_none (is_many p)))

-- the pairs of two words and more, where the first one is split so
abbrev pairs_by : Option Pair → Word → Word → List Word → Option (List Pair)
pairs_by split word next words = elim split [
  | Some p ↦ onto p (pairs_of (next ∷ words))
  | None ↦ if is_value next then onto (pair word next) (pairs_of words) else None
]

apart : (word next : Word) (words : List Word) (is : Bool) → is ≡ is_value next → pair_in word ≡ None → Counts words → (pairs : List Pair)
    → (if is then onto (pair word next) (pairs_of words) else None) ≡ Some pairs → many_in (word ∷ (next ∷ words)) ≡ list_any is_many pairs
apart word next words false e plain rest pairs of = absurd cc
apart word next words true e plain rest pairs of =
    let b = behind (pair word next) (pairs_of words) pairs of in
    subst (λ l. many_in (word ∷ (next ∷ words)) ≡ list_any is_many l) b.whole (rw (plain_many word plain, behind_value next words (sym e), rest b.rest b.found) refl)

more : (word next : Word) (words : List Word) (split : Option Pair) → split ≡ pair_in word → Counts (next ∷ words) → Counts words → (pairs : List Pair)
    → pairs_by split word next words ≡ Some pairs → many_in (word ∷ (next ∷ words)) ≡ list_any is_many pairs
more word next words None e near far pairs of = apart word next words (is_value next) refl (sym e) far pairs of
more word next words (Some p) e near far pairs of =
    let b = behind p (pairs_of (next ∷ words)) pairs of in
    subst (λ l. many_in (word ∷ (next ∷ words)) ≡ list_any is_many l) b.whole (rw (pair_many word p (sym e), not_bare word p (bytes_eq word workers) (sym e) refl, near b.rest b.found, or_none (is_many p)) refl)

pub counts : (words : List Word) → Counts words
counts [] pairs e = let whole : [] ≡ pairs = cc in subst (λ l. false ≡ list_any is_many l) whole refl
counts (word ∷ []) pairs e = last word (pair_in word) refl pairs e
counts (word ∷ (next ∷ words)) pairs e = more word next words (pair_in word) refl (counts (next ∷ words)) (counts words) pairs e
