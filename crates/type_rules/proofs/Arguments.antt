-- The arguments of a call, which are taken from the last one on, and their words.
use Rattle.std.proofs.Common.{◌≡◌, ℕ, ◌+◌, ◌-◌, ◌<◌, ◌≤◌, ◌∙◌, true, false, List, [], ◌∷◌, ◌++◌, map, take, reverse, length, get_or, Option, Some, None, refl, sym, ap, arith, length-append}
use Rattle.std.specs.List.{flat_map}
use Rattle.std.proofs.lemmas.List.{map_more, reverse-append, take_all, append-nil}
use Rattle.std.proofs.lemmas.Grind.{flat_map-append}
use Rattle.std.proofs.lemmas.List.Concat.{length-flat_map}
use Rattle.std.proofs.lemmas.List.Sorted.{sum_by-IsPermutation, IsPermutation-reverse}
use Rattle.ti_ids.specs.Maybe.{◌>>=◌}
use Rattle.type_frames.specs.declared.seen.VTypeRef.{VTypeRef}
use Rattle.type_frames.specs.declared.vtype.VType.{VType}
use Rattle.type_frames.specs.declared.vtype.VType.TheVariants as vtype
use Rattle.type_frames.specs.Types.{is_long, type_words, expanded}
use Rattle.type_frames.specs.Hierarchies.{Known}
use Rattle.type_frames.specs.States.{State, taken, all_taken}
use Rattle.type_frames.specs.Seen.{type_seen}

-- ---- from the last one on

abbrev left_of : List VTypeRef → ℕ → List VType
left_of params n = reverse (map type_seen (take n params))

last_first : (params : List VTypeRef) (k : ℕ) (t : VTypeRef) → k < length params → t ≡ get_or params k t → left_of params (k + 1) ≡ type_seen t ∷ left_of params k
last_first params k t lt at =
    ap (λ (ts : List VType). reverse ts) (map_more type_seen params k t lt)
    ∙ reverse-append (map type_seen (take k params)) (type_seen (get_or params k t) ∷ [])
    ∙ ap (λ (x : VTypeRef). type_seen x ∷ left_of params k) (sym at)

next : (h : Known) (params : List VTypeRef) (n i last : ℕ) (t : VTypeRef) (s : State) (left : Option State) → n ≡ length params → i < n → last ≡ n - i - 1 → t ≡ get_or params last t → taken h (type_seen t) s ≡ left
    → all_taken h (left_of params (n - i)) s ≡ (left >>= all_taken h (left_of params (n - (i + 1))))
next h params n i last t s left all lt is at e =
    let here : n - i ≡ last + 1 = omega arith in
    let below : last ≡ n - (i + 1) = omega arith in
    let within : last < length params = omega arith in
    ap (λ (m : ℕ). all_taken h (left_of params m) s) here
    ∙ ap (λ (ts : List VType). all_taken h ts s) (last_first params last t within at)
    ∙ ap (λ (o : Option State). o >>= all_taken h (left_of params last)) e
    ∙ ap (λ (m : ℕ). left >>= all_taken h (left_of params m)) below

pub last_more : (h : Known) (params : List VTypeRef) (n i last : ℕ) (t : VTypeRef) (s after : State) → n ≡ length params → i < n → last ≡ n - i - 1 → t ≡ get_or params last t → taken h (type_seen t) s ≡ Some after
    → all_taken h (reverse (map type_seen (take (n - (i + 1)) params))) after ≡ all_taken h (reverse (map type_seen (take (n - i) params))) s
last_more h params n i last t s after all lt is at e = sym (next h params n i last t s (Some after) all lt is at e)

pub last_not : (h : Known) (params : List VTypeRef) (n i last : ℕ) (t : VTypeRef) (s : State) → n ≡ length params → i < n → last ≡ n - i - 1 → t ≡ get_or params last t → taken h (type_seen t) s ≡ None
    → all_taken h (reverse (map type_seen (take (n - i) params))) s ≡ None
last_not h params n i last t s all lt is at e = next h params n i last t s None all lt is at e

pub none_left : (h : Known) (params : List VTypeRef) (n i : ℕ) (s : State) → n ≤ i → all_taken h (reverse (map type_seen (take (n - i) params))) s ≡ Some s
none_left h params n i s le = let none : n - i ≡ 0 = omega arith in ap (λ (m : ℕ). all_taken h (left_of params m) s) none

pub all_left : (h : Known) (params : List VTypeRef) (n : ℕ) (s : State) → n ≡ length params → all_taken h (reverse (map type_seen (take (n - 0) params))) s ≡ all_taken h (reverse (map type_seen params)) s
all_left h params n s all =
    let le : length params ≤ n - 0 = omega arith in
    ap (λ (ps : List VTypeRef). all_taken h (reverse (map type_seen ps)) s) (take_all (n - 0) params le)

-- ---- their words

abbrev words : List VTypeRef → ℕ → ℕ
words params n = length (expanded (map type_seen (take n params)))

one_more : (params : List VTypeRef) (i : ℕ) (t : VTypeRef) → i < length params → t ≡ get_or params i t → words params (i + 1) ≡ words params i + length (type_words (type_seen t))
one_more params i t lt at =
    let more : map type_seen (take (i + 1) params) ≡ map type_seen (take i params) ++ type_seen t ∷ [] = map_more type_seen params i t lt ∙ ap (λ (x : VTypeRef). map type_seen (take i params) ++ type_seen x ∷ []) (sym at) in
    ap (λ (ts : List VType). length (expanded ts)) more
    ∙ ap (λ (ts : List VType). length ts) (flat_map-append type_words (map type_seen (take i params)) (type_seen t ∷ []))
    ∙ length-append (expanded (map type_seen (take i params))) (flat_map type_words (type_seen t ∷ []))
    ∙ ap (λ (ts : List VType). words params i + length ts) (append-nil (type_words (type_seen t)))

long_words : (t : VType) → is_long t ≡ true → length (type_words t) ≡ 2
long_words vtype.Long e = refl
long_words vtype.Top e = absurd cc
long_words vtype.Integer e = absurd cc
long_words vtype.Null e = absurd cc
long_words vtype.UninitThis e = absurd cc
long_words (vtype.Object name) e = absurd cc
long_words (vtype.Uninit at) e = absurd cc

short_words : (t : VType) → is_long t ≡ false → length (type_words t) ≡ 1
short_words vtype.Long e = absurd cc
short_words vtype.Top e = refl
short_words vtype.Integer e = refl
short_words vtype.Null e = refl
short_words vtype.UninitThis e = refl
short_words (vtype.Object name) e = refl
short_words (vtype.Uninit at) e = refl

pub words_long : (params : List VTypeRef) (i : ℕ) (t : VTypeRef) → i < length params → t ≡ get_or params i t → is_long (type_seen t) ≡ true
    → length (expanded (map type_seen (take (i + 1) params))) ≡ length (expanded (map type_seen (take i params))) + 2
words_long params i t lt at is = one_more params i t lt at ∙ ap (λ n. words params i + n) (long_words (type_seen t) is)

pub words_short : (params : List VTypeRef) (i : ℕ) (t : VTypeRef) → i < length params → t ≡ get_or params i t → is_long (type_seen t) ≡ false
    → length (expanded (map type_seen (take (i + 1) params))) ≡ length (expanded (map type_seen (take i params))) + 1
words_short params i t lt at is = one_more params i t lt at ∙ ap (λ n. words params i + n) (short_words (type_seen t) is)

-- in whatever order
pub words_all : (params : List VTypeRef) (i : ℕ) → length params ≤ i → length (expanded (map type_seen (take i params))) ≡ length (expanded (reverse (map type_seen params)))
words_all params i le =
    let types = map type_seen params in
    ap (λ (ps : List VTypeRef). length (expanded (map type_seen ps))) (take_all i params le)
    ∙ length-flat_map type_words types
    ∙ sym (sum_by-IsPermutation (λ (t : VType). length (type_words t)) types (reverse types) (IsPermutation-reverse types))
    ∙ sym (length-flat_map type_words (reverse types))
