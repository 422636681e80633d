-- Types that are changed in place, one after another, and what that makes of a stack.
use Rattle.std.proofs.Common.{◌≡◌, ℕ, ◌+◌, ◌<◌, ◌≤◌, ◌∙◌, Bool, true, false, cond, List, [], ◌∷◌, ◌++◌, map, take, drop, reverse, length, get_or, set, refl, sym, ap, arith, length-append}
use Rattle.std.proofs.lemmas.List.{length-map, map-append, map-set, get_or-map, get_or_default, set-get_or, take_all, drop_all, append-nil, reverse-append}
use Rattle.std.proofs.lemmas.List.Edits.{map_over_more}
use Rattle.std.specs.Prelude.{◌==◌, ◌||◌}
use Rattle.std.specs.List.{list_any}
use Rattle.std.proofs.lemmas.List.Sorted.{list_any-IsPermutation, IsPermutation-reverse}
use Rattle.jv_names.specs.Names.{Name}
use Rattle.type_frames.specs.declared.seen.VTypeRef.{VTypeRef}
use Rattle.type_frames.specs.declared.seen.VTypeRef.TheVariants as seen
use Rattle.type_frames.specs.declared.vtype.VType.{VType}
use Rattle.type_frames.specs.declared.vtype.VType.TheVariants as vtype
use Rattle.type_frames.specs.Types.{type_words, expanded}
use Rattle.type_frames.specs.RulesOfCalls.{is_same_uninit, replaced}
use Rattle.type_frames.specs.RulesOfFields.{is_uninit_at, topped}
use Rattle.type_frames.specs.Seen.{type_seen}

-- ---- a loop that changes each of them

-- those before a place are changed
abbrev pub changed_to : (VType → VType) → ℕ → List VTypeRef → List VType
changed_to f i before = map f (take i (map type_seen before)) ++ drop i (map type_seen before)

written : (f : VType → VType) (before now : List VTypeRef) (i : ℕ) (d made : VTypeRef) → i < length before → length now ≡ length before
    → type_seen made ≡ f (type_seen (get_or now i d)) → map type_seen now ≡ changed_to f i before → map type_seen (set now i made) ≡ changed_to f (i + 1) before
written f before now i d made lt same is so_far =
    let within : i < length (map type_seen now) = omega (arith, length-map now type_seen) in
    let read : get_or (map type_seen now) i (type_seen d) ≡ type_seen (get_or now i d) = get_or-map type_seen now i d (type_seen d) (omega arith) in
    map-set type_seen now i made
    ∙ ap (λ (x : VType). set (map type_seen now) i x) is
    ∙ map_over_more f (map type_seen before) (map type_seen now) i (type_seen (get_or now i d)) (omega (arith, length-map before type_seen)) so_far
    (sym read ∙ get_or_default (map type_seen now) i (type_seen d) (type_seen (get_or now i d)) within)

left : (f : VType → VType) (before now : List VTypeRef) (i : ℕ) (d : VTypeRef) → i < length before → length now ≡ length before
    → type_seen (get_or now i d) ≡ f (type_seen (get_or now i d)) → map type_seen now ≡ changed_to f i before → map type_seen now ≡ changed_to f (i + 1) before
left f before now i d lt same is so_far =
    sym (ap (λ (types : List VTypeRef). map type_seen types) (set-get_or now i d)) ∙ written f before now i d (get_or now i d) lt same is so_far

-- all of them are changed
pub changed_all : (f : VType → VType) (before : List VTypeRef) (i : ℕ) → length before ≤ i → changed_to f i before ≡ map f (map type_seen before)
changed_all f before i le =
    let all : length (map type_seen before) ≤ i = omega (arith, length-map before type_seen) in
    ap (λ (types : List VType). map f types ++ drop i (map type_seen before)) (take_all i (map type_seen before) all)
    ∙ ap (λ (types : List VType). map f (map type_seen before) ++ types) (drop_all i (map type_seen before) all)
    ∙ append-nil (map f (map type_seen before))

is_replaced : (uninit made t : VType) → is_same_uninit uninit t ≡ true → made ≡ replaced uninit made t
is_replaced uninit made t e = sym (ap (λ (b : Bool). cond b made t) e)

is_not_replaced : (uninit made t : VType) → is_same_uninit uninit t ≡ false → t ≡ replaced uninit made t
is_not_replaced uninit made t e = sym (ap (λ (b : Bool). cond b made t) e)

pub replaced_by_write : (uninit made : VTypeRef) (before now : List VTypeRef) (i : ℕ) (d : VTypeRef) → i < length before → length now ≡ length before
    → is_same_uninit (type_seen uninit) (type_seen (get_or now i d)) ≡ true → map type_seen now ≡ changed_to (replaced (type_seen uninit) (type_seen made)) i before
    → map type_seen (set now i made) ≡ changed_to (replaced (type_seen uninit) (type_seen made)) (i + 1) before
replaced_by_write uninit made before now i d lt same is so_far =
    written (replaced (type_seen uninit) (type_seen made)) before now i d made lt same (is_replaced (type_seen uninit) (type_seen made) (type_seen (get_or now i d)) is) so_far

pub replaced_as_is : (uninit made : VTypeRef) (before now : List VTypeRef) (i : ℕ) (d : VTypeRef) → i < length before → length now ≡ length before
    → is_same_uninit (type_seen uninit) (type_seen (get_or now i d)) ≡ false → map type_seen now ≡ changed_to (replaced (type_seen uninit) (type_seen made)) i before
    → map type_seen now ≡ changed_to (replaced (type_seen uninit) (type_seen made)) (i + 1) before
replaced_as_is uninit made before now i d lt same is so_far =
    left (replaced (type_seen uninit) (type_seen made)) before now i d lt same (is_not_replaced (type_seen uninit) (type_seen made) (type_seen (get_or now i d)) is) so_far

is_topped : (at : ℕ) (t : VType) → is_uninit_at at t ≡ true → vtype.Top ≡ topped at t
is_topped at t e = sym (ap (λ (b : Bool). cond b vtype.Top t) e)

is_not_topped : (at : ℕ) (t : VType) → is_uninit_at at t ≡ false → t ≡ topped at t
is_not_topped at t e = sym (ap (λ (b : Bool). cond b vtype.Top t) e)

pub topped_by_write : (from : ℕ) (before now : List VTypeRef) (i : ℕ) (d : VTypeRef) → i < length before → length now ≡ length before
    → is_uninit_at from (type_seen (get_or now i d)) ≡ true → map type_seen now ≡ changed_to (topped from) i before → map type_seen (set now i seen.Top) ≡ changed_to (topped from) (i + 1) before
topped_by_write from before now i d lt same is so_far = written (topped from) before now i d seen.Top lt same (is_topped from (type_seen (get_or now i d)) is) so_far

pub topped_as_is : (from : ℕ) (before now : List VTypeRef) (i : ℕ) (d : VTypeRef) → i < length before → length now ≡ length before
    → is_uninit_at from (type_seen (get_or now i d)) ≡ false → map type_seen now ≡ changed_to (topped from) i before → map type_seen now ≡ changed_to (topped from) (i + 1) before
topped_as_is from before now i d lt same is so_far = left (topped from) before now i d lt same (is_not_topped from (type_seen (get_or now i d)) is) so_far

-- ---- the stack, whose top is its last

map_reverse : {A B : Type 0} (f : A → B) (xs : List A) → map f (reverse xs) ≡ reverse (map f xs)
map_reverse f [] = refl
map_reverse {A} {B} f (x ∷ xs) =
    ap (λ (ys : List A). map f ys) (reverse-append (x ∷ []) xs)
    ∙ map-append f (reverse xs) (x ∷ [])
    ∙ ap (λ (ys : List B). ys ++ f x ∷ []) (map_reverse f xs)
    ∙ sym (reverse-append (f x ∷ []) (map f xs))

pub changed_stack : (f : VType → VType) (before after : List VTypeRef) → map type_seen after ≡ map f (map type_seen before)
    → map type_seen (reverse after) ≡ map f (map type_seen (reverse before))
changed_stack f before after e =
    map_reverse type_seen after
    ∙ ap (λ (types : List VType). reverse types) e
    ∙ sym (map_reverse f (map type_seen before))
    ∙ ap (λ (types : List VType). map f types) (sym (map_reverse type_seen before))

either_word : (name : Name) (at : ℕ) (same : Bool) → length (type_words (cond same (vtype.Object name) (vtype.Uninit at))) ≡ 1
either_word name at true = refl
either_word name at false = refl

replaced_word : (name : Name) (uninit t : VType) → length (type_words (replaced uninit (vtype.Object name) t)) ≡ length (type_words t)
replaced_word name vtype.UninitThis vtype.UninitThis = refl
replaced_word name (vtype.Uninit a) (vtype.Uninit b) = either_word name b (a == b)
replaced_word name uninit t = refl

pub replaced_words : (name : Name) (uninit : VType) (types : List VType) → length (expanded (map (replaced uninit (vtype.Object name)) types)) ≡ length (expanded types)
replaced_words name uninit [] = refl
replaced_words name uninit (t ∷ types) =
    let made = replaced uninit (vtype.Object name) in
    let one = replaced_word name uninit t in
    let others = replaced_words name uninit types in
    omega (arith, length-append (type_words (made t)) (expanded (map made types)), length-append (type_words t) (expanded types))

any_seen : (p : VType → Bool) (types : List VTypeRef) → list_any (λ t. p (type_seen t)) types ≡ list_any p (map type_seen types)
any_seen p [] = refl
any_seen p (t ∷ types) = ap (λ (b : Bool). p (type_seen t) || b) (any_seen p types)

-- one of the stack, from whichever end it is gone through
pub any_held : (p : VType → Bool) (stack : List VTypeRef) → list_any (λ t. p (type_seen t)) stack ≡ list_any p (map type_seen (reverse stack))
any_held p stack = list_any-IsPermutation (λ (t : VTypeRef). p (type_seen t)) stack (reverse stack) (IsPermutation-reverse stack) ∙ any_seen p (reverse stack)
