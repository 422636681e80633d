-- The words of the types that a descriptor lists, as loops lay them out, and the state that has them.
use Rattle.std.proofs.Common.{◌≡◌, ℕ, ◌∙◌, ◌-◌, ◌+◌, ◌<◌, ◌≤◌, Bool, true, false, List, [], ◌∷◌, ◌++◌, length, take, map, get_or, replicate, Some, None, refl, sym, ap, arith, append_assoc, length-append}
use Rattle.std.specs.Prelude.{nat_le}
use Rattle.std.proofs.lemmas.Bool.Decides.{nat_tests}
use Rattle.std.proofs.lemmas.List.{append-nil, flat_map_more, length-map, length-replicate, map-append, map_more, map_push, replicate_more, take_all}
use Rattle.std.proofs.lemmas.List.Concat.{flat_map-append}
use Rattle.type_frames.specs.declared.seen.VTypeRef.{VTypeRef}
use Rattle.type_frames.specs.declared.seen.VTypeRef.TheVariants as seen
use Rattle.type_frames.specs.declared.vtype.VType.{VType}
use Rattle.type_frames.specs.declared.vtype.VType.TheVariants as vtype
use Rattle.type_frames.specs.Types.{type_words, expanded, is_long}
use Rattle.type_frames.specs.States.{State}
use Rattle.type_frames.specs.StackMaps.{filled}
use Rattle.type_frames.specs.TypeChecks.{Checked, begun, is_uninit_list}
use Rattle.type_frames.specs.Seen.{type_seen}

-- ---- one type

one_word : (t : VType) → is_long t ≡ false → t ∷ [] ≡ type_words t
one_word vtype.Top is = refl
one_word vtype.Integer is = refl
one_word vtype.Long is = absurd (let never : ⊥ = cc in never)
one_word vtype.Null is = refl
one_word vtype.UninitThis is = refl
one_word (vtype.Object name) is = refl
one_word (vtype.Uninit at) is = refl

two_words : (t : VType) → is_long t ≡ true → t ∷ vtype.Top ∷ [] ≡ type_words t
two_words vtype.Top is = absurd (let never : ⊥ = cc in never)
two_words vtype.Integer is = absurd (let never : ⊥ = cc in never)
two_words vtype.Long is = refl
two_words vtype.Null is = absurd (let never : ⊥ = cc in never)
two_words vtype.UninitThis is = absurd (let never : ⊥ = cc in never)
two_words (vtype.Object name) is = absurd (let never : ⊥ = cc in never)
two_words (vtype.Uninit at) is = absurd (let never : ⊥ = cc in never)

pub word_put : (words : List VTypeRef) (t : VTypeRef) → is_long (type_seen t) ≡ false → map type_seen (words ++ t ∷ []) ≡ map type_seen words ++ type_words (type_seen t)
word_put words t is = map_push type_seen words t ∙ ap (λ (ws : List VType). map type_seen words ++ ws) (one_word (type_seen t) is)

pub long_put : (words : List VTypeRef) (t : VTypeRef) → is_long (type_seen t) ≡ true → map type_seen ((words ++ t ∷ []) ++ seen.Top ∷ []) ≡ map type_seen words ++ type_words (type_seen t)
long_put words t is =
    ap (map type_seen) (append_assoc words (t ∷ []) (seen.Top ∷ []))
    ∙ map-append type_seen words (t ∷ seen.Top ∷ [])
    ∙ ap (λ (ws : List VType). map type_seen words ++ ws) (two_words (type_seen t) is)

-- ---- a list of types behind others

pub put_none : (before : List VType) (types : List VTypeRef) → before ≡ before ++ expanded (map type_seen (take 0 types))
put_none before types = sym (append-nil before)

pub put_more : (before : List VType) (types : List VTypeRef) (i : ℕ) (t : VTypeRef) → i < length types → t ≡ get_or types i t
    → (before ++ expanded (map type_seen (take i types))) ++ type_words (type_seen t) ≡ before ++ expanded (map type_seen (take (i + 1) types))
put_more before types i t lt is =
    flat_map_more type_words before (map type_seen (take i types)) (type_seen t)
    ∙ ap (λ (ts : List VType). before ++ expanded ts)
    (ap (λ (x : VTypeRef). map type_seen (take i types) ++ type_seen x ∷ []) is ∙ sym (map_more type_seen types i t lt))

pub put_over : (before : List VType) (types : List VTypeRef) (i : ℕ) → length types ≤ i → before ++ expanded (map type_seen (take i types)) ≡ before ++ expanded (map type_seen types)
put_over before types i le = ap (λ (ts : List VTypeRef). before ++ expanded (map type_seen ts)) (take_all i types le)

-- ---- `Top` behind them

pub pad_none : (before : List VType) (n : ℕ) → before ≡ before ++ replicate (n - n) vtype.Top
pad_none before n = let none : n - n ≡ 0 = omega arith in sym (ap (λ (k : ℕ). before ++ replicate k vtype.Top) none ∙ append-nil before)

pub pad_more : (before : List VType) (words : List VTypeRef) (from at : ℕ) → from ≤ at → map type_seen words ≡ before ++ replicate (at - from) vtype.Top
    → map type_seen (words ++ seen.Top ∷ []) ≡ before ++ replicate (at + 1 - from) vtype.Top
pad_more before words from at le is =
    let more : (at - from) + 1 ≡ at + 1 - from = omega arith in
    map_push type_seen words seen.Top
    ∙ ap (λ (ws : List VType). ws ++ vtype.Top ∷ []) is
    ∙ append_assoc before (replicate (at - from) vtype.Top) (vtype.Top ∷ [])
    ∙ ap (λ (ws : List VType). before ++ ws) (replicate_more (at - from) vtype.Top ∙ ap (λ (k : ℕ). replicate k vtype.Top) more)

pub pad_over : (before : List VType) (from at n : ℕ) → at ≤ n → n ≤ at → before ++ replicate (at - from) vtype.Top ≡ before ++ replicate (n - from) vtype.Top
pad_over before from at n le ge = let same : at ≡ n = omega arith in ap (λ (k : ℕ). before ++ replicate (k - from) vtype.Top) same

-- ---- `this` and the parameters

pub listed_both : (this parameters : List VType) → expanded this ++ expanded parameters ≡ expanded (this ++ parameters)
listed_both this parameters = sym (flat_map-append type_words this parameters)

-- ---- the state

module _ (m : Checked) where
  pub begun_too_long : (this : List VType) (words : List VTypeRef) → map type_seen words ≡ expanded (this ++ m.parameters) → m.max_locals < length words → begun m this ≡ None
  begun_too_long this words is lt =
      let count = length-map words type_seen in
      let same = ap (λ (ws : List VType). length ws) is in
      let short : nat_le (length (expanded (this ++ m.parameters))) m.max_locals ≡ false = grind (arith, nat_tests) in
      rw short refl

  module _ (this : List VType) (words locals : List VTypeRef) (is : map type_seen words ≡ expanded (this ++ m.parameters)) (le : length words ≤ m.max_locals)
      (padded : map type_seen locals ≡ map type_seen words ++ replicate (m.max_locals - length words) vtype.Top) where
    same_count : length words ≡ length (expanded (this ++ m.parameters))
    same_count = sym (length-map words type_seen) ∙ ap (λ (ws : List VType). length ws) is

    filled_are : map type_seen locals ≡ filled m.max_locals (this ++ m.parameters)
    filled_are =
        padded ∙ ap (λ (ws : List VType). ws ++ replicate (m.max_locals - length words) vtype.Top) is
        ∙ ap (λ (k : ℕ). expanded (this ++ m.parameters) ++ replicate (m.max_locals - k) vtype.Top) same_count

    pub begun_here : (uninit : Bool) → uninit ≡ is_uninit_list this → begun m this ≡ (let s : State = record { locals = map type_seen locals; stack = []; this_uninit = uninit } in Some s)
    begun_here uninit uninit_is =
        let count = same_count in
        let fits : nat_le (length (expanded (this ++ m.parameters))) m.max_locals ≡ true = grind (arith, nat_tests) in
        rw fits
        (ap (λ (ts : List VType). let s : State = record { locals = ts; stack = []; this_uninit = is_uninit_list this } in Some s) (sym filled_are)
        ∙ ap (λ (u : Bool). let s : State = record { locals = map type_seen locals; stack = []; this_uninit = u } in Some s) (sym uninit_is))

    pub begun_room : length (map type_seen locals) ≡ m.max_locals
    begun_room =
        let count = length-map words type_seen in
        let pad = length-replicate (m.max_locals - length words) vtype.Top in
        ap (λ (ws : List VType). length ws) padded ∙ length-append (map type_seen words) (replicate (m.max_locals - length words) vtype.Top) ∙ omega arith
