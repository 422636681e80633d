-- Types by their words, as loops count and lay them out.
use Rattle.std.proofs.Common.{◌≡◌, ℕ, zero, suc, ◌∙◌, ◌-◌, ◌+◌, ◌<◌, ◌≤◌, true, false, List, [], ◌∷◌, ◌++◌, length, take, drop, get_or, replicate, refl, sym, ap, arith, append_assoc, length-append, add-one}
use Rattle.std.specs.Prelude.{nat_le}
use Rattle.std.proofs.Math.Seq.{drop-cons, take-suc}
use Rattle.std.proofs.lemmas.Bool.Decides.{nat_tests}
use Rattle.type_frames.specs.declared.vtype.VType.{VType}
use Rattle.type_frames.specs.declared.vtype.VType.TheVariants as vtype
use Rattle.type_frames.specs.Types.{type_words, expanded}

words_at : (types : List VType) (i : ℕ) (x : VType) → i < length types → x ≡ get_or types i x → length (expanded (drop i types)) ≡ length (type_words x) + length (expanded (drop (i + 1) types))
words_at types i x lt is =
    ap (λ (rest : List VType). length (expanded rest)) (drop-cons types i x lt ∙ ap (λ (y : VType). y ∷ drop (suc i) types) (sym is))
    ∙ length-append (type_words x) (expanded (drop (suc i) types))
    ∙ ap (λ (n : ℕ). length (type_words x) + length (expanded (drop n types))) (sym (add-one i))

le_less : (n a left : ℕ) → n ≤ left → nat_le a (left - n) ≡ nat_le (n + a) left
le_less n a left le = grind (arith, nat_tests)

le_not : (n a left : ℕ) → left < n → nat_le (n + a) left ≡ false
le_not n a left lt = grind (arith, nat_tests)

-- one type more has room
pub fits_more : (types : List VType) (i need left : ℕ) (x : VType) → i < length types → x ≡ get_or types i x → need ≡ length (type_words x) → need ≤ left
    → nat_le (length (expanded (drop (i + 1) types))) (left - need) ≡ nat_le (length (expanded (drop i types))) left
fits_more types i need left x lt is words le =
    le_less need (length (expanded (drop (i + 1) types))) left le
    ∙ ap (λ (n : ℕ). nat_le n left) (ap (λ (n : ℕ). n + length (expanded (drop (i + 1) types))) words ∙ sym (words_at types i x lt is))

-- it has none
pub fits_not : (types : List VType) (i need left : ℕ) (x : VType) → i < length types → x ≡ get_or types i x → need ≡ length (type_words x) → left < need
    → nat_le (length (expanded (drop i types))) left ≡ false
fits_not types i need left x lt is words less =
    ap (λ (n : ℕ). nat_le n left) (words_at types i x lt is ∙ ap (λ (n : ℕ). n + length (expanded (drop (i + 1) types))) (sym words))
    ∙ le_not need (length (expanded (drop (i + 1) types))) left less

drop_all : (types : List VType) → drop (length types) types ≡ []
drop_all [] = refl
drop_all (x ∷ xs) = drop_all xs

-- none is left
pub fits_over : (types : List VType) (i left : ℕ) → length types ≤ i → i ≤ length types → nat_le (length (expanded (drop i types))) left ≡ true
fits_over types i left ge le =
    let all : i ≡ length types = omega arith in
    ap (λ (n : ℕ). nat_le (length (expanded (drop n types))) left) all ∙ ap (λ (rest : List VType). nat_le (length (expanded rest)) left) (drop_all types) ∙ grind (arith, nat_tests)

expanded-append : (xs ys : List VType) → expanded (xs ++ ys) ≡ expanded xs ++ expanded ys
expanded-append [] ys = refl
expanded-append (x ∷ xs) ys = ap (λ (rest : List VType). type_words x ++ rest) (expanded-append xs ys) ∙ sym (append_assoc (type_words x) (expanded xs) (expanded ys))

right_none : (xs : List VType) → xs ++ [] ≡ xs
right_none [] = refl
right_none (x ∷ xs) = ap (λ (rest : List VType). x ∷ rest) (right_none xs)

pub expanded_more : (types : List VType) (i : ℕ) (x : VType) → i < length types → x ≡ get_or types i x → expanded (take (i + 1) types) ≡ expanded (take i types) ++ type_words x
expanded_more types i x lt is =
    ap (λ (n : ℕ). expanded (take n types)) (add-one i) ∙ ap expanded (take-suc types i x lt ∙ ap (λ (y : VType). take i types ++ y ∷ []) (sym is))
    ∙ expanded-append (take i types) (x ∷ []) ∙ ap (λ (rest : List VType). expanded (take i types) ++ rest) (right_none (type_words x))

replicate_more : (n : ℕ) → replicate (suc n) vtype.Top ≡ replicate n vtype.Top ++ vtype.Top ∷ []
replicate_more zero = refl
replicate_more (suc n) = ap (λ (rest : List VType). vtype.Top ∷ rest) (replicate_more n)

pub filled_more : (words : List VType) (i : ℕ) → length words ≤ i → (words ++ replicate (i - length words) vtype.Top) ++ vtype.Top ∷ [] ≡ words ++ replicate ((i + 1) - length words) vtype.Top
filled_more words i le =
    let more : (i + 1) - length words ≡ suc (i - length words) = omega arith in
    append_assoc words (replicate (i - length words) vtype.Top) (vtype.Top ∷ [])
    ∙ ap (λ (rest : List VType). words ++ rest) (sym (replicate_more (i - length words)))
    ∙ ap (λ (n : ℕ). words ++ replicate n vtype.Top) (sym more)
