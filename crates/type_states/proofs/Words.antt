-- Words of types that are listed one behind the other.
use Rattle.std.proofs.Common.{◌≡◌, ℕ, ◌∙◌, ◌+◌, ◌≤◌, Bool, true, false, List, [], ◌∷◌, ◌++◌, length, map, reverse, take, drop, refl, sym, ap, arith, append_assoc, length-append}
use Rattle.std.specs.Prelude.{min, ◌||◌}
use Rattle.std.specs.List.{list_any}
use Rattle.std.proofs.lemmas.List.{append-nil, map-append, reverse-append, take-append-drop}
use Rattle.std.proofs.lemmas.List.Folds.{list_any-append}
use Rattle.type_frames.specs.declared.vtype.VType.{VType}
use Rattle.type_frames.specs.declared.vtype.VType.TheVariants as vtype
use Rattle.type_frames.specs.declared.seen.VTypeRef.{VTypeRef}
use Rattle.type_frames.specs.Seen.{type_seen}
use Rattle.type_frames.specs.Types.{type_words, expanded, is_uninit_this}
use Rattle.type_states.specs.Lists.{words_counted}

pub expanded-append : (xs ys : List VType) → expanded (xs ++ ys) ≡ expanded xs ++ expanded ys
expanded-append [] ys = refl
expanded-append (x ∷ xs) ys = ap (λ (rest : List VType). type_words x ++ rest) (expanded-append xs ys) ∙ sym (append_assoc (type_words x) (expanded xs) (expanded ys))

-- one more behind them
pub expanded-push : (xs : List VType) (t : VType) → expanded (xs ++ t ∷ []) ≡ expanded xs ++ type_words t
expanded-push xs t = expanded-append xs (t ∷ []) ∙ ap (λ (ws : List VType). expanded xs ++ ws) (append-nil (type_words t))

pub words-push : (xs : List VType) (t : VType) → length (expanded (xs ++ t ∷ [])) ≡ length (expanded xs) + length (type_words t)
words-push xs t = ap (λ (ws : List VType). length ws) (expanded-push xs t) ∙ length-append (expanded xs) (type_words t)

pub counted_push : (xs : List VType) (t : VType) → min (words_counted xs + length (type_words t)) 65536 ≡ words_counted (xs ++ t ∷ [])
counted_push xs t = let e = words-push xs t in omega arith

or-none : (b : Bool) → (b || false) ≡ b
or-none true = refl
or-none false = refl

pub uninit_push : (xs : List VType) (t : VType) → list_any is_uninit_this (xs ++ t ∷ []) ≡ (list_any is_uninit_this xs || is_uninit_this t)
uninit_push xs t = list_any-append is_uninit_this xs (t ∷ []) ∙ ap (λ (b : Bool). list_any is_uninit_this xs || b) (or-none (is_uninit_this t))

pub words_upto : (xs : List VType) (i : ℕ) → length (expanded (take i xs)) ≤ length (expanded xs)
words_upto xs i =
    let e = ap (λ (ys : List VType). length (expanded ys)) (take-append-drop i xs) in
    let f = ap (λ (ws : List VType). length ws) (expanded-append (take i xs) (drop i xs)) in
    let g = length-append (expanded (take i xs)) (expanded (drop i xs)) in
    omega arith

pub few_words : (t : VType) → length (type_words t) ≤ 2
few_words vtype.Top = omega arith
few_words vtype.Integer = omega arith
few_words vtype.Long = omega arith
few_words vtype.Null = omega arith
few_words vtype.UninitThis = omega arith
few_words (vtype.Object name) = omega arith
few_words (vtype.Uninit at) = omega arith

pub words_reverse : (xs : List VType) → length (expanded (reverse xs)) ≡ length (expanded xs)
words_reverse [] = refl
words_reverse (x ∷ xs) =
    let e = words-push (reverse xs) x in
    let f = length-append (type_words x) (expanded xs) in
    let g = words_reverse xs in
    ap (λ (ys : List VType). length (expanded ys)) (reverse-append (x ∷ []) xs) ∙ omega arith

pub map_reverse : (types : List VTypeRef) → reverse (map type_seen types) ≡ map type_seen (reverse types)
map_reverse [] = refl
map_reverse (t ∷ types) =
    reverse-append (type_seen t ∷ []) (map type_seen types) ∙ ap (λ (ts : List VType). ts ++ type_seen t ∷ []) (map_reverse types)
    ∙ sym (map-append type_seen (reverse types) (t ∷ [])) ∙ ap (map type_seen) (sym (reverse-append (t ∷ []) types))
