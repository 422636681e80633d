-- The number of a name is one more than the place of the entry that has it.
use Rattle.std.proofs.Common.{◌≡◌, ℕ, ◌+◌, ◌≤◌, Bool, true, false, cond, List, [], ◌∷◌, ◌++◌, length, map, reverse, refl, sym, ap, ◌∙◌, Option, Some, None, arith}
use Rattle.std.specs.Prelude.{position, option_map, bytes_eq, nat_lt}
use Rattle.std.specs.List.{position_or_len}
use Rattle.std.proofs.lemmas.Bool.{cond-true, cond-false}
use Rattle.std.proofs.lemmas.Bool.Decides.{nat_tests}
use Rattle.std.proofs.lemmas.List.{length-append, length-map, length-reverse, reverse-append, reverse-reverse}
use Rattle.std.proofs.lemmas.List.Folds.{position_or_len_push}
use Rattle.std.proofs.lemmas.Slice.Eq.{bytes_eq-Decides}
use Rattle.ti_ids.specs.declared.number.ClassNo.{ClassNo}
use Rattle.jv_names.specs.Names.{Name}
use Rattle.link_versions.specs.declared.class.Entry.{Entry}
use Rattle.link_versions.specs.Classes.{number_of}
use Rattle.link_versions.specs.Changes.{AreLawful}
use Rattle.link_versions.specs.Entries.{class_of, classes_of, has_name}

-- ---- places

position_or_len-map : {A B : Type 0} (p : B → Bool) (f : A → B) (xs : List A) → position_or_len p (map f xs) ≡ position_or_len (λ x. p (f x)) xs
position_or_len-map p f [] = refl
position_or_len-map p f (x ∷ xs) = grind (arith, position_or_len-map p f xs)

pub position-map : {A B : Type 0} (p : B → Bool) (f : A → B) (xs : List A) → position p (map f xs) ≡ position (λ x. p (f x)) xs
position-map p f xs = λ i. cond (nat_lt (position_or_len-map p f xs i) (length-map xs f i)) (Some (position_or_len-map p f xs i)) None

within : {A : Type 0} (p : A → Bool) (xs : List A) → position_or_len p xs ≤ length xs
within p [] = omega arith
within p (x ∷ xs) = grind (arith, within p xs)

pub position-absent : {A : Type 0} (p : A → Bool) (xs : List A) (x : A) → position p xs ≡ None → p x ≡ true → position p (xs ++ x ∷ []) ≡ Some (length xs)
position-absent p xs x none here = grind (arith, nat_tests, position_or_len_push p xs x, within p xs, length-append xs (x ∷ []))

pub position-other : {A : Type 0} (p : A → Bool) (xs : List A) (x : A) → p x ≡ false → position p (xs ++ x ∷ []) ≡ position p xs
position-other p xs x other = grind (arith, nat_tests, position_or_len_push p xs x, within p xs, length-append xs (x ∷ []))

pub position-there : {A : Type 0} (p : A → Bool) (xs : List A) (x : A) (i : ℕ) → position p xs ≡ Some i → position p (xs ++ x ∷ []) ≡ Some i
position-there p xs x i there = grind (arith, nat_tests, position_or_len_push p xs x, within p xs, length-append xs (x ∷ []))

-- ---- numbers

-- the number of the class at a place
abbrev pub number_at : ℕ → ClassNo
number_at place = record { 0 = place + 1 }

nothing : (found : Option ℕ) → option_map number_at found ≡ None → found ≡ None
nothing None e = refl
nothing (Some place) e = absurd cc

numbered_by_place : (name : Name) (rs : List Entry) → AreLawful (map class_of rs) → number_of (map class_of rs) name ≡ option_map number_at (position (has_name name) (reverse rs))
numbered_by_place name [] lawful = refl
numbered_by_place name (r ∷ rs) lawful = by (bytes_eq name r.name) refl (numbered_by_place name rs lawful.1)
  where
    reversed : reverse (r ∷ rs) ≡ reverse rs ++ r ∷ []
    reversed = reverse-append (r ∷ []) rs

    by : (b : Bool) → bytes_eq name r.name ≡ b → number_of (map class_of rs) name ≡ option_map number_at (position (has_name name) (reverse rs))
        → number_of (map class_of (r ∷ rs)) name ≡ option_map number_at (position (has_name name) (reverse (r ∷ rs)))
    by true t rest =
        let same : name ≡ r.name = (bytes_eq-Decides name r.name).0 t in
        let absent : position (has_name name) (reverse rs) ≡ None = nothing _ (sym rest ∙ ap (number_of (map class_of rs)) same ∙ lawful.0.fresh) in
        let size : length (map class_of (r ∷ rs)) ≡ length (reverse rs) + 1 = omega (arith, length-map rs class_of, length-reverse rs) in
        let pack : ℕ → ClassNo = λ n. record { 0 = n } in
        cond-true (bytes_eq name r.name) (Some (pack (length (map class_of (r ∷ rs))))) (number_of (map class_of rs) name) t ∙ ap (λ n. Some (pack n)) size
        ∙ sym (ap (option_map number_at) (ap (position (has_name name)) reversed ∙ position-absent (has_name name) (reverse rs) r absent t))
    by false t rest =
        cond-false (bytes_eq name r.name) (Some (record { 0 = length (map class_of (r ∷ rs)) })) (number_of (map class_of rs) name) t ∙ rest
        ∙ sym (ap (option_map number_at) (ap (position (has_name name)) reversed ∙ position-other (has_name name) (reverse rs) r t))

pub number_by_place : (es : List Entry) (name : Name) → AreLawful (classes_of es) → number_of (classes_of es) name ≡ option_map number_at (position (has_name name) es)
unfolding classes_of
number_by_place es name lawful = numbered_by_place name (reverse es) lawful ∙ ap (λ l. option_map number_at (position (has_name name) l)) (reverse-reverse es)

pub nobody_has : (es : List Entry) (name : Name) → AreLawful (classes_of es) → number_of (classes_of es) name ≡ None → position (has_name name) es ≡ None
nobody_has es name lawful none = nothing _ (sym (number_by_place es name lawful) ∙ none)
