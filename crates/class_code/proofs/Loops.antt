-- What the loops over a switch's entries keep.
use Rattle.std.proofs.Common.{◌≡◌, ◌+◌, length-append, arith, FitsSigned, w32, ℕ, ◌+◌, length-append, arith, ℤ, List, [], ◌∷◌, ◌++◌, Option, Some, None, subst, refl, sym, ap, ◌∙◌, append_assoc, subst}
use Rattle.std.specs.List.{flat_map, AllByRecursion}
use Rattle.std.proofs.lemmas.List.{append-nil}
use Rattle.std.proofs.lemmas.List.Concat.{flat_map-append}
use Rattle.class_code.specs.Spelling.{IsAbove, Rises, s4, pair_bytes}
use Rattle.class_code.specs.Ranges.{PairFits}
use Rattle.class_code.specs.Faults.{last_key}
use Rattle.class_code.specs.Skips.{SkipsWords, SkipsPairs}

pub rises_more : (last : Option ℤ) (ps : List (ℤ × ℤ)) (p : ℤ × ℤ) → Rises last ps → IsAbove (last_key last ps) p.0 → Rises last (ps ++ p ∷ [])
rises_more last [] p r a = (a, tt)
rises_more last (q ∷ ps) p r a = (r.0, rises_more (Some q.0) ps p r.1 a)

pub last_key_more : (last : Option ℤ) (ps : List (ℤ × ℤ)) (p : ℤ × ℤ) → last_key last (ps ++ p ∷ []) ≡ Some p.0
last_key_more last [] p = refl
last_key_more last (q ∷ ps) p = last_key_more (Some q.0) ps p

-- one more element of a list that is spelled at the front
pub parts_more : {X : Type 0} (f : X → List ℕ) (xs : List X) (x : X) (bytes rest after : List ℕ) → bytes ≡ flat_map f xs ++ rest → rest ≡ f x ++ after → bytes ≡ flat_map f (xs ++ x ∷ []) ++ after
parts_more f xs x bytes rest after parts one =
    parts ∙ ap (λ (r : List ℕ). flat_map f xs ++ r) one ∙ sym (append_assoc (flat_map f xs) (f x) after)
    ∙ ap (λ (r : List ℕ). (flat_map f xs ++ r) ++ after) (sym (append-nil (f x))) ∙ ap (λ (r : List ℕ). r ++ after) (sym (flat_map-append f xs (x ∷ [])))

-- what is spelled before the entries of a table, and the entries
pub table_parts : (p d l h o bytes rest after : List ℕ) → bytes ≡ p ++ (d ++ (l ++ (h ++ rest))) → rest ≡ o ++ after → bytes ≡ (p ++ (d ++ (l ++ (h ++ o)))) ++ after
table_parts p d l h o bytes rest after parts entries = parts ∙ rw entries (simp append_assoc)

-- a fact of each element, and of one more
pub each_more : {X : Type 0} (P : X → Type 0) (xs : List X) (x : X) → AllByRecursion P xs → P x → AllByRecursion P (xs ++ x ∷ [])
each_more P [] x all one = (one, tt)
each_more P (y ∷ xs) x all one = (all.0, each_more P xs x all.1 one)

-- one more number passed by
pub skip_word : (count : ℕ) (bytes rest after : List ℕ) (n : ℤ) → SkipsWords count bytes rest → FitsSigned w32 n → rest ≡ s4 n ++ after → SkipsWords (count + 1) bytes after
skip_word count bytes rest after n so_far fits one = record {
  words = so_far.words ++ n ∷ [];
  fits = each_more (FitsSigned w32) so_far.words n so_far.fits fits;
  count_is = omega (arith, length-append so_far.words (n ∷ []), so_far.count_is);
  parts = parts_more s4 so_far.words n bytes rest after so_far.parts one;
}

pub skip_pair : (count : ℕ) (last : Option ℤ) (bytes rest after : List ℕ) (p : ℤ × ℤ) → SkipsPairs count last bytes rest → PairFits p → IsAbove last p.0 → rest ≡ pair_bytes p ++ after → SkipsPairs (count + 1) (Some p.0) bytes after
skip_pair count last bytes rest after p so_far fits rises one = record {
  pairs = so_far.pairs ++ p ∷ [];
  fits = each_more PairFits so_far.pairs p so_far.fits fits;
  count_is = omega (arith, length-append so_far.pairs (p ∷ []), so_far.count_is);
  rising = rises_more None so_far.pairs p so_far.rising (subst (λ (l : Option ℤ). IsAbove l p.0) so_far.last_is rises);
  last_is = sym (last_key_more None so_far.pairs p);
  parts = parts_more pair_bytes so_far.pairs p bytes rest after so_far.parts one;
}
