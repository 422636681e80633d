-- Lists that are held with the top last.
use Rattle.std.proofs.Common.{◌≡◌, ℕ, zero, suc, ◌∙◌, ◌+◌, ◌-◌, ◌<◌, List, [], ◌∷◌, ◌++◌, length, get_or, take, drop, reverse, refl, ap, sym, add-one, append_assoc, arith}
use Rattle.std.specs.Prelude.{Some, slice_get, slice_set}
use Rattle.std.proofs.Math.Seq.{drop-cons}
use Rattle.std.proofs.lemmas.List.{reverse-append, reverse-reverse, length-reverse, length-drop, take-append-drop, drop_at, set_split, set_at, get_or-reverse}
use Rattle.std.proofs.lemmas.Option.{slice_get-get_or}

module _ {X : Type 0} where
  reverse-around : (before behind : List X) (x : X) → reverse (before ++ x ∷ behind) ≡ reverse behind ++ x ∷ reverse before
  reverse-around before behind x =
      reverse-append before (x ∷ behind)
      ∙ ap (λ (front : List X). front ++ reverse before) (reverse-append (x ∷ []) behind)
      ∙ append_assoc (reverse behind) (x ∷ []) (reverse before)

  -- the topmost, so many, of which the last lies on top
  pub topmost-held : (held : List X) (count : ℕ) → drop (length held - count) held ≡ reverse (take count (reverse held))
  topmost-held held count =
      let stack = reverse held in
      let split : held ≡ reverse (drop count stack) ++ reverse (take count stack) =
      sym (reverse-reverse held) ∙ ap reverse (sym (take-append-drop count stack)) ∙ reverse-append (take count stack) (drop count stack) in
      let long : length (reverse (drop count stack)) ≡ length held - count = omega (arith, length-reverse (drop count stack), length-drop count stack, length-reverse held) in
      ap (drop (length held - count)) split ∙ drop_at (reverse (drop count stack)) (reverse (take count stack)) (length held - count) long

  -- a write so many below the top
  pub reverse-set : (held : List X) (place depth : ℕ) (x : X) → place + depth + 1 ≡ length held → reverse (slice_set held place x) ≡ slice_set (reverse held) depth x
  reverse-set held place depth x within =
      let in_range : place < length held = omega (arith, within) in
      let before = take place held in
      let behind = drop (suc place) held in
      let old = get_or held place x in
      let whole : held ≡ before ++ old ∷ behind = sym (take-append-drop place held) ∙ ap (λ (rest : List X). before ++ rest) (drop-cons held place x in_range) in
      let deep : length (reverse behind) ≡ depth = omega (arith, length-reverse behind, length-drop (suc place) held, within) in
      ap reverse (set_split held place x in_range)
      ∙ reverse-around before behind x
      ∙ sym (ap (λ (stack : List X). slice_set stack depth x) (ap reverse whole ∙ reverse-around before behind old) ∙ set_at (reverse behind) old (reverse before) x depth deep)

  -- a read so many below the top
  pub get-held : (held : List X) (place depth : ℕ) (x : X) → place + depth + 1 ≡ length held → x ≡ get_or held place x → slice_get (reverse held) depth ≡ Some x
  get-held held place depth x within read =
      let deep : depth < length held = omega (arith, within) in
      let high : depth < length (reverse held) = omega (arith, within, length-reverse held) in
      let here : length held - 1 - depth ≡ place = omega (arith, within) in
      slice_get-get_or (reverse held) depth x high
      ∙ ap (λ (y : X). Some y) (get_or-reverse held depth x deep ∙ ap (λ (n : ℕ). get_or held n x) here ∙ sym read)

  -- one less
  pub drop_one_more : (values : List X) (i : ℕ) → drop 1 (drop i values) ≡ drop (i + 1) values
  drop_one_more values zero = refl
  drop_one_more [] (suc i) = rw add-one refl
  drop_one_more (v ∷ values) (suc i) = rw (add-one) (drop_one_more values i ∙ rw add-one refl)
