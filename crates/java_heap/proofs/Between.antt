-- The units of one text are put behind another, in a list of objects that was split between the two.
use Rattle.std.proofs.Common.{◌≡◌, ℕ, ◌+◌, ◌-◌, ◌<◌, List, ◌++◌, length, get_or, set, Some, refl, sym, ap, ◌∙◌, arith, length-append}
use Rattle.std.specs.Prelude.{slice_get}
use Rattle.std.proofs.lemmas.List.{set-append_left, set-append_right, get_or_append_left}
use Rattle.std.proofs.Math.Seq.{get_or-append_right}
use Rattle.std.proofs.lemmas.Option.{slice_get_read}
use Rattle.java_heap.specs.declared.object.Object.{Object}
use Rattle.java_heap.specs.Objects.{units_of}
use Rattle.java_heap.specs.Changes.{put_behind, PutsTextOf}

-- what is read in each part is read in the whole
reads_low : (xs low high : List Object) (k : ℕ) (o : Object) → xs ≡ low ++ high → k < length low → o ≡ get_or low k o → slice_get xs k ≡ Some o
reads_low xs low high k o split within read =
    let long : length xs ≡ length low + length high = ap length split ∙ length-append low high in
    let whole : o ≡ get_or xs k o = read ∙ sym (get_or_append_left low high o k within) ∙ ap (λ (os : List Object). get_or os k o) (sym split) in
    slice_get_read xs (length xs) k o refl (omega (arith, long)) whole

reads_high : (xs low high : List Object) (k : ℕ) (o : Object) → xs ≡ low ++ high → length low ≡ k → 0 < length high → o ≡ get_or high 0 o → slice_get xs k ≡ Some o
reads_high xs low high k o split at within read =
    let long : length xs ≡ length low + length high = ap length split ∙ length-append low high in
    let none : k - length low ≡ 0 = omega (arith, at) in
    let whole : o ≡ get_or xs k o =
    read
    ∙ ap (λ (j : ℕ). get_or high j o) (sym none)
    ∙ sym (get_or-append_right low high k o (omega (arith, at)))
    ∙ ap (λ (os : List Object). get_or os k o) (sym split) in
    slice_get_read xs (length xs) k o refl (omega (arith, long, at)) whole

-- both texts are found, and the one is put behind the other
put_found : (xs new : List Object) (place from : ℕ) (own source now : Object) → slice_get xs place ≡ Some own → slice_get xs from ≡ Some source → now ≡ record own { content = put_behind (units_of source.content) own.content } → new ≡ set xs place now → PutsTextOf xs new place from
put_found xs new place from own source now at at_from grown put was other found found_from =
    let same : own ≡ was = cc in
    let same_from : source ≡ other = cc in
    put
    ∙ ap (λ (o : Object). set xs place o) grown
    ∙ ap (λ (o : Object). set xs place (record o { content = put_behind (units_of source.content) o.content })) same
    ∙ ap (λ (o : Object). set xs place (record was { content = put_behind (units_of o.content) was.content })) same_from

module _ (xs low high : List Object) (split : xs ≡ low ++ high) where
  -- the text is in the first part, and the other begins the second
  pub PutsTextOf-low : (place from : ℕ) (own source now : Object) → length low ≡ from → place < from → 0 < length high → own ≡ get_or low place own → source ≡ get_or high 0 source → now ≡ record own { content = put_behind (units_of source.content) own.content } → PutsTextOf xs (set low place now ++ high) place from
  PutsTextOf-low place from own source now at below some read read_from grown =
      put_found xs (set low place now ++ high) place from own source now
      (reads_low xs low high place own split (omega (arith, at)) read)
      (reads_high xs low high from source split at some read_from)
      grown
      (sym (set-append_left low high place now (omega (arith, at))) ∙ ap (λ (os : List Object). set os place now) (sym split))

  -- the text begins the second part, and the other is in the first
  pub PutsTextOf-high : (place from : ℕ) (own source now : Object) → length low ≡ place → from < place → 0 < length high → own ≡ get_or high 0 own → source ≡ get_or low from source → now ≡ record own { content = put_behind (units_of source.content) own.content } → PutsTextOf xs (low ++ set high 0 now) place from
  PutsTextOf-high place from own source now at below some read read_from grown =
      let none : place - place ≡ 0 = omega arith in
      put_found xs (low ++ set high 0 now) place from own source now
      (reads_high xs low high place own split at some read)
      (reads_low xs low high from source split (omega (arith, at)) read_from)
      grown
      (ap (λ (k : ℕ). low ++ set high k now) (sym none) ∙ sym (set-append_right low high place place now at (omega arith)) ∙ ap (λ (os : List Object). set os place now) (sym split))

  -- what is said of the object there
  pub told-low : {A : Type 0} (place : ℕ) (own was : Object) (f : Object → A) → place < length low → own ≡ get_or low place own → slice_get xs place ≡ Some was → f own ≡ f was
  told-low place own was f within read found =
      let at = reads_low xs low high place own split within read in
      let same : own ≡ was = cc in
      ap f same

  pub told-high : {A : Type 0} (place : ℕ) (own was : Object) (f : Object → A) → length low ≡ place → 0 < length high → own ≡ get_or high 0 own → slice_get xs place ≡ Some was → f own ≡ f was
  told-high place own was f here some read found =
      let at = reads_high xs low high place own split here some read in
      let same : own ≡ was = cc in
      ap f same
