-- The entry of an offset, found by halving.
use Rattle.std.proofs.Common.{◌≡◌, ℕ, zero, suc, ◌∙◌, ◌<◌, ◌≤◌, inl, inr, Bool, true, false, List, [], ◌∷◌, length, map, get_or, Option, Some, None, Result, Ok, Err, refl, sym, ap, arith}
use Rattle.std.specs.Prelude.{◌==◌, All, IfSome, find, slice_get, option_map, if◌then◌else◌}
use Rattle.std.specs.Option.{option_and_then}
use Rattle.std.specs.Result.{result_ok}
use Rattle.std.specs.Ordering.{nat_cmp, ordering_index}
use Rattle.std.specs.declared.cmp.Ordering.TheVariants as ordering
use Rattle.std.specs.List.Sorted.{IsSearchInRange, IsBinarySearchResult}
use Rattle.std.proofs.lemmas.Bool.{cases_lt}
use Rattle.std.proofs.lemmas.Bool.Decides.{nat_tests}
use Rattle.std.proofs.lemmas.List.{length-map, get_or-map}
use Rattle.std.proofs.lemmas.Option.{slice_get-map, slice_get-get_or}
use Rattle.class_tree.specs.declared.pool.Const.{Const}
use Rattle.type_frames.specs.declared.vtype.VType.{VType}
use Rattle.type_frames.specs.declared.frame.MapFrame.{MapFrame}
use Rattle.type_states.specs.declared.entry.Entry.{Entry}
use Rattle.type_states.specs.Maps.{frame_held, frames_held, Rises}

module _ (p : Entry → Bool) where
  find_here : (xs : List Entry) (i : ℕ) (d : Entry) → i < length xs → p (get_or xs i d) ≡ true → ((k : ℕ) → k < i → p (get_or xs k d) ≡ false) → find p xs ≡ Some (get_or xs i d)
  find_here [] i d lt is before = absurd (omega arith)
  find_here (x ∷ xs) zero d lt is before = ap (λ (b : Bool). if b then Some x else find p xs) is
  find_here (x ∷ xs) (suc i) d lt is before =
      ap (λ (b : Bool). if b then Some x else find p xs) (before 0 (omega arith))
      ∙ find_here xs i d (omega arith) is (λ k less. before (suc k) (omega arith))

  find_nowhere : (xs : List Entry) → All (λ e. p e ≡ false) xs → find p xs ≡ None
  find_nowhere [] none = refl
  find_nowhere (x ∷ xs) none =
      ap (λ (b : Bool). if b then Some x else find p xs) (none 0 x (omega arith)) ∙ find_nowhere xs (λ k d lt. none (suc k) d (omega arith))

chosen : (frame : Entry → MapFrame) (b : Bool) (e : Entry) (o : Option Entry) → (if b then Some (frame e) else option_map frame o) ≡ option_map frame (if b then Some e else o)
chosen frame true e o = refl
chosen frame false e o = refl

equal_is : (a b : ℕ) → nat_cmp a b ≡ ordering.Equal → a ≡ b
equal_is a b is = grind (arith, nat_tests)

less_not : (a b : ℕ) → nat_cmp a b ≡ ordering.Less → (a == b) ≡ false
less_not a b is = grind (arith, nat_tests)

greater_not : (a b : ℕ) → nat_cmp a b ≡ ordering.Greater → (a == b) ≡ false
greater_not a b is = grind (arith, nat_tests)

same_yes : (a b : ℕ) → a ≡ b → (a == b) ≡ true
same_yes a b is = grind (arith, nat_tests)

other_not : (a b : ℕ) → a < b → (a == b) ≡ false
other_not a b lt = grind (arith, nat_tests)

ranked : (a b at : ℕ) → a ≤ b → ordering_index (nat_cmp a at) ≤ ordering_index (nat_cmp b at)
ranked a b at le = grind (arith, nat_tests)

module _ (entries : List Entry) (rising : Rises (map (λ e. e.at) entries)) where
  rises : (i j : ℕ) (d : Entry) → i < j → j < length entries → (get_or entries i d).at < (get_or entries j d).at
  rises i j d lt within =
      let count = length-map entries (λ (e : Entry). e.at) in
      let less = rising i j lt (omega arith) in
      let a = get_or-map (λ (e : Entry). e.at) entries i d 0 (omega arith) in
      let b = get_or-map (λ (e : Entry). e.at) entries j d 0 within in
      omega arith

  rises_upto : (i j : ℕ) (d : Entry) → i ≤ j → j < length entries → (get_or entries i d).at ≤ (get_or entries j d).at
  rises_upto i j d le within = elim (cases_lt i j) [
    | inl lt ↦ let less = rises i j d lt within in omega arith
    | inr ge ↦ let same : i ≡ j = omega arith in let e = ap (λ (k : ℕ). (get_or entries k d).at) same in omega arith
  ]

  module _ (at : ℕ) where
    here : (i : ℕ) (d : Entry) → i < length entries → nat_cmp (get_or entries i d).at at ≡ ordering.Equal → find (λ e. e.at == at) entries ≡ Some (get_or entries i d)
    here i d lt is =
        let e = equal_is (get_or entries i d).at at is in
        find_here (λ e. e.at == at) entries i d lt (same_yes (get_or entries i d).at at e)
        (λ k less. other_not (get_or entries k d).at at (let l = rises k i d less lt in omega arith))

    search_is : (r : Result ℕ ℕ) → Entry → IsSearchInRange r (length entries) → IsBinarySearchResult (λ e. nat_cmp e.at at) entries r
        → option_and_then (λ place. slice_get entries place) (result_ok r) ≡ find (λ e. e.at == at) entries
    search_is (Ok i) d within is = slice_get-get_or entries i d within ∙ sym (here i d within (is d))
    search_is (Err i) d within parted =
        let parts = parted (λ j k c le lt. ranked (get_or entries j c).at (get_or entries k c).at at (rises_upto j k c le lt)) in
        sym (find_nowhere (λ e. e.at == at) entries (λ k c lt. elim (cases_lt k i) [
          | inl below ↦ less_not (get_or entries k c).at at (parts.0 k c (omega arith) below)
          | inr above ↦ greater_not (get_or entries k c).at at (parts.1 k c above lt)
        ]))

-- the same of the frames that are held so
module _ (pool : List Const) (max_locals : ℕ) (lists : List (List VType)) where
  abbrev frame : Entry → MapFrame
  frame = frame_held pool max_locals lists

  find_held : (at : ℕ) (entries : List Entry) → find (λ f. f.at == at) (map frame entries) ≡ option_map frame (find (λ e. e.at == at) entries)
  find_held at [] = refl
  find_held at (e ∷ entries) = ap (λ (o : Option MapFrame). if e.at == at then Some (frame e) else o) (find_held at entries) ∙ chosen frame (e.at == at) e (find (λ e. e.at == at) entries)

  and_then_held : (o : Option ℕ) (entries : List Entry) → option_and_then (λ place. slice_get (map frame entries) place) o ≡ option_map frame (option_and_then (λ place. slice_get entries place) o)
  and_then_held None entries = refl
  and_then_held (Some place) entries = slice_get-map frame entries place

  pub held_is : (entries : List Entry) (at : ℕ) (r : Result ℕ ℕ) → Rises (map (λ e. e.at) entries) → IsSearchInRange r (length entries) → IsBinarySearchResult (λ e. nat_cmp e.at at) entries r
      → option_and_then (λ place. slice_get (frames_held pool max_locals lists entries) place) (result_ok r) ≡ find (λ f. f.at == at) (frames_held pool max_locals lists entries)
  held_is [] at (Ok i) rising within is = absurd (let w : i < 0 = within in let never : ⊥ = omega arith in never)
  held_is [] at (Err i) rising within is = refl
  held_is (e ∷ entries) at r rising within is =
      and_then_held (result_ok r) (e ∷ entries) ∙ ap (option_map frame) (search_is (e ∷ entries) rising at r e within is) ∙ sym (find_held at (e ∷ entries))

  pub held_within : (entries : List Entry) (r : Result ℕ ℕ) → IsSearchInRange r (length entries) → IfSome (result_ok r) (λ place. place < length (frames_held pool max_locals lists entries))
  held_within entries (Ok i) within = let e = length-map entries frame in let w : i < length entries = within in omega arith
  held_within entries (Err i) within = tt
