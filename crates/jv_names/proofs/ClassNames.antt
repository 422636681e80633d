-- A class name, unit by unit.
use Rattle.std.proofs.Common.{◌+◌, drop, get_or, add-one, drop-cons, ◌≡◌, ◌≢◌, ℕ, ◌≤◌, ◌<◌, Bool, true, false, not, ◌&&◌, eqb, List, [], ◌∷◌, length, map, refl, sym, ap, ◌∙◌, arith}
use Rattle.std.proofs.lemmas.List.{drop_all, get_or-map}
use Rattle.std.specs.List.{list_all}
use Rattle.std.proofs.lemmas.Bool.Decides.{nat_tests}
use Rattle.jv_names.specs.Names.{onto, parts, is_part, is_part_unit, is_class_name}

abbrev pub with_parts : Bool → List (List ℕ) → Bool
with_parts begun [] = false
with_parts true (p ∷ ps) = list_all is_part_unit p && list_all is_part ps
with_parts false (p ∷ ps) = is_part p && list_all is_part ps

-- whether the rest of a name is well formed, where a part has begun or not
unfoldable pub rest_named : Bool → List ℕ → Bool
rest_named begun text = with_parts begun (parts 47 text)

pub record Some_parts (text : List ℕ) : Type 0 where
  pub front : List ℕ
  pub others : List (List ℕ)
  pub are : parts 47 text ≡ front ∷ others

some_onto : (u : ℕ) (ps : List (List ℕ)) → (p : List ℕ) × (qs : List (List ℕ)) × (onto u ps ≡ p ∷ qs)
some_onto u [] = (u ∷ [], [], refl)
some_onto u (p ∷ ps) = (u ∷ p, ps, refl)

pub some_parts : (text : List ℕ) → Some_parts text
some_parts [] = record { front = []; others = []; are = refl }
some_parts (u ∷ text) =
    elim (eqb u 47) as (λ b. eqb u 47 ≡ b → Some_parts (u ∷ text)) [
      | true ↦ λ e. record { front = []; others = parts 47 text; are = rw e refl }
      | false ↦ λ e. let o = some_onto u (parts 47 text) in record { front = o.0; others = o.1; are = rw e o.2 }
    ] refl

good_any : (u : ℕ) (p : List ℕ) (ps : List (List ℕ)) (b : Bool) → is_part_unit u ≡ true → with_parts b ((u ∷ p) ∷ ps) ≡ with_parts true (p ∷ ps)
good_any u p ps true h = rw h refl
good_any u p ps false h = rw h refl

pub bad_any : (u : ℕ) (ps : List (List ℕ)) (b : Bool) → is_part_unit u ≡ false → with_parts b (onto u ps) ≡ false
bad_any u [] true h = rw h refl
bad_any u [] false h = rw h refl
bad_any u (p ∷ ps) true h = rw h refl
bad_any u (p ∷ ps) false h = rw h refl

pub named_start : (text : List ℕ) → is_class_name text ≡ rest_named false text
unfolding rest_named
named_start text = let s = some_parts text in rw (s.are) refl

pub named_end : (begun : Bool) → rest_named begun [] ≡ begun
unfolding rest_named
named_end true = refl
named_end false = refl

pub named_slash : (text : List ℕ) → rest_named true (47 ∷ text) ≡ rest_named false text
unfolding rest_named
named_slash text = let s = some_parts text in rw (s.are) refl

pub named_no_part : (text : List ℕ) → rest_named false (47 ∷ text) ≡ false
unfolding rest_named
named_no_part text = refl

pub named_good : (u : ℕ) (text : List ℕ) (b : Bool) → u ≢ 47 → is_part_unit u ≡ true → rest_named b (u ∷ text) ≡ rest_named true text
unfolding rest_named
named_good u text b ne h =
    let s = some_parts text in
    let e : eqb u 47 ≡ false = grind (arith, nat_tests) in
    rw (e, s.are) (good_any u s.front s.others b h)

pub named_bad : (u : ℕ) (text : List ℕ) (b : Bool) → u ≢ 47 → is_part_unit u ≡ false → rest_named b (u ∷ text) ≡ false
unfolding rest_named
named_bad u text b ne h =
    let e : eqb u 47 ≡ false = grind (arith, nat_tests) in
    rw e (bad_any u (parts 47 text) b h)

at_head : (text : List ℕ) (i : ℕ) (b : Bool) → i < length text → rest_named b (drop i text) ≡ rest_named b (get_or text i 0 ∷ drop (i + 1) text)
at_head text i b h = rw (add-one, drop-cons text i 0) refl

pub no_part_at : (text : List ℕ) (i : ℕ) (b : Bool) → i < length text → get_or text i 0 ≡ 47 → b ≡ false → rest_named b (drop i text) ≡ false
no_part_at text i b h is not = at_head text i b h ∙ rw (is, not) (named_no_part (drop (i + 1) text))

pub slash_at : (text : List ℕ) (i : ℕ) (b : Bool) → i < length text → get_or text i 0 ≡ 47 → b ≡ true → rest_named b (drop i text) ≡ rest_named false (drop (i + 1) text)
slash_at text i b h is run = at_head text i b h ∙ rw (is, run) (named_slash (drop (i + 1) text))

pub good_at : (text : List ℕ) (i : ℕ) (b : Bool) → i < length text → get_or text i 0 ≢ 47 → is_part_unit (get_or text i 0) ≡ true → rest_named b (drop i text) ≡ rest_named true (drop (i + 1) text)
good_at text i b h ne good = at_head text i b h ∙ named_good (get_or text i 0) (drop (i + 1) text) b ne good

pub bad_at : (text : List ℕ) (i : ℕ) (b : Bool) → i < length text → get_or text i 0 ≢ 47 → is_part_unit (get_or text i 0) ≡ false → rest_named b (drop i text) ≡ false
bad_at text i b h ne bad = at_head text i b h ∙ named_bad (get_or text i 0) (drop (i + 1) text) b ne bad

pub end_at : (text : List ℕ) (i : ℕ) (b : Bool) → length text ≤ i → rest_named b (drop i text) ≡ b
end_at text i b h = rw (drop_all i text h) (named_end b)

-- the unit of the letter at a place
pub letter_at : {X : Type 0} (f : X → ℕ) (text : List X) (i : ℕ) (letter : X) → i < length text → letter ≡ get_or text i letter → get_or (map f text) i 0 ≡ f letter
letter_at f text i letter h is = get_or-map f text i letter 0 h ∙ ap f (sym is)
