-- The laws of what the last change says, and what it says of changes that are themselves read off a list.
use Rattle.std.proofs.Common.{◌≡◌, ◌∙◌, List, [], ◌∷◌, ◌++◌, Option, Some, None, refl, ap, append-nil}
use Rattle.std.specs.Prelude.{filter_map, unwrap_or}
use Rattle.std.specs.List.{cons_option}
use Rattle.std.specs.Option.{option_and_then}
use Rattle.std.proofs.lemmas.List.Elements.{filter_map-append}
use Rattle.std.proofs.lemmas.List.Sums.{fold-append}
use Rattle.change_list.specs.Changes.{last, last_said}
use Rattle.change_list.specs.Laws.{AreSilent, LastDecides, NoneSpeaks, GoesOn}

-- ---- the last one

ends : {A : Type 0} (list : List A) (x : A) → last (list ++ x ∷ []) ≡ Some x
ends {A} list x = fold-append (λ (before : Option A) (y : A). Some y) None list (x ∷ [])

with_more : {A : Type 0} (more : Option A) (begin : A) (said : List A)
    → unwrap_or (last (said ++ cons_option more [])) begin ≡ unwrap_or more (unwrap_or (last said) begin)
with_more {A} None begin said = ap (λ (l : List A). unwrap_or (last l) begin) (append-nil said)
with_more {A} (Some x) begin said = ap (λ (o : Option A). unwrap_or o begin) (ends said x)

said_nothing : {C A : Type 0} (says : C → Option A) (changes : List C) → AreSilent says changes → filter_map says changes ≡ []
said_nothing says [] silent = refl
said_nothing {C} {A} says (c ∷ changes) silent =
    ap (λ (o : Option A). cons_option o (filter_map says changes)) silent.0 ∙ said_nothing says changes silent.1

-- ---- the laws

pub goes_on : {C A : Type 0} → GoesOn C A
goes_on {C} {A} says begin changes c =
    ap (λ (l : List A). unwrap_or (last l) begin) (filter_map-append says changes (c ∷ [])) ∙ with_more (says c) begin (filter_map says changes)

pub last_decides : {C A : Type 0} → LastDecides C A
last_decides {C} {A} says begin said before after c spoken silent =
    ap (λ (l : List A). unwrap_or (last l) begin)
    (filter_map-append says before (c ∷ after)
    ∙ ap (λ (l : List A). filter_map says before ++ cons_option (says c) l) (said_nothing says after silent))
    ∙ with_more (says c) begin (filter_map says before)
    ∙ ap (λ (o : Option A). unwrap_or o (last_said says begin before)) spoken

pub none_speaks : {C A : Type 0} → NoneSpeaks C A
none_speaks {C} {A} says begin changes silent = ap (λ (l : List A). unwrap_or (last l) begin) (said_nothing says changes silent)

-- ---- the first change, and the rest

begins_after : {A : Type 0} (x begin other : A) (said : List A) → unwrap_or (last (x ∷ said)) begin ≡ unwrap_or (last (x ∷ said)) other
begins_after x begin other [] = refl
begins_after x begin other (y ∷ said) = begins_after y begin other said

first_of_more : {A : Type 0} (x begin : A) (said : List A) → unwrap_or (last (x ∷ said)) begin ≡ unwrap_or (last said) x
first_of_more x begin [] = refl
first_of_more x begin (y ∷ said) = begins_after y begin x said

by_first : {A : Type 0} (first : Option A) (begin : A) (said : List A)
    → unwrap_or (last (cons_option first said)) begin ≡ unwrap_or (last said) (unwrap_or first begin)
by_first None begin said = refl
by_first (Some x) begin said = first_of_more x begin said

-- what the changes after the first one say goes on from what that one says
pub goes_on_from : {C A : Type 0} (says : C → Option A) (begin : A) (c : C) (changes : List C)
    → last_said says begin (c ∷ changes) ≡ last_said says (unwrap_or (says c) begin) changes
goes_on_from says begin c changes = by_first (says c) begin (filter_map says changes)

-- ---- changes that are read off the elements of a list

module _ {X C A : Type 0} (change : X → Option C) (says : C → Option A) where
  -- what an element says by its change, if it makes one
  abbrev pub said_by : X → Option A
  said_by x = option_and_then says (change x)

  onto : (c : Option C) (changes : List C) → filter_map says (cons_option c changes) ≡ cons_option (option_and_then says c) (filter_map says changes)
  onto None changes = refl
  onto (Some c) changes = refl

  read_off : (xs : List X) → filter_map says (filter_map change xs) ≡ filter_map said_by xs
  read_off [] = refl
  read_off (x ∷ xs) = onto (change x) (filter_map change xs) ∙ ap (cons_option (said_by x)) (read_off xs)

  pub said_through : (begin : A) (xs : List X) → last_said says begin (filter_map change xs) ≡ last_said said_by begin xs
  said_through begin xs = ap (λ (l : List A). unwrap_or (last l) begin) (read_off xs)
