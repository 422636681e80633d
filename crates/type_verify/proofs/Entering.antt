-- The state with which an instruction begins, as it is found in a stack map.
use Rattle.std.proofs.Common.{◌≡◌, ℕ, ◌<◌, ◌∙◌, zero, suc, Bool, true, false, List, [], ◌∷◌, length, Option, Some, None, sym, ap, arith}
use Rattle.std.specs.Prelude.{find, slice_get, ◌==◌, unwrap_or, if◌then◌else◌}
use Rattle.std.specs.Option.{option_map_or}
use Rattle.ti_ids.specs.Maybe.{◌>>=◌}
use Rattle.type_frames.specs.declared.frame.MapFrame.{MapFrame}
use Rattle.type_frames.specs.Hierarchies.{Known}
use Rattle.type_frames.specs.States.{State}
use Rattle.type_frames.specs.TypeChecks.{state_of, is_state_assignable}
use Rattle.type_states.specs.Given.{given_at}

abbrev first_by : Known → State → Option State → Option State
first_by h s given = elim given [ None ↦ Some s | Some g ↦ if is_state_assignable h s g then Some g else None ]

found_is : (frames : List MapFrame) (at place : ℕ) (given : Option State) → slice_get frames place ≡ find (λ f. f.at == at) frames → given_at frames place ≡ given
    → (find (λ f. f.at == at) frames >>= λ f. Some (state_of f)) ≡ given
found_is frames at place given e g = ap (λ (o : Option MapFrame). o >>= λ f. Some (state_of f)) (sym e) ∙ g

pub first_none : (h : Known) (frames : List MapFrame) (at : ℕ) (s : State) → None ≡ find (λ f. f.at == at) frames
    → (elim (find (λ f. f.at == at) frames >>= λ f. Some (state_of f)) [ None ↦ Some s | Some g ↦ if is_state_assignable h s g then Some g else None ]) ≡ Some s
first_none h frames at s e = ap (λ (o : Option MapFrame). first_by h s (o >>= λ f. Some (state_of f))) (sym e)

taken_so : (h : Known) (s g : State) (given : Option State) → given ≡ Some g → option_map_or (is_state_assignable h s) given false ≡ true → first_by h s given ≡ Some g
taken_so h s g None e is = absurd cc
taken_so h s g (Some x) e is = ap (λ (b : Bool). if b then Some x else None) is ∙ e

pub first_there : (h : Known) (frames : List MapFrame) (at place : ℕ) (s g : State) → slice_get frames place ≡ find (λ f. f.at == at) frames → given_at frames place ≡ Some g
    → option_map_or (is_state_assignable h s) (given_at frames place) false ≡ true
    → (elim (find (λ f. f.at == at) frames >>= λ f. Some (state_of f)) [ None ↦ Some s | Some x ↦ if is_state_assignable h s x then Some x else None ]) ≡ Some g
first_there h frames at place s g e there is = ap (first_by h s) (found_is frames at place (given_at frames place) e (λ i. given_at frames place)) ∙ taken_so h s g (given_at frames place) there is

not_taken : (h : Known) (s : State) (given : Option State) (there : given ≡ None → ⊥) → option_map_or (is_state_assignable h s) given false ≡ false → first_by h s given ≡ None
not_taken h s None there is = absurd (there (λ i. None))
not_taken h s (Some x) there is = ap (λ (b : Bool). if b then Some x else None) is

never_none : (frames : List MapFrame) (place : ℕ) → place < length frames → slice_get frames place ≡ None → ⊥
never_none [] place lt e = absurd (omega arith)
never_none (f ∷ frames) zero lt e = absurd cc
never_none (f ∷ frames) (suc place) lt e = never_none frames place (omega arith) e

given_there : (frames : List MapFrame) (place : ℕ) → place < length frames → given_at frames place ≡ None → ⊥
given_there frames place lt e = by (slice_get frames place) (never_none frames place lt) e
  where
    by : (o : Option MapFrame) → (o ≡ None → ⊥) → (o >>= λ f. Some (state_of f)) ≡ None → ⊥
    by None some e = some (λ i. None)
    by (Some f) some e = absurd cc

pub first_not : (h : Known) (frames : List MapFrame) (at place : ℕ) (s : State) → slice_get frames place ≡ find (λ f. f.at == at) frames → place < length frames
    → option_map_or (is_state_assignable h s) (given_at frames place) false ≡ false → first_by h s (find (λ f. f.at == at) frames >>= λ f. Some (state_of f)) ≡ None
first_not h frames at place s e lt is = ap (first_by h s) (found_is frames at place (given_at frames place) e (λ i. given_at frames place)) ∙ not_taken h s (given_at frames place) (given_there frames place lt) is

pub later_none : (frames : List MapFrame) (at : ℕ) (s : State) → None ≡ find (λ f. f.at == at) frames → unwrap_or (find (λ f. f.at == at) frames >>= λ f. Some (state_of f)) s ≡ s
later_none frames at s e = ap (λ (o : Option MapFrame). unwrap_or (o >>= λ f. Some (state_of f)) s) (sym e)

pub later_there : (frames : List MapFrame) (at place : ℕ) (s g : State) → slice_get frames place ≡ find (λ f. f.at == at) frames → given_at frames place ≡ Some g
    → unwrap_or (find (λ f. f.at == at) frames >>= λ f. Some (state_of f)) s ≡ g
later_there frames at place s g e there = ap (λ (o : Option State). unwrap_or o s) (found_is frames at place (Some g) e there)
