-- The states of a stack map, as they are found by their offsets.
use Rattle.std.proofs.Common.{◌≡◌, ℕ, ◌<◌, ◌≤◌, ◌^◌, ◌∙◌, zero, suc, Bool, true, false, List, [], ◌∷◌, map, length, Option, Some, None, Result, Ok, refl, sym, ap, arith, eqb-true}
use Rattle.std.proofs.lemmas.Bool.{ltb-false}
use Rattle.std.specs.Prelude.{find, slice_get, All, ◌==◌, ◌&&◌, is_some, is_none, nat_lt, if◌then◌else◌, ℤ, pos, negsuc}
use Rattle.std.specs.List.{list_all}
use Rattle.std.specs.Option.{option_map_or, option_and_then}
use Rattle.ti_ids.specs.Maybe.{◌>>=◌}
use Rattle.type_frames.specs.declared.frame.MapFrame.{MapFrame}
use Rattle.type_frames.specs.Hierarchies.{Known}
use Rattle.type_frames.specs.States.{State}
use Rattle.type_frames.specs.TypeChecks.{Checked, state_of, map_frames, mapped, is_state_assignable, is_accepted_at}
use Rattle.type_states.specs.Given.{given_at}
use Rattle.type_verify.specs.Checkers.{offset_in_code}

-- what a map gives at an offset
abbrev pub state_at : List MapFrame → ℕ → Option State
state_at frames at = find (λ f. f.at == at) frames >>= λ f. Some (state_of f)

found_some : {A : Type 0} (o : Option A) (x : A) → Some x ≡ o → o ≡ Some x
found_some o x e = sym e

at_place : (frames : List MapFrame) (at place : ℕ) → option_and_then (λ p. slice_get frames p) (Some place) ≡ find (λ f. f.at == at) frames → given_at frames place ≡ state_at frames at
at_place frames at place e = ap (λ (o : Option MapFrame). o >>= λ f. Some (state_of f)) e

at_none : (frames : List MapFrame) (at : ℕ) → option_and_then (λ p. slice_get frames p) None ≡ find (λ f. f.at == at) frames → state_at frames at ≡ None
at_none frames at e = ap (λ (o : Option MapFrame). o >>= λ f. Some (state_of f)) (sym e)

pub accepted_none : (h : Known) (frames : List MapFrame) (at : ℕ) (s : State) → None ≡ find (λ f. f.at == at) frames
    → option_map_or (is_state_assignable h s) (find (λ f. f.at == at) frames >>= λ f. Some (state_of f)) false ≡ false
accepted_none h frames at s e = ap (λ (o : Option State). option_map_or (is_state_assignable h s) o false) (at_none frames at e)

pub accepted_there : (h : Known) (frames : List MapFrame) (at place : ℕ) (s : State) → slice_get frames place ≡ find (λ f. f.at == at) frames
    → option_map_or (is_state_assignable h s) (given_at frames place) false ≡ option_map_or (is_state_assignable h s) (find (λ f. f.at == at) frames >>= λ f. Some (state_of f)) false
accepted_there h frames at place s e = ap (λ (o : Option State). option_map_or (is_state_assignable h s) o false) (at_place frames at place e)

-- ---- what may follow

there_at : (p : State → Bool) (o : Option MapFrame) (at : Bool) → is_some o ≡ true → option_map_or p (o >>= λ f. Some (state_of f)) false ≡ option_map_or p (o >>= λ f. Some (state_of f)) at
there_at p None at e = absurd cc
there_at p (Some f) at e = refl

within_some : {A : Type 0} (xs : List A) (i : ℕ) → i < length xs → is_some (slice_get xs i) ≡ true
within_some [] i lt = absurd (omega arith)
within_some (x ∷ xs) zero lt = refl
within_some (x ∷ xs) (suc i) lt = within_some xs i (omega arith)

pub follows_into : (h : Known) (frames : List MapFrame) (at place : ℕ) (s : State) → slice_get frames place ≡ find (λ f. f.at == at) frames → place < length frames
    → option_map_or (is_state_assignable h s) (given_at frames place) false ≡ option_map_or (is_state_assignable h s) (find (λ f. f.at == at) frames >>= λ f. Some (state_of f)) true
follows_into h frames at place s e lt =
    there_at (is_state_assignable h s) (slice_get frames place) true (within_some frames place lt) ∙ ap (λ (o : Option MapFrame). option_map_or (is_state_assignable h s) (o >>= λ f. Some (state_of f)) true) e

pub follows_freely : (h : Known) (frames : List MapFrame) (at : ℕ) (s : State) → None ≡ find (λ f. f.at == at) frames
    → option_map_or (is_state_assignable h s) (find (λ f. f.at == at) frames >>= λ f. Some (state_of f)) true ≡ true
follows_freely h frames at s e = ap (λ (o : Option MapFrame). option_map_or (is_state_assignable h s) (o >>= λ f. Some (state_of f)) true) (sym e)

none_of : (o : Option MapFrame) → is_none (o >>= λ f. Some (state_of f)) ≡ is_none o
none_of None = refl
none_of (Some f) = refl

pub given_there : (frames : List MapFrame) (at place : ℕ) → slice_get frames place ≡ find (λ f. f.at == at) frames → place < length frames
    → is_none (find (λ f. f.at == at) frames >>= λ f. Some (state_of f)) ≡ false
given_there frames at place e lt = none_of (find (λ f. f.at == at) frames) ∙ ap (λ (o : Option MapFrame). is_none o) (sym e) ∙ some_not (slice_get frames place) (within_some frames place lt)
  where
    some_not : (o : Option MapFrame) → is_some o ≡ true → is_none o ≡ false
    some_not None e = absurd cc
    some_not (Some f) e = refl

pub given_nowhere : (frames : List MapFrame) (at : ℕ) → None ≡ find (λ f. f.at == at) frames → is_none (find (λ f. f.at == at) frames >>= λ f. Some (state_of f)) ≡ true
given_nowhere frames at e = none_of (find (λ f. f.at == at) frames) ∙ ap (λ (o : Option MapFrame). is_none o) (sym e)

-- ---- targets

passes_first : (f : MapFrame) (at : ℕ) (rest : Option MapFrame) (same : Bool) → f.at < at → (f.at == at) ≡ same → rest ≡ None → (if same then Some f else rest) ≡ None
passes_first f at rest true lt e none = let is = eqb-true f.at at e in absurd (omega arith)
passes_first f at rest false lt e none = none

beyond : (frames : List MapFrame) (at : ℕ) → 2 ^ 16 ≤ at → All (λ f. f.at < 2 ^ 16) frames → find (λ f. f.at == at) frames ≡ None
beyond [] at past short = refl
beyond (f ∷ frames) at past short =
    let first : f.at < 2 ^ 16 = short 0 f (omega arith) in
    let rest : find (λ g. g.at == at) frames ≡ None = beyond frames at past (λ k d lt. short (suc k) d (omega arith)) in
    passes_first f at (find (λ g. g.at == at) frames) (f.at == at) (omega arith) refl rest

-- a target in code
in_code : (m : Checked) (at found : ℕ) (s : State) (low : Bool) → nat_lt at 65536 ≡ low → (if low then Some at else None) ≡ Some found
    → is_accepted_at m (pos at) s ≡ option_map_or (is_state_assignable m.env.hierarchy s) (mapped m found) false
in_code m at found s true e is = let same : at ≡ found = cc in ap (λ (n : ℕ). option_map_or (is_state_assignable m.env.hierarchy s) (mapped m n) false) same
in_code m at found s false e is = absurd cc

pub accepted_in_code : (m : Checked) (target : ℤ) (at : ℕ) (s : State) → offset_in_code target ≡ Some at → option_map_or (is_state_assignable m.env.hierarchy s) (mapped m at) false ≡ is_accepted_at m target s
accepted_in_code m (pos n) at s e = sym (in_code m n at s (nat_lt n 65536) refl e)
accepted_in_code m (negsuc n) at s e = absurd cc

past_code : (m : Checked) (frames : List MapFrame) (at : ℕ) (s : State) (low : Bool) → nat_lt at 65536 ≡ low → (if low then Some at else None) ≡ None → m.map ≡ Ok frames → All (λ f. f.at < 2 ^ 16) frames
    → is_accepted_at m (pos at) s ≡ false
past_code m frames at s true e is map short = absurd cc
past_code m frames at s false e is map short =
    let past : 65536 ≤ at = ltb-false at 65536 e in
    ap (λ (r : Result (List MapFrame) ℕ). option_map_or (is_state_assignable m.env.hierarchy s) (find (λ f. f.at == at) (map_frames r) >>= λ f. Some (state_of f)) false) map
    ∙ ap (λ (o : Option MapFrame). option_map_or (is_state_assignable m.env.hierarchy s) (o >>= λ f. Some (state_of f)) false) (beyond frames at (omega (arith, past)) short)

pub accepted_past : (m : Checked) (frames : List MapFrame) (target : ℤ) (s : State) → offset_in_code target ≡ None → m.map ≡ Ok frames → All (λ f. f.at < 2 ^ 16) frames → is_accepted_at m target s ≡ false
accepted_past m frames (pos n) s e map short = past_code m frames n s (nat_lt n 65536) refl e map short
accepted_past m frames (negsuc n) s e map short = refl

pub all_mapped : {A B : Type 0} (f : B → Bool) (g : A → B) (xs : List A) → list_all (λ x. f (g x)) xs ≡ list_all f (map g xs)
all_mapped f g [] = refl
all_mapped f g (x ∷ xs) = ap (λ (b : Bool). f (g x) && b) (all_mapped f g xs)
