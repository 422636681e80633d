-- How far a class is, and which file is the main class's.
use Rattle.std.proofs.Common.{◌≡◌, ℕ, List, [], ◌∷◌, ◌++◌, map, Option, Some, None, Bool, true, false, cond, refl, ap}
use Rattle.std.specs.Prelude.{bytes_eq, find, option_map, is_some}
use Rattle.std.proofs.lemmas.Slice.Eq.{bytes_eq-Decides}
use Rattle.ti_ids.specs.declared.state.InitState.{InitState}
use Rattle.jv_names.specs.Names.{Name}
use Rattle.machine_model.specs.Core.{state_in}

pub same_bytes : (t : List ℕ) → bytes_eq t t ≡ true
same_bytes t = (bytes_eq-Decides t t).1 refl

find_last : {A : Type 0} (test : A → Bool) (xs : List A) (x : A) → find test xs ≡ None → test x ≡ true → find test (xs ++ x ∷ []) ≡ Some x
find_last test [] x none h = rw h refl
find_last test (y ∷ ys) x none h =
    elim (test y) as (λ b. cond b (Some y) (find test ys) ≡ None → cond b (Some y) (find test (ys ++ x ∷ [])) ≡ Some x) [
      | true ↦ λ e. absurd cc
      | false ↦ λ e. find_last test ys x e h
    ] none

map_none : {A B : Type 0} (f : A → B) (r : Option A) → option_map f r ≡ None → r ≡ None
map_none f None e = refl
map_none f (Some x) e = absurd cc

pub state_added : (classes : List (Name × InitState)) (name : Name) (state : InitState) → state_in classes name ≡ None → state_in (classes ++ (name, state) ∷ []) name ≡ Some state
state_added classes name state none =
    ap (option_map (λ e. e.1)) (find_last (λ e. bytes_eq e.0 name) classes (name, state) (map_none (λ e. e.1) (find (λ e. bytes_eq e.0 name) classes) none) (same_bytes name))

abbrev changed : Name → InitState → Name × InitState → Name × InitState
changed name state e = cond (bytes_eq e.0 name) (e.0, state) e

pub state_changed : (classes : List (Name × InitState)) (name : Name) (state : InitState) → is_some (state_in classes name) ≡ true → state_in (map (changed name state) classes) name ≡ Some state
state_changed [] name state some = absurd cc
state_changed (e ∷ classes) name state some =
    elim (bytes_eq e.0 name) as (λ b. bytes_eq e.0 name ≡ b → is_some (state_in (e ∷ classes) name) ≡ true → state_in (cond b (e.0, state) e ∷ map (changed name state) classes) name ≡ Some state) [
      | true ↦ λ is h. rw is refl
      | false ↦ λ is h. rw is (state_changed classes name state (rw is at h))
    ] refl some
