-- Where there is no end, an actor is picked, and a picked actor is enabled.
use Rattle.std.proofs.Common.{◌≡◌, ◌∙◌, ℕ, List, [], ◌∷◌, ◌++◌, Option, Some, None, Bool, true, false, ◌&&◌, ◌||◌, cond, leb, length, refl, sym, ap, subst}
use Rattle.jv_names.proofs.DescriptorPlaces.{and-right}
use Rattle.std.specs.Prelude.{find, is_some, is_none, IfSome, nat_lt, option_map}
use Rattle.std.specs.List.{list_any}
use Rattle.std.proofs.lemmas.List.Folds.{list_any-append}
use Rattle.ti_ids.specs.declared.actor.Actor.{Actor}
use Rattle.ti_ids.specs.declared.actor.End.{End}
use Rattle.ti_ids.specs.declared.actor.End.TheVariants as ends
use Rattle.ti_ids.specs.Actors.{same_actor}
use Rattle.machine_steps.specs.World.{World}
use Rattle.machine_state.specs.Acts.{State}
use Rattle.machine_steps.specs.Actors.{is_ready}
use Rattle.machine_steps.specs.Ends.{actors, is_enabled, end, is_dead, is_logged_out}
use Rattle.machine_steps.specs.Picks.{behind, up_to, round, pick, next_actor}
use Rattle.machine_steps.specs.Laws.{SomeoneIsEnabled}

abbrev pub Pick : Type 0
Pick = Actor × ℕ

abbrev anew : Option Actor → Option Pick
anew r = option_map (λ actor. (let p : Pick = (actor, 0) in p)) r

find_some : (q : Actor → Bool) (xs : List Actor) → list_any q xs ≡ true → is_some (find q xs) ≡ true
find_some q [] e = absurd cc
find_some q (x ∷ xs) e =
    elim (q x) as (λ b. (b || list_any q xs) ≡ true → is_some (cond b (Some x) (find q xs)) ≡ true) [
      | true ↦ λ k. refl
      | false ↦ λ k. find_some q xs k
    ] e

swap_last : (x y : Bool) → (y || (x || false)) ≡ (x || y)
swap_last true true = refl
swap_last true false = refl
swap_last false true = refl
swap_last false false = refl

swap_middle : (x y z w : Bool) → (y || z) ≡ w → (y || (x || z)) ≡ (x || w)
swap_middle true true z w e = refl
swap_middle true false z w e = refl
swap_middle false true z w e = e
swap_middle false false z w e = e

any_round : (q : Actor → Bool) (c : Actor) (xs : List Actor) → list_any q (behind c xs ++ up_to c xs) ≡ list_any q xs
any_round q c [] = refl
any_round q c (a ∷ xs) =
    elim (same_actor a c) as (λ b. list_any q (cond b xs (behind c xs) ++ cond b (a ∷ []) (a ∷ up_to c xs)) ≡ (q a || list_any q xs)) [
      | true ↦ list_any-append q xs (a ∷ []) ∙ swap_last (q a) (list_any q xs)
      | false ↦ list_any-append q (behind c xs) (a ∷ up_to c xs)
          ∙ swap_middle (q a) (list_any q (behind c xs)) (list_any q (up_to c xs)) (list_any q xs)
          (sym (list_any-append q (behind c xs) (up_to c xs)) ∙ any_round q c xs)
    ]

any_same : (q r : Actor → Bool) (xs : List Actor) → ((a : Actor) → q a ≡ r a) → list_any q xs ≡ list_any r xs
any_same q r [] f = refl
any_same q r (x ∷ xs) f = rw (f x, any_same q r xs f) refl

last_none : (d l g o r : Bool) (x y u z w : End)
    → cond d (Some x) (cond l (Some y) (cond g (Some u) (cond o (Some z) (cond r None (Some w))))) ≡ None → r ≡ true
last_none true l g o r x y u z w e = absurd cc
last_none false true g o r x y u z w e = absurd cc
last_none false false true o r x y u z w e = absurd cc
last_none false false false true r x y u z w e = absurd cc
last_none false false false false true x y u z w e = refl
last_none false false false false false x y u z w e = absurd cc

some_row : (b : Bool) (p : Pick) (r : Option Actor) → is_some r ≡ true → is_some (cond b (Some p) (anew r)) ≡ true
some_row true p r e = refl
some_row false p (Some a) e = refl
some_row false p None e = absurd cc

-- where there is no end, one of all actors is enabled
any_enabled : (w : World) (s : State) → end w s ≡ None → list_any (is_enabled w s) (actors w.job s) ≡ true
any_enabled w s e =
    let ready : list_any (is_ready w s) (actors w.job s) ≡ true =
    last_none (is_dead s.core.phase) (leb w.job.limits.steps s.steps) (is_logged_out w.job s.trace)
    (leb w.job.limits.output (length s.core.output)) _ ends.Dead ends.StepLimit ends.LineLimit ends.OutputLimit ends.Stuck e in
    any_same (is_enabled w s) (is_ready w s) (actors w.job s) (λ a. ap (λ (r : Option End). is_none r && is_ready w s a) e) ∙ ready

some_one : (q : Actor → Bool) (xs : List Actor) → list_any q xs ≡ true → (a : Actor) × (q a ≡ true)
some_one q [] e = absurd cc
some_one q (x ∷ xs) e =
    elim (q x) as (λ b. q x ≡ b → (b || list_any q xs) ≡ true → (a : Actor) × (q a ≡ true)) [
      | true ↦ λ is k. (x, is)
      | false ↦ λ is k. some_one q xs k
    ] refl e

pub someone_is_enabled : SomeoneIsEnabled
someone_is_enabled w s e = some_one (is_enabled w s) (actors w.job s) (any_enabled w s e)

pub pick_some : (slice : ℕ) (w : World) (s : State) (c : Actor) (m : ℕ) → end w s ≡ None → is_some (pick slice w s c m) ≡ true
pick_some slice w s c m e =
    let all : List Actor = actors w.job s in
    some_row (nat_lt m slice && is_enabled w s c) (c, m) (next_actor w s c)
    (find_some (is_enabled w s) (round c all) (any_round (is_enabled w s) c all ∙ any_enabled w s e))

-- ---- a picked actor is enabled

find_true : (p : Actor → Bool) (xs : List Actor) (x : Actor) → find p xs ≡ Some x → p x ≡ true
find_true p [] x e = absurd cc
find_true p (y ∷ xs) x e =
    elim (p y) as (λ b. p y ≡ b → cond b (Some y) (find p xs) ≡ Some x → p x ≡ true) [
      | true ↦ λ is k. let same : y ≡ x = cc in subst (λ (z : Actor). p z ≡ true) same is
      | false ↦ λ is k. find_true p xs x k
    ] refl e

found_enabled : (p : Actor → Bool) (r : Option Actor) → ((x : Actor) → r ≡ Some x → p x ≡ true) → IfSome (anew r) (λ q. p q.0 ≡ true)
found_enabled p None f = tt
found_enabled p (Some a) f = f a refl

enabled_of : (p : Actor → Bool) (a : Bool) (c : Actor) (m : ℕ) (xs : List Actor)
    → IfSome (cond (a && p c) (Some (let q : Pick = (c, m) in q)) (anew (find p xs))) (λ q. p q.0 ≡ true)
enabled_of p a c m xs =
    elim (a && p c) as (λ b. (a && p c) ≡ b → IfSome (cond b (Some (let q : Pick = (c, m) in q)) (anew (find p xs))) (λ q. p q.0 ≡ true)) [
      | true ↦ λ is. and-right a (p c) is
      | false ↦ λ is. found_enabled p (find p xs) (find_true p xs)
    ] refl

pub pick_enabled : (slice : ℕ) (w : World) (s : State) (c : Actor) (m : ℕ) → IfSome (pick slice w s c m) (λ q. is_enabled w s q.0 ≡ true)
pick_enabled slice w s c m = enabled_of (is_enabled w s) (nat_lt m slice) c m (round c (actors w.job s))
