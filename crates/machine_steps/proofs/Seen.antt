-- From acts that follow one another as a judgement of acts says to the state after the step, and to the states after all schedules.
use Rattle.std.proofs.Common.{◌≡◌, ◌∙◌, ℕ, List, [], ◌∷◌, ◌++◌, Option, Some, None, refl, sym, ap, subst}
use Rattle.std.specs.Prelude.{fold}
use Rattle.ti_ids.specs.declared.actor.Actor.{Actor}
use Rattle.machine_state.proofs.BirthsApart.{births_apart}
use Rattle.machine_state.specs.Births.{unborn}
use Rattle.machine_state.specs.Jobs.{Job}
use Rattle.machine_state.specs.Core.{Core}
use Rattle.machine_state.specs.Acts.{State, Act, Change, Changes, Notes, Makes, acted, birth_after, changed, core_after, stepped}
use Rattle.instruction_effect.proofs.ActRules.{Follow, behind}
use Rattle.machine_steps.specs.World.{World}
use Rattle.machine_steps.specs.Actors.{next_acts}
use Rattle.machine_steps.specs.Replay.{opening, opening_core, run_from, state, step, step_by}
use Rattle.machine_steps.proofs.StepRules.{seen}

-- ---- what waits isn't looked at by any act

seen_change : (birth : ℕ) (c : Change) (core : Core) → seen (changed birth c (seen core)) ≡ seen (changed birth c core)
seen_change birth (Makes o) core = refl
seen_change birth c core = refl

-- An act that takes a call leaves a queue where there was none, so it is put aside behind the acts, too.
pub seen_after : (birth : ℕ) (core : Core) (acts : List Act) → seen (core_after birth (seen core) acts) ≡ seen (core_after birth core acts)
seen_after birth core [] = refl
seen_after birth core (Changes c ∷ acts) =
    sym (seen_after birth (changed birth c (seen core)) acts)
    ∙ ap (λ (k : Core). seen (core_after birth k acts)) (seen_change birth c core)
    ∙ seen_after birth (changed birth c core) acts
seen_after birth core (Notes what ∷ acts) = seen_after birth core acts

-- behind acts, cores are the same but for queues, where they were before
pub same_after : (birth : ℕ) (a b : Core) (acts : List Act) → seen a ≡ seen b → seen (core_after birth a acts) ≡ seen (core_after birth b acts)
same_after birth a b acts same =
    sym (seen_after birth a acts) ∙ ap (λ (k : Core). seen (core_after birth k acts)) same ∙ seen_after birth b acts

pub acted_after : (job : Job) (actor : Actor) (birth : ℕ) (s : State) (acts : List Act)
    → seen (fold (acted job actor birth) s acts).core ≡ seen (core_after birth s.core acts)
acted_after job actor birth s [] = refl
acted_after job actor birth s (Changes c ∷ acts) = acted_after job actor birth (acted job actor birth s (Changes c)) acts
acted_after job actor birth s (Notes what ∷ acts) =
    let next : State = acted job actor birth s (Notes what) in
    acted_after job actor birth next acts ∙ same_after birth next.core s.core acts refl

-- The core after a step is the one behind its acts, but for queues and births.
pub apart : (job : Job) (actor : Actor) (s : State) (acts : List Act)
    → unborn (seen (stepped job actor s acts).core) ≡ unborn (seen (core_after 0 (seen s.core) acts))
apart job actor s acts =
    let birth = birth_after s.trace acts in
    ap unborn (acted_after job actor birth s acts)
    ∙ ap seen (births_apart birth 0 s.core acts)
    ∙ ap unborn (sym (seen_after 0 s.core acts))

-- ---- acts in two parts

module _ (Ok : Core → Act → Type 0) where
  pub follow_both : (core : Core) (xs ys : List Act) → Follow Ok core xs → Follow Ok (core_after 0 core xs) ys → Follow Ok core (xs ++ ys)
  follow_both core [] ys h k = k
  follow_both core (Changes c ∷ xs) ys h k = (h.0, follow_both (changed 0 c core) xs ys h.1 k)
  follow_both core (Notes what ∷ xs) ys h k = (h.0, follow_both core xs ys h.1 k)

  pub follow_first : (core : Core) (xs ys : List Act) → Follow Ok core (xs ++ ys) → Follow Ok core xs
  follow_first core [] ys h = tt
  follow_first core (a ∷ xs) ys h = (h.0, follow_first (behind core a) xs ys h.1)

  pub follow_rest : (core : Core) (xs ys : List Act) → Follow Ok core (xs ++ ys) → Follow Ok (core_after 0 core xs) ys
  follow_rest core [] ys h = h
  follow_rest core (Changes c ∷ xs) ys h = follow_rest (changed 0 c core) xs ys h.1
  follow_rest core (Notes what ∷ xs) ys h = follow_rest core xs ys h.1

  -- what every act keeps holds behind all of them
  pub follow_keeps : (Inv : Core → Type 0) → ((now : Core) (a : Act) → Ok now a → Inv now → Inv (behind now a))
      → (core : Core) (acts : List Act) → Follow Ok core acts → Inv core → Inv (core_after 0 core acts)
  follow_keeps Inv keeps core [] h inv = inv
  follow_keeps Inv keeps core (Changes c ∷ acts) h inv =
      follow_keeps Inv keeps (changed 0 c core) acts h.1 (keeps core (Changes c) h.0 inv)
  follow_keeps Inv keeps core (Notes what ∷ acts) h inv = follow_keeps Inv keeps core acts h.1 (keeps core (Notes what) h.0 inv)

-- ---- what holds of the core, whatever waits and whenever frames were born

module _ (Ok : Core → Act → Type 0) (Inv : Core → Type 0) (keeps : (now : Core) (a : Act) → Ok now a → Inv now → Inv (behind now a))
    (alike : (a b : Core) → unborn (seen a) ≡ unborn (seen b) → Inv a → Inv b) where
  pub stepped_keeps : (job : Job) (actor : Actor) (s : State) (acts : List Act) → Follow Ok (seen s.core) acts → Inv s.core
      → Inv (stepped job actor s acts).core
  stepped_keeps job actor s acts h inv =
      let after : Core = core_after 0 (seen s.core) acts in
      alike after (stepped job actor s acts).core (sym (apart job actor s acts))
      (follow_keeps Ok Inv keeps (seen s.core) acts h (alike s.core (seen s.core) refl inv))

-- ---- schedules

-- What holds before the first step and is kept by each holds after every schedule. Each step is one from a state that a schedule leads to.
module _ (w : World) (Inv : State → Type 0) (opens : Inv (opening w.job))
    (steps : (front : List Actor) (actor : Actor) (acts : List Act) → Inv (state w front) → next_acts w (state w front) actor ≡ Some acts
    → Inv (stepped w.job actor (state w front) acts)) where
  kept_by : (front : List Actor) (actor : Actor) (next : Option (List Act)) → next_acts w (state w front) actor ≡ next → Inv (state w front)
      → Inv (step_by w (state w front) actor next)
  kept_by front actor None is inv = inv
  kept_by front actor (Some acts) is inv = steps front actor acts inv is

  run_last : (s : State) (front : List Actor) (actor : Actor) → run_from w s (front ++ actor ∷ []) ≡ step w (run_from w s front) actor
  run_last s [] actor = refl
  run_last s (first ∷ front) actor = run_last (step w s first) front actor

  kept_from : (front schedule : List Actor) (s : State) → state w front ≡ s → Inv s → Inv (run_from w s schedule)
  kept_from front [] s is inv = inv
  kept_from front (actor ∷ schedule) s is inv =
      let after : state w (front ++ actor ∷ []) ≡ step w s actor =
      run_last (opening w.job) front actor ∙ ap (λ (x : State). step w x actor) is in
      kept_from (front ++ actor ∷ []) schedule (step w s actor) after
      (subst (λ (x : State). Inv (step w x actor)) is
      (kept_by front actor (next_acts w (state w front) actor) refl (subst Inv (sym is) inv)))

  pub kept_after : (schedule : List Actor) → Inv (state w schedule)
  kept_after schedule = kept_from [] schedule (opening w.job) refl opens

-- The same of the core, where the acts of each step follow one another.
module _ (w : World) (Ok : State → Core → Act → Type 0) (Inv : Core → Type 0)
    (keeps : (s : State) (now : Core) (a : Act) → Ok s now a → Inv now → Inv (behind now a))
    (alike : (a b : Core) → unborn (seen a) ≡ unborn (seen b) → Inv a → Inv b) (opens : Inv (opening_core w.job))
    (follow : (front : List Actor) (actor : Actor) (acts : List Act) → Inv (state w front).core → next_acts w (state w front) actor ≡ Some acts
    → Follow (Ok (state w front)) (seen (state w front).core) acts) where
  opens_so : Inv (opening w.job).core
  unfolding opening
  opens_so = opens

  pub core_after_schedule : (schedule : List Actor) → Inv (state w schedule).core
  core_after_schedule schedule =
      kept_after w (λ s. Inv s.core) opens_so
      (λ front actor acts inv is. (let s = state w front in
      stepped_keeps (Ok s) Inv (keeps s) alike w.job actor s acts (follow front actor acts inv is) inv)) schedule
