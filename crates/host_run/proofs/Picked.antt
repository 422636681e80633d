-- The picked schedule, step by step.
use Rattle.std.proofs.Common.{◌≡◌, ◌∙◌, ◌<◌, ◌≤◌, length, length-append, ◌+◌, ◌-◌, ℕ, zero, suc, List, [], ◌∷◌, ◌++◌, Option, Some, None, Bool, false, refl, sym, ap, subst, arith, append_assoc}
use Rattle.std.proofs.lemmas.List.{append-nil}
use Rattle.ti_ids.specs.declared.actor.Actor.{Actor}
use Rattle.machine_model.specs.Jobs.{Job}
use Rattle.machine_model.specs.Rules.{State}
use Rattle.machine_model.specs.Replay.{step, state, opening}
use Rattle.machine_model.specs.Picks.{pick, picked, picked_from}
use Rattle.machine_model.proofs.Replays.{run_more}
use Rattle.machine_core.specs.MachineValue.{MachineValue}
use Rattle.machine_core.specs.Machines.{state_in}
use Rattle.host_run.specs.Runs.{after_picked}

abbrev pub Pick : Type 0
Pick = Actor × ℕ

abbrev pub going_on : ℕ → Job → State → Option Pick → List Actor
going_on most job s pick = elim pick [ Some p ↦ p.0 ∷ picked_from most job (step job s p.0) p.0 (p.1 + 1) | None ↦ [] ]

picked_more : (most : ℕ) (job : Job) (s : State) (current : Actor) (made : ℕ) (p : Pick) → Some p ≡ pick job s current made
    → picked_from (suc most) job s current made ≡ p.0 ∷ picked_from most job (step job s p.0) p.0 (p.1 + 1)
picked_more most job s current made p is = ap (going_on most job s) (sym is)

picked_none : (most : ℕ) (job : Job) (s : State) (current : Actor) (made : ℕ) → None ≡ pick job s current made → picked_from most job s current made ≡ []
picked_none zero job s current made is = refl
picked_none (suc most) job s current made is = ap (going_on most job s) (sym is)

-- the schedule so far and what is picked from there on are what is picked at all
pub record IsOnTheWay (machine : MachineValue) (job : Job) (left : ℕ) (current : Actor) (made : ℕ) : Type 0 where
  pub fixed : machine.job ≡ job
  pub live : machine.spent ≡ false
  pub rest : picked job ≡ machine.schedule ++ picked_from left job (state job machine.schedule) current made

whole_value : (m n : MachineValue) → m.job ≡ n.job → m.schedule ≡ picked n.job → m.spent ≡ n.spent → m ≡ after_picked n
whole_value m n j s p =
    ap (λ (x : Job). let r : MachineValue = record { job = x; schedule = m.schedule; spent = m.spent } in r) j
    ∙ ap (λ (x : List Actor). let r : MachineValue = record { job = n.job; schedule = x; spent = m.spent } in r) s
    ∙ ap (λ (x : Bool). let r : MachineValue = record { job = n.job; schedule = picked n.job; spent = x } in r) p

-- one step more
pub goes_on : (m n : MachineValue) (job : Job) (steps counter : ℕ) (current : Actor) (made : ℕ) (p : Pick) → counter < steps → IsOnTheWay m job (steps - counter) current made
    → (m.spent ≡ false → Some p ≡ pick m.job (state_in m) current made) → n ≡ record m { schedule = m.schedule ++ p.0 ∷ [] } → IsOnTheWay n job (steps - (counter + 1)) p.0 (p.1 + 1)
goes_on m n job steps counter current made p below way picks grew =
    let left : steps - counter ≡ suc (steps - (counter + 1)) = omega arith in
    let s = state job m.schedule in
    let most = steps - (counter + 1) in
    let picks' : Some p ≡ pick job s current made = subst (λ (x : Job). Some p ≡ pick x (state x m.schedule) current made) way.fixed (picks way.live) in
    subst (λ (x : MachineValue). IsOnTheWay x job most p.0 (p.1 + 1)) (sym grew) (record {
      fixed = way.fixed;
      live = way.live;
      rest =
          way.rest
          ∙ ap (λ (k : ℕ). m.schedule ++ picked_from k job s current made) left
          ∙ ap (λ (w : List Actor). m.schedule ++ w) (picked_more most job s current made p picks')
          ∙ sym (append_assoc m.schedule (p.0 ∷ []) (picked_from most job (step job s p.0) p.0 (p.1 + 1)))
          ∙ ap (λ (t : State). (m.schedule ++ p.0 ∷ []) ++ picked_from most job t p.0 (p.1 + 1)) (sym (run_more job opening m.schedule p.0));
    })

-- nobody is picked
pub stops : (m n : MachineValue) (left : ℕ) (current : Actor) (made : ℕ) → n.spent ≡ false → IsOnTheWay m n.job left current made
    → (m.spent ≡ false → None ≡ pick m.job (state_in m) current made) → m ≡ after_picked n
stops m n left current made live way none =
    let none' : None ≡ pick n.job (state n.job m.schedule) current made = subst (λ (x : Job). None ≡ pick x (state x m.schedule) current made) way.fixed (none way.live) in
    whole_value m n way.fixed
    (sym (way.rest ∙ ap (λ (w : List Actor). m.schedule ++ w) (picked_none left n.job (state n.job m.schedule) current made none') ∙ append-nil m.schedule))
    (way.live ∙ sym live)

-- a step makes the schedule longer by one
pub longer : (m n : MachineValue) (count : ℕ) (actor : Actor) → n ≡ record m { schedule = m.schedule ++ actor ∷ [] } → count ≤ length m.schedule → count + 1 ≤ length n.schedule
longer m n count actor grew least = omega (arith, ap (λ (x : MachineValue). length x.schedule) grew, length-append m.schedule (actor ∷ []), least)
