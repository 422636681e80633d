-- The schedule of one worker: an actor goes on for as many steps in a row as the slice allows, and then the next one has its turn. The
-- slice is the job's, and of the run's world nothing but this goes by it.
use Rattle.std.specs.Prelude.{ℕ, zero, suc, ◌+◌, List, [], ◌∷◌, ◌++◌, Option, Some, None, option_map, ◌&&◌, nat_lt, if◌then◌else◌, find}
use Rattle.ti_ids.specs.declared.actor.Actor.{Actor}
use Rattle.ti_ids.specs.declared.actor.Actor.TheVariants.{Vm}
use Rattle.ti_ids.specs.Actors.{same_actor}
use Rattle.machine_state.specs.Acts.{State}
use Rattle.machine_steps.specs.World.{World}
use Rattle.machine_steps.specs.Ends.{actors, is_enabled}
use Rattle.machine_steps.specs.Replay.{step, opening}

-- those that stand before the actor, and then itself
abbrev pub up_to : Actor → List Actor → List Actor
up_to actor [] = []
up_to actor (a ∷ others) = if same_actor a actor then a ∷ [] else a ∷ up_to actor others

-- those that stand behind it
abbrev pub behind : Actor → List Actor → List Actor
behind actor [] = []
behind actor (a ∷ others) = if same_actor a actor then others else behind actor others

-- the actors strictly after one, wrapping round and ending at itself
abbrev pub round : Actor → List Actor → List Actor
round actor all = behind actor all ++ up_to actor all

-- the actor that has its turn after another one
abbrev pub next_actor : World → State → Actor → Option Actor
next_actor w s current = find (is_enabled w s) (round current (actors w.job s))

module _ (slice : ℕ) (w : World) where
  -- the actor that makes the next step, and how many it has made in a row before it
  abbrev pub pick : State → Actor → ℕ → Option (Actor × ℕ)
  pick s current made =
      if nat_lt made slice && is_enabled w s current then Some (current, made) else option_map (λ actor. (actor, 0)) (next_actor w s current)

  -- at most so many steps
  abbrev pub picked_from : ℕ → State → Actor → ℕ → List Actor
  picked_from zero s current made = []
  picked_from (suc most) s current made =
      elim (pick s current made) [ Some p ↦ p.0 ∷ picked_from most (step w s p.0) p.0 (p.1 + 1) | None ↦ [] ]

  -- up to the end, which comes at the step limit at the latest
  abbrev pub picked : List Actor
  picked = picked_from w.job.limits.steps (opening w.job) Vm 0
