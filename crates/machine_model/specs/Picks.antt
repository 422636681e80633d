-- The schedule of one worker: an actor goes on for as many steps in a row as the slice allows, and then the next one has its turn.
use Rattle.std.specs.Prelude.{ℕ, zero, suc, ◌+◌, List, [], ◌∷◌, ◌++◌, Option, Some, None, option_map, ◌&&◌, nat_lt, if◌then◌else◌, find}
use Rattle.ti_ids.specs.declared.actor.Actor.{Actor}
use Rattle.ti_ids.specs.declared.actor.Actor.TheVariants.{Vm}
use Rattle.ti_ids.specs.Actors.{same_actor}
use Rattle.machine_model.specs.Jobs.{Job}
use Rattle.machine_model.specs.Rules.{State, actors, is_enabled}
use Rattle.machine_model.specs.Replay.{step, opening}

-- those that stand before the actor, and then itself
abbrev pub up_to : Actor → List Actor → List Actor
up_to actor [] = []
up_to actor (a ∷ others) = if same_actor a actor then a ∷ [] else a ∷ up_to actor others

-- those that stand behind it
abbrev pub behind : Actor → List Actor → List Actor
behind actor [] = []
behind actor (a ∷ others) = if same_actor a actor then others else behind actor others

-- the actors strictly after one, wrapping round and ending at itself
abbrev pub round : Actor → List Actor → List Actor
round actor all = behind actor all ++ up_to actor all

-- the actor that has its turn after another one
abbrev pub next_actor : Job → State → Actor → Option Actor
next_actor job s current = find (is_enabled job s) (round current (actors job s.core))

-- the actor that makes the next step, and how many it has made in a row before it
abbrev pub pick : Job → State → Actor → ℕ → Option (Actor × ℕ)
pick job s current made =
    if nat_lt made job.limits.slice && is_enabled job s current then Some (current, made) else option_map (λ actor. (actor, 0)) (next_actor job s current)

-- at most so many steps
abbrev pub picked_from : ℕ → Job → State → Actor → ℕ → List Actor
picked_from zero job s current made = []
picked_from (suc most) job s current made =
    elim (pick job s current made) [ Some p ↦ p.0 ∷ picked_from most job (step job s p.0) p.0 (p.1 + 1) | None ↦ [] ]

-- up to the end, which comes at the step limit at the latest
abbrev pub picked : Job → List Actor
picked job = picked_from job.limits.steps job opening Vm 0
