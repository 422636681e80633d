-- The actors that a schedule's line can name: threads and agents with numbers from 1 to 999999999.
use Rattle.std.specs.Prelude.{ℕ, ◌<◌, ◌^◌, List, [], ◌∷◌}
use Rattle.ti_ids.specs.declared.actor.Actor.{Actor}
use Rattle.ti_ids.specs.declared.actor.Actor.TheVariants.{Vm, Thread, Agent}

abbrev pub IsNumber : ℕ → Type 0
IsNumber number = (0 < number) × (number < 10 ^ 9)

abbrev pub IsNamed : Actor → Type 0
IsNamed Vm = Unit {0}
IsNamed (Thread thread) = IsNumber thread.0
IsNamed (Agent agent) = IsNumber agent.0

abbrev pub AllNamed : List Actor → Type 0
AllNamed [] = Unit {0}
AllNamed (actor ∷ schedule) = IsNamed actor × AllNamed schedule
