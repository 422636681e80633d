-- The places of actors in the order in which they are picked, where there are no agents: the machine, and then the threads.
use Rattle.std.specs.Prelude.{ℕ, zero, suc, ◌+◌, ◌&&◌, nat_lt, nat_le, if◌then◌else◌}
use Rattle.ti_ids.specs.declared.actor.Actor.{Actor}
use Rattle.ti_ids.specs.declared.actor.Actor.TheVariants.{Vm, Thread, Agent}

-- the actor at a place
abbrev pub actor_at : ℕ → Actor
actor_at zero = Vm
actor_at (suc n) = Thread (record { 0 = suc n })

-- the place behind an actor, or behind all for one that is not there
abbrev pub start_of : Actor → ℕ → ℕ
start_of Vm threads = 1
start_of (Thread t) threads = if nat_lt 0 t.0 && nat_le t.0 threads then t.0 + 1 else threads + 1
start_of (Agent e) threads = threads + 1
