-- Whether two are one actor.
use Rattle.std.specs.Prelude.{Bool, true, false, ◌==◌}
use Rattle.ti_ids.specs.declared.actor.Actor.{Actor}
use Rattle.ti_ids.specs.declared.actor.Actor.TheVariants.{Vm, Thread, Agent}

abbrev pub same_actor : Actor → Actor → Bool
same_actor Vm Vm = true
same_actor (Thread t) (Thread u) = t.0 == u.0
same_actor (Agent e) (Agent f) = e.0 == f.0
same_actor Vm (Thread u) = false
same_actor Vm (Agent f) = false
same_actor (Thread t) Vm = false
same_actor (Thread t) (Agent f) = false
same_actor (Agent e) Vm = false
same_actor (Agent e) (Thread u) = false
