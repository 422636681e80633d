use Rattle.std.proofs.Common.{◌≡◌, ◌-◌, false}
use Rattle.classfile_pool.specs.PoolReading.{places}
use Rattle.classfile_items.proofs.Many.{after}
use Rattle.classfile_pool.proofs.entry.places.Given as goal

abbrev pub invariant-places : goal.invariant-places
invariant-places l = places l.end false l.count l.bytes ≡ after l.entries (places l.end l.second (l.count - l.i) l.rest)
