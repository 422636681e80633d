use Rattle.std.proofs.Common.{◌≡◌, map, take}
use Rattle.type_frames.specs.Seen.{type_seen}
use Rattle.type_states.proofs.giving.types_held.Given as goal

abbrev pub invariant-loop-t : goal.invariant-loop-t
invariant-loop-t l = l.held.items ≡ map type_seen (take l.t-index l.types)
