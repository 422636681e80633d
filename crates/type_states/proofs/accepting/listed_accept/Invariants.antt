use Rattle.std.proofs.Common.{map}
use Rattle.type_frames.specs.Seen.{type_seen}
use Rattle.type_frames.specs.StackMaps.{types_listed}
use Rattle.type_states.proofs.Assigned.{Compared}
use Rattle.type_states.proofs.accepting.listed_accept.Given as goal

abbrev pub invariant-loop-count : goal.invariant-loop-count
invariant-loop-count l = Compared l.hierarchy (map type_seen l.types) (types_listed l.pool l.listed) l.left l.count l.second

abbrev pub decreases-loop-count : goal.decreases-loop-count
decreases-loop-count l = l.count
