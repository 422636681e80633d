use Rattle.std.proofs.Common.{map, length}
use Rattle.type_frames.specs.Seen.{type_seen}
use Rattle.type_states.proofs.Assigned.{Walked}
use Rattle.type_states.proofs.accepting.words_accept.Given as goal

abbrev pub invariant-loop-t : goal.invariant-loop-t
invariant-loop-t l = Walked l.hierarchy (map type_seen l.types) (length l.types) l.lists l.place l.at l.words

abbrev pub decreases-loop-t : goal.decreases-loop-t
decreases-loop-t l = l.at
