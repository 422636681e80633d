use Rattle.std.proofs.Common.{map, take}
use Rattle.type_frames.specs.Seen.{type_seen}
use Rattle.type_states.specs.Lists.{IsPut}
use Rattle.type_states.proofs.reading.put_seen.Given as goal

abbrev pub invariant-loop-t : goal.invariant-loop-t
invariant-loop-t l = IsPut l.initial.lists l.lists l.place (map type_seen (take l.t-index l.types)) l.at
