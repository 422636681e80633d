use Rattle.std.proofs.Common.{map, take}
use Rattle.type_frames.specs.StackMaps.{type_listed}
use Rattle.type_states.specs.Lists.{IsPut}
use Rattle.type_states.proofs.reading.put_listed.Given as goal

abbrev pub invariant-loop-listed : goal.invariant-loop-listed
invariant-loop-listed l = IsPut l.initial.lists l.lists l.place (map (type_listed l.pool) (take l.listed-index l.types)) l.at
