use Rattle.std.proofs.Common.{◌≡◌, map, drop}
use Rattle.type_frames.specs.States.{all_put}
use Rattle.type_frames.specs.Seen.{type_seen}
use Rattle.type_states.proofs.state.State.put_all.Given as goal

abbrev pub invariant-loop-t : goal.invariant-loop-t
invariant-loop-t l = all_put l.room (map type_seen (drop l.t-index l.types)) l.self ≡ all_put l.room (map type_seen l.types) l.initial.self
