use Rattle.std.proofs.Common.{◌≡◌, map, take, replicate}
use Rattle.type_frames.specs.declared.vtype.VType.TheVariants as vtype
use Rattle.type_frames.specs.Seen.{type_seen}
use Rattle.type_states.proofs.loading.clear.Given as goal

abbrev pub invariant-loop-t : goal.invariant-loop-t
invariant-loop-t l = map type_seen (take l.t-index l.locals) ≡ replicate l.t-index vtype.Top
