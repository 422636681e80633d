use Rattle.std.proofs.Common.{take}
use Rattle.type_frames.specs.StackMaps.{types_listed}
use Rattle.type_states.specs.Loading.{IsStack}
use Rattle.type_states.proofs.loading.listed_stack.Given as goal

abbrev pub invariant-loop-one : goal.invariant-loop-one
invariant-loop-one l = IsStack (types_listed l.pool (take l.one-index l.listed)) l.stack.items l.words
