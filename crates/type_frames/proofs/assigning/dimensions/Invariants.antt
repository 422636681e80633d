use Rattle.std.proofs.Common.{◌≡◌, ◌+◌, drop}
use Rattle.type_frames.specs.Types.{dimensions}
use Rattle.type_frames.proofs.assigning.dimensions.Given as goal

abbrev pub invariant-loop-i : goal.invariant-loop-i
invariant-loop-i l = dimensions l.text ≡ l.i + dimensions (drop l.i l.text)
