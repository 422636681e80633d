use Rattle.std.proofs.Common.{◌≡◌, take}
use Rattle.type_frames.proofs.assigning.is_same.Given as goal

abbrev pub invariant-loop-i : goal.invariant-loop-i
invariant-loop-i l = take l.i l.units ≡ take l.i l.text
