use Rattle.std.proofs.Common.{◌≡◌, take}
use Rattle.jv_names.proofs.units.Units.is_text.Given as goal

abbrev pub invariant-loop-i : goal.invariant-loop-i
invariant-loop-i l = take l.i l.self ≡ take l.i l.bytes
