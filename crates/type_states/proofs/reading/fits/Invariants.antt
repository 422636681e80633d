use Rattle.std.proofs.Common.{◌≡◌, drop, length}
use Rattle.std.specs.Prelude.{nat_le}
use Rattle.type_frames.specs.Types.{expanded}
use Rattle.type_frames.specs.StackMaps.{types_listed}
use Rattle.type_states.proofs.reading.fits.Given as goal

abbrev pub invariant-loop-listed : goal.invariant-loop-listed
invariant-loop-listed l = nat_le (length (expanded (drop l.listed-index (types_listed l.pool l.types)))) l.left ≡ nat_le (length (expanded (types_listed l.pool l.types))) l.room
