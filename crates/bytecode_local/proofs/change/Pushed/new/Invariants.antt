use Rattle.std.proofs.Common.{◌≡◌, length, take}
use Rattle.bytecode_local.proofs.change.Pushed.new.Given as goal

abbrev pub invariant-loop-place : goal.invariant-loop-place
invariant-loop-place l = (length l.held ≡ 6) × (take l.place l.held ≡ take l.place l.values)
