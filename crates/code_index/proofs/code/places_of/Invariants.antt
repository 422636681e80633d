use Rattle.std.proofs.Common.{◌≡◌, length}
use Rattle.code_index.specs.Indexes.{AreBelow, ArePlaced}
use Rattle.code_index.proofs.code.places_of.Given as goal

abbrev pub invariant-loop-place : goal.invariant-loop-place
invariant-loop-place l = AreBelow l.instrs (length l.places.items) × ArePlaced l.instrs l.place l.places.items
