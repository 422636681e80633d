use Rattle.type_verify.specs.Checkers.{checked_of}
use Rattle.type_verify.proofs.Gathering.{Gathered}
use Rattle.type_verify.proofs.again.all_frames.Given as goal

abbrev pub invariant-loop-place : goal.invariant-loop-place
invariant-loop-place l = Gathered (checked_of l.checker) l.fn.state l.place l.state l.frames.items
