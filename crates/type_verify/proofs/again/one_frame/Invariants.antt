use Rattle.type_verify.specs.Checkers.{checked_of}
use Rattle.type_verify.proofs.Gathering.{Sought}
use Rattle.type_verify.proofs.again.one_frame.Given as goal

abbrev pub invariant-loop-place : goal.invariant-loop-place
invariant-loop-place l = Sought (checked_of l.checker) l.fn.state l.at l.place l.state
