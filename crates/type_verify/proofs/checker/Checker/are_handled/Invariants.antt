use Rattle.std.proofs.Common.{◌≡◌, true, take}
use Rattle.std.specs.List.{list_all}
use Rattle.type_handlers.specs.Coverage.{passes_at}
use Rattle.type_frames.specs.TypeChecks.{is_handled}
use Rattle.type_verify.specs.Checkers.{checked_of}
use Rattle.type_verify.proofs.checker.Checker.are_handled.Given as goal

abbrev pub invariant-loop-place : goal.invariant-loop-place
invariant-loop-place l = list_all (passes_at l.handlers (is_handled (checked_of l.self) l.state)) (take l.place-index l.place-items) ≡ true
