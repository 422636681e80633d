use Rattle.std.proofs.Common.{◌≡◌, take}
use Rattle.std.specs.Prelude.{flat_map}
use Rattle.thread_frames.specs.Arguments.{places_of}
use Rattle.thread_frames.proofs.locals.Locals.begin.Given as goal

abbrev pub invariant-loop-argument : goal.invariant-loop-argument
invariant-loop-argument l = l.self ≡ flat_map places_of (take l.argument-index l.arguments)
