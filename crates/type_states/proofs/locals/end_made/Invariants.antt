use Rattle.std.proofs.Common.{◌≡◌, map}
use Rattle.type_frames.specs.RulesOfFields.{topped}
use Rattle.type_frames.specs.Seen.{type_seen}
use Rattle.type_states.proofs.Changes.{changed_to}
use Rattle.type_states.proofs.locals.end_made.Given as goal

abbrev pub invariant-loop-i : goal.invariant-loop-i
invariant-loop-i l = map type_seen l.types ≡ changed_to (topped l.at) l.i l.initial.types
