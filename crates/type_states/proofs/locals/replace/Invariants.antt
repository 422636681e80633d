use Rattle.std.proofs.Common.{◌≡◌, map}
use Rattle.type_frames.specs.RulesOfCalls.{replaced}
use Rattle.type_frames.specs.Seen.{type_seen}
use Rattle.type_states.proofs.Changes.{changed_to}
use Rattle.type_states.proofs.locals.replace.Given as goal

abbrev pub invariant-loop-i : goal.invariant-loop-i
invariant-loop-i l = map type_seen l.types ≡ changed_to (replaced (type_seen l.uninit) (type_seen l.made)) l.i l.initial.types
