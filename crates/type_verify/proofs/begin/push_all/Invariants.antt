use Rattle.std.proofs.Common.{◌≡◌, ◌++◌, map, take}
use Rattle.type_frames.specs.Types.{expanded}
use Rattle.type_frames.specs.Seen.{type_seen}
use Rattle.type_verify.proofs.begin.push_all.Given as goal

abbrev pub invariant-loop-t : goal.invariant-loop-t
invariant-loop-t l = map type_seen l.words.items ≡ map type_seen l.initial.words.items ++ expanded (map type_seen (take l.t-index l.types))
