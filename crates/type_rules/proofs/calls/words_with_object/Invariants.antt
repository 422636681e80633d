use Rattle.std.proofs.Common.{◌≡◌, ◌+◌, ◌*◌, ◌≤◌, map, take, length}
use Rattle.type_frames.specs.Types.{expanded}
use Rattle.type_frames.specs.Seen.{type_seen}
use Rattle.type_rules.proofs.calls.words_with_object.Given as goal

abbrev pub invariant-loop-t : goal.invariant-loop-t
invariant-loop-t l = record {
  counted : l.words ≡ length (expanded (map type_seen (take l.t-index l.parameters))) + 1;
  bounded : l.words ≤ 2 * l.t-index + 1;
}
