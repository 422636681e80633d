use Rattle.std.proofs.Common.{◌≡◌, ◌<◌, ◌≤◌, ◌++◌, map, drop, length}
use Rattle.type_frames.specs.Types.{expanded}
use Rattle.type_frames.specs.StackMaps.{filled}
use Rattle.type_frames.specs.Seen.{type_seen}
use Rattle.type_states.specs.Lists.{list_at}
use Rattle.type_states.proofs.loading.set_locals.Given as goal

abbrev pub invariant-loop-t : goal.invariant-loop-t
invariant-loop-t l = record {
  listed : l.at < length l.lists;
  count : l.words ≡ length (expanded (list_at l.lists l.at));
  within : l.words ≤ length l.locals;
  same_length : length l.locals ≡ length l.fn.locals;
  so_far : expanded (list_at l.lists l.at) ++ drop l.words (map type_seen l.locals) ≡ filled l.max_locals (list_at l.lists l.place);
}

abbrev pub decreases-loop-t : goal.decreases-loop-t
decreases-loop-t l = l.at
