use Rattle.std.proofs.Common.{◌≡◌, ◌<◌, length, drop, map, None}
use Rattle.type_frames.specs.Seen.{type_seen}
use Rattle.type_frames.specs.StackMaps.{frames_from}
use Rattle.type_states.specs.Lists.{list_at}
use Rattle.type_states.specs.Maps.{IsMap, frames_held}
use Rattle.type_states.specs.Reading.{bounds_of, IsLatest}
use Rattle.type_states.proofs.Mapping.{with_all}
use Rattle.type_states.proofs.maps.StackMap.read.Given as goal

abbrev pub invariant-loop-place : goal.invariant-loop-place
invariant-loop-place l = record {
  listed : l.before < length l.lists;
  is_map : IsMap l.bounds.pool.now l.bounds.max_locals l.bounds.max_stack l.lists l.found.items;
  latest : IsLatest l.last l.found.items;
  so_far : with_all (frames_held l.bounds.pool.now l.bounds.max_locals l.lists l.found.items) (frames_from (bounds_of l.bounds) l.place l.last (list_at l.lists l.before) (drop l.place l.entries))
      ≡ frames_from (bounds_of l.bounds) 0 None (map type_seen l.fn.first) l.entries;
}
