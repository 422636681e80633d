use Rattle.std.proofs.Common.{◌≡◌, ◌<◌, ◌-◌, length}
use Rattle.type_states.specs.Lists.{list_at, without_last}
use Rattle.type_states.proofs.reading.chopped.Given as goal

abbrev pub invariant-loop : goal.invariant-loop
invariant-loop l = record {
  within : l.at < length l.lists;
  so_far : without_last (l.count - l.counter) (list_at l.lists l.at) ≡ without_last l.count (list_at l.lists l.place);
}
