use Rattle.std.proofs.Common.{◌≡◌, ◌++◌, length, None}
use Rattle.std.specs.List.{flat_map, AllByRecursion}
use Rattle.class_code.specs.Spelling.{pair_bytes, Rises}
use Rattle.class_code.specs.Ranges.{PairFits}
use Rattle.class_code.specs.Faults.{last_key}
use Rattle.class_code.proofs.switch.pairs_at.Given as goal

abbrev pub invariant-loop : goal.invariant-loop
invariant-loop l = record {
  parts : l.bytes ≡ flat_map pair_bytes l.pairs.items ++ l.rest;
  count : length l.pairs.items ≡ l.counter;
  fits : AllByRecursion PairFits l.pairs.items;
  rising : Rises None l.pairs.items;
  last : l.last ≡ last_key None l.pairs.items;
}
