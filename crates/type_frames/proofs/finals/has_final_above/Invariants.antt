use Rattle.std.proofs.Common.{◌≡◌, ◌-◌, length}
use Rattle.std.specs.List.{list_any}
use Rattle.type_frames.specs.Hierarchies.{has_final, chain, chain_within}
use Rattle.type_frames.proofs.finals.has_final_above.Given as goal

abbrev pub invariant-loop : goal.invariant-loop
invariant-loop l = record {
  all : l.end ≡ length l.hierarchy;
  walked : list_any (has_final l.hierarchy l.name l.desc) (chain_within l.hierarchy (l.end - l.counter) l.above) ≡ list_any (has_final l.hierarchy l.name l.desc) (chain l.hierarchy l.class);
}
