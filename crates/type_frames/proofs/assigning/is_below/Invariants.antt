use Rattle.std.proofs.Common.{◌≡◌, ◌-◌, length}
use Rattle.std.specs.Prelude.{bytes_eq}
use Rattle.std.specs.List.{list_any}
use Rattle.type_frames.specs.Hierarchies.{is_subclass, chain_within}
use Rattle.type_frames.proofs.assigning.is_below.Given as goal

abbrev pub invariant-loop : goal.invariant-loop
invariant-loop l = record {
  all : l.end ≡ length l.hierarchy;
  walked : list_any (bytes_eq l.of) (chain_within l.hierarchy (l.end - l.counter) l.class) ≡ is_subclass l.hierarchy l.name l.of;
}
