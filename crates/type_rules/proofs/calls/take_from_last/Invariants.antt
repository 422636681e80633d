use Rattle.std.proofs.Common.{◌≡◌, ◌-◌, map, take, reverse, length}
use Rattle.type_frames.specs.States.{all_taken}
use Rattle.type_frames.specs.Seen.{type_seen}
use Rattle.type_rules.proofs.calls.take_from_last.Given as goal

abbrev pub invariant-loop-i : goal.invariant-loop-i
invariant-loop-i l = record {
  all : l.i-end ≡ length l.parameters;
  taken : all_taken l.hierarchy (reverse (map type_seen (take (l.i-end - l.i) l.parameters))) l.state ≡ all_taken l.hierarchy (reverse (map type_seen l.parameters)) l.initial.state;
}
