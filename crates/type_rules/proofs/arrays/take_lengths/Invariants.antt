use Rattle.std.proofs.Common.{◌≡◌, ◌-◌, replicate}
use Rattle.type_frames.specs.declared.vtype.VType.TheVariants.{Integer}
use Rattle.type_frames.specs.States.{all_taken}
use Rattle.type_rules.proofs.arrays.take_lengths.Given as goal

abbrev pub invariant-loop : goal.invariant-loop
invariant-loop l = all_taken l.hierarchy (replicate (l.lengths - l.counter) Integer) l.state ≡ all_taken l.hierarchy (replicate l.lengths Integer) l.initial.state
