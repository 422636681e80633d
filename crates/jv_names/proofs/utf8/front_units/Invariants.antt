use Rattle.std.proofs.Common.{◌≡◌, ◌++◌, length}
use Rattle.jv_names.specs.Utf8.{utf8, AreUnits}
use Rattle.jv_names.proofs.utf8.front_units.Given as goal

abbrev pub invariant-loop-unit : goal.invariant-loop-unit
invariant-loop-unit l = record {
  in_range : AreUnits l.units.items;
  parts : l.bytes ≡ utf8 l.units.items ++ l.rest;
}

abbrev pub decreases-loop-unit : goal.decreases-loop-unit
decreases-loop-unit l = length l.rest
