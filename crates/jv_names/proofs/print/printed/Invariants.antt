use Rattle.std.proofs.Common.{◌≡◌, ◌++◌, drop}
use Rattle.std.specs.Prelude.{flat_map}
use Rattle.jv_names.specs.Names.{printed_unit}
use Rattle.jv_names.proofs.print.printed.Given as goal

abbrev pub invariant-loop-unit : goal.invariant-loop-unit
invariant-loop-unit l = l.text.items ++ flat_map printed_unit (drop l.unit-index l.unit-items) ≡ flat_map printed_unit l.name
