use Rattle.std.proofs.Common.{◌≡◌, take}
use Rattle.jv_names.specs.Utf8.{utf8}
use Rattle.jv_names.proofs.utf8.utf8_of.Given as goal

abbrev pub invariant-loop-unit : goal.invariant-loop-unit
invariant-loop-unit l = l.bytes.items ≡ utf8 (take l.unit-index l.unit-items)
