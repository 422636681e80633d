use Rattle.std.proofs.Common.{◌≡◌, ◌++◌, take}
use Rattle.jv_names.specs.Utf8.{utf8}
use Rattle.classfile_write.proofs.text.put_units.Given as goal

abbrev pub invariant-loop-unit : goal.invariant-loop-unit
invariant-loop-unit l = l.out.items ≡ l.initial.out.items ++ utf8 (take l.unit-index l.units)
