use Rattle.std.proofs.Common.{◌≡◌, take}
use Rattle.std.specs.List.{list_any}
use Rattle.classfile_pool.proofs.TextMarks.{stops, is_slash, is_angle}
use Rattle.classfile_pool.proofs.roles.marks_of.Given as goal

abbrev pub invariant-loop-unit : goal.invariant-loop-unit
invariant-loop-unit l = record {
  stop : l.stop ≡ list_any stops (take l.unit-index l.units);
  slash : l.slash ≡ list_any is_slash (take l.unit-index l.units);
  angle : l.angle ≡ list_any is_angle (take l.unit-index l.units);
}
