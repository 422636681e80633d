use Rattle.std.proofs.Common.{◌≡◌, ◌+◌, drop, length}
use Rattle.jv_names.specs.Utf8.{utf8}
use Rattle.classfile_write.proofs.text.text_len.Given as goal

abbrev pub invariant-loop-unit : goal.invariant-loop-unit
invariant-loop-unit l = l.len + length (utf8 (drop l.unit-index l.units)) ≡ length (utf8 l.units)
