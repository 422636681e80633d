use Rattle.std.proofs.Common.{◌≡◌, ◌+◌, ◌-◌, ◌<◌, ◌≤◌, length}
use Rattle.std.specs.Prelude.{nat_lt}
use Rattle.std.specs.List.{All}
use Rattle.classfile_code.specs.CodeReading.{instrs, instrs_from}
use Rattle.classfile_code.proofs.CodeSteps.{then_found}
use Rattle.classfile_code.proofs.instrs.instrs.Given as goal

abbrev pub invariant-code : goal.invariant-code
invariant-code l = let pc = length l.code - length l.rest in record {
  found : instrs l.major l.pool l.end l.len l.bytes ≡ then_found l.list (instrs_from l.major l.pool l.end (nat_lt (length l.bytes) l.len) (l.at + pc) (l.len - length l.list) pc l.rest);
  within : All (λ p. p.0 < length l.code) l.list;
  shorter : length l.list + length l.rest ≤ length l.code;
}

abbrev pub decreases-code : goal.decreases-code
decreases-code l = length l.rest
