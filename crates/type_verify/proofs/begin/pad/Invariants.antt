use Rattle.std.proofs.Common.{◌≡◌, ◌++◌, ◌-◌, length, map, replicate}
use Rattle.type_frames.specs.declared.vtype.VType.TheVariants as vtype
use Rattle.type_frames.specs.Seen.{type_seen}
use Rattle.type_verify.proofs.begin.pad.Given as goal

abbrev pub invariant-loop : goal.invariant-loop
invariant-loop l = map type_seen l.words.items ≡ map type_seen l.initial.words.items ++ replicate (l.counter - length l.initial.words.items) vtype.Top
