use Rattle.std.proofs.Common.{◌≡◌, length}
use Rattle.type_states.proofs.giving.tops.Given as goal

abbrev pub invariant-loop : goal.invariant-loop
invariant-loop l = length l.words.items ≡ l.counter
