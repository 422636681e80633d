use Rattle.std.proofs.Common.{refl, inl, inr, arith}
use Rattle.ti_port.proofs.Numbers.{contains_from_test}
use Rattle.ti_port.proofs.mem_sink.MemSinkSink.put.Goals as goal
use Rattle.ti_port.proofs.mem_sink.MemSinkSink.put.Goals.{then-contains-via-then-contains, then-contains-via-else-contains+then-count-self}

pub returns-then-contains-clause-failing : goal.returns-then-contains-clause-failing
returns-then-contains-clause-failing c =
    elim c.then-contains.branch [
      | then-contains-via-then-contains w ↦ (λ _. inl (grind (arith, contains_from_test)), λ _. refl)
      | then-contains-via-else-contains+then-count-self w ↦ (λ _. inr (grind arith), λ _. refl)
    ]
