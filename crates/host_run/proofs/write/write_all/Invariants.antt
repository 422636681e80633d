use Rattle.std.proofs.Common.{◌≡◌, ◌≤◌, ◌-◌, ◌++◌, take, length}
use Rattle.ti_port.specs.Port.{Told}
use Rattle.host_run.proofs.write.write_all.Given as goal

abbrev pub invariant-loop-sent : goal.invariant-loop-sent
invariant-loop-sent g l =
    let K = g.K.Sink in record {
      within : l.sent ≤ length l.text;
      held : Told (λ before now. now ≡ before ++ take l.sent l.text) (K.held l.fn.sink) (K.held l.sink);
      same : K.faults l.sink ≡ K.faults l.fn.sink;
    }

abbrev pub decreases-loop-sent : goal.decreases-loop-sent
decreases-loop-sent g l = length l.initial.text - l.sent
