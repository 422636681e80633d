use Rattle.std.proofs.Common.{◌≤◌, ◌-◌, length}
use Rattle.host_run.proofs.Picked.{IsOnTheWay}
use Rattle.host_run.proofs.run.run_to_end.Given as goal

abbrev pub invariant-loop : goal.invariant-loop
invariant-loop l = record {
  way : IsOnTheWay l.machine l.fn.machine.job (l.steps - l.counter) l.current l.made;
  row : l.made ≤ l.counter;
  done : l.counter ≤ length l.machine.schedule;
}
