use Rattle.monitor_table.specs.Monitors.{with_one_notified}
use Rattle.monitor_table.proofs.Counted.{IsKept-with_one_notified}
use Rattle.monitor_table.proofs.Calls.{stands, IsTable-by_owner}
use Rattle.monitor_table.proofs.table.Monitors.notify.Goals as goal

pub invariant_of-self : goal.invariant_of-self
invariant_of-self c =
    let here = stands c.self.inside c.args.object c.in_ok-key.key _ c.self.invariant c.in_ok-key.ensures.place c.index_mut.ensures.value in
    (IsTable-by_owner here c.args.thread with_one_notified (IsKept-with_one_notified c.args.thread) _ c.in_ok-key.ensures.owner c.notify.ensures).indexed

pub returns-clause-notified : goal.returns-clause-notified
returns-clause-notified c =
    let here = stands c.self.inside c.args.object c.in_ok-key.key _ c.self.invariant c.in_ok-key.ensures.place c.index_mut.ensures.value in
    rw (← c.self.view_is) (IsTable-by_owner here c.args.thread with_one_notified (IsKept-with_one_notified c.args.thread) _ c.in_ok-key.ensures.owner c.notify.ensures).shows
