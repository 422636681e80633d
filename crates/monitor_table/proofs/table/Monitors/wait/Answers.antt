use Rattle.monitor_table.specs.Monitors.{gone_to_wait}
use Rattle.monitor_table.proofs.Counted.{IsKept-gone_to_wait}
use Rattle.monitor_table.proofs.Calls.{stands, IsTable-by_owner}
use Rattle.monitor_table.proofs.table.Monitors.wait.Goals as goal

pub invariant_of-self-2 : goal.invariant_of-self-2
invariant_of-self-2 c =
    let here = stands c.self.inside c.args.object c.in_ok-key.key _ c.self.invariant c.in_ok-key.ensures.place c.index_mut.ensures.value in
    (IsTable-by_owner here c.args.thread (gone_to_wait c.args.thread) (IsKept-gone_to_wait c.args.thread) _ c.in_ok-key.ensures.owner c.in_ok-wait.ensures.gone).indexed

pub returns-clause-gone : goal.returns-clause-gone
returns-clause-gone c =
    let here = stands c.self.inside c.args.object c.in_ok-key.key _ c.self.invariant c.in_ok-key.ensures.place c.index_mut.ensures.value in
    rw (← c.self.view_is) (IsTable-by_owner here c.args.thread (gone_to_wait c.args.thread) (IsKept-gone_to_wait c.args.thread) _ c.in_ok-key.ensures.owner c.in_ok-wait.ensures.gone).shows
