use Rattle.std.proofs.Common.{sym, ◌∙◌}
use Rattle.monitor_table.proofs.Calls.{stands, entries-here, IsTable-left, IsTable-removed}
use Rattle.monitor_table.proofs.table.Monitors.exit.Goals as goal

pub exit-requires : goal.exit-requires
exit-requires c =
    let here = stands c.self.inside c.args.object c.in_ok-key.key _ c.self.invariant c.in_ok-key.ensures.place c.index_mut-monitor.ensures.value in
    record { entered = entries-here here c.args.thread c.in_ok-key.ensures.owner }

pub invariant_of-self : goal.invariant_of-self
invariant_of-self c =
    let here = stands c.self.inside c.args.object c.in_ok-key.key _ c.self.invariant c.in_ok-key.ensures.place c.index_mut-monitor.ensures.value in
    let unused = sym c.is_free.ensures ∙ c.if-is_free.true in
    (IsTable-removed here c.clear.new.places.items c.remove.new.self _ c.exit.ensures unused c.clear.ensures c.remove.ensures.updates).indexed

pub invariant_of-self-else-is_free : goal.invariant_of-self-else-is_free
invariant_of-self-else-is_free c =
    let here = stands c.self.inside c.args.object c.in_ok-key.key _ c.self.invariant c.in_ok-key.ensures.place c.index_mut-monitor.ensures.value in
    (IsTable-left here _ c.exit.ensures (sym c.is_free.ensures ∙ c.if-is_free.false)).indexed

pub returns-then-is_free-clause-left : goal.returns-then-is_free-clause-left
returns-then-is_free-clause-left c =
    let here = stands c.self.inside c.args.object c.in_ok-key.key _ c.self.invariant c.in_ok-key.ensures.place c.index_mut-monitor.ensures.value in
    let unused = sym c.is_free.ensures ∙ c.if-is_free.true in
    rw (← c.self.view_is) (IsTable-removed here c.clear.new.places.items c.remove.new.self _ c.exit.ensures unused c.clear.ensures c.remove.ensures.updates).shows

pub returns-else-is_free-clause-left : goal.returns-else-is_free-clause-left
returns-else-is_free-clause-left c =
    let here = stands c.self.inside c.args.object c.in_ok-key.key _ c.self.invariant c.in_ok-key.ensures.place c.index_mut-monitor.ensures.value in
    rw (← c.self.view_is) (IsTable-left here _ c.exit.ensures (sym c.is_free.ensures ∙ c.if-is_free.false)).shows
