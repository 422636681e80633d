use Rattle.std.proofs.Common.{refl}
use Rattle.monitor_table.proofs.Waits.{one_more}
use Rattle.monitor_table.proofs.monitor.Monitor.notify.Goals as goal

pub returns-then-self-len : goal.returns-then-self-len
returns-then-self-len c =
    let next = one_more c.self.inside.waits.items c.self.inside.notified in
    rw (next.0, next.1, ← c.self.view_is) refl
