use Rattle.std.proofs.Common.{refl, take, ◌∙◌, ap, arith}
use Rattle.monitor_table.proofs.Waits.{IsSome-position, taken_out}
use Rattle.monitor_table.proofs.monitor.Monitor.take_back.Goals as goal

pub unwrap-place-requires : goal.unwrap-place-requires
unwrap-place-requires c =
    let found = rw (← c.self.view_is) at c.requires.notified in
    rw (c.first_wait.ensures, c.deref.ensures.value) (IsSome-position c.args.thread (take c.self.inside.notified c.self.inside.waits.items) found)

pub remove-wait-requires : goal.remove-wait-requires
remove-wait-requires c =
    let found = rw (← c.self.view_is) at c.requires.notified in
    let out = taken_out c.args.thread c.self.inside.waits.items c.self.inside.notified _ _ c.self.invariant found (rw c.deref.ensures.value at c.first_wait.ensures) c.unwrap-place.ensures in
    omega (arith, out.within, c.self.invariant)

pub overflow_sub-self : goal.overflow_sub-self
overflow_sub-self c =
    let found = rw (← c.self.view_is) at c.requires.notified in
    let out = taken_out c.args.thread c.self.inside.waits.items c.self.inside.notified _ _ c.self.invariant found (rw c.deref.ensures.value at c.first_wait.ensures) c.unwrap-place.ensures in
    omega (arith, out.within)

pub returns : goal.returns
returns c =
    let found = rw (← c.self.view_is) at c.requires.notified in
    let out = taken_out c.args.thread c.self.inside.waits.items c.self.inside.notified _ _ c.self.invariant found (rw c.deref.ensures.value at c.first_wait.ensures) c.unwrap-place.ensures in
    let entries = ap (λ w. w.entries) c.remove-wait.ensures.value ∙ out.entries _ in
    rw (entries, c.remove-wait.ensures.items, out.front, out.behind, ← c.self.view_is) refl
