use Rattle.std.proofs.Common.{refl, sym, ap, ◌∙◌}
use Rattle.std.specs.FinMap.{insert}
use Rattle.monitor_table.specs.Monitors.{entered}
use Rattle.monitor_table.proofs.Indexed.{StandsAt-named, get-shown-absent, state_of-absent}
use Rattle.monitor_table.proofs.Calls.{stands, state_of-here, IsTable-entered}
use Rattle.monitor_table.proofs.Answered.{TellsOwner-err, TellsOwner-free, TellsOwner-entered, TellsOwner-owned, OnErr-always}
use Rattle.monitor_table.proofs.table.Monitors.enter.Goals as goal

pub add-requires : goal.add-requires
add-requires c =
    let absent = rw c.in_default.is at (sym c.place_of.ensures) in
    record { free = rw (← c.self.view_is) (get-shown-absent c.self.inside.places.items c.self.inside.monitors c.args.object.0 absent) }

pub returns-in_err-add-clause-owned : goal.returns-in_err-add-clause-owned
returns-in_err-add-clause-owned c other =
    let absent = rw c.in_default.is at (sym c.place_of.ensures) in
    let unused = rw c.self.view_is at (state_of-absent c.self.inside.places.items c.self.inside.monitors c.args.object absent) in
    TellsOwner-err _ c.args.thread _ other unused c.from_residual.ensures.0

pub returns-in_err-add-clause-memory : goal.returns-in_err-add-clause-memory
returns-in_err-add-clause-memory c =
    let absent = rw c.in_default.is at (sym c.place_of.ensures) in
    OnErr-always _ (rw c.self.view_is at (state_of-absent c.self.inside.places.items c.self.inside.monitors c.args.object absent))

pub returns-in_default-clause-owned : goal.returns-in_default-clause-owned
returns-in_default-clause-owned c other =
    let absent = rw c.in_default.is at (sym c.place_of.ensures) in
    let unused = rw c.self.view_is at (state_of-absent c.self.inside.places.items c.self.inside.monitors c.args.object absent) in
    TellsOwner-free _ c.args.thread other unused

pub returns-in_default-clause-entered : goal.returns-in_default-clause-entered
returns-in_default-clause-entered c is =
    let absent = rw c.in_default.is at (sym c.place_of.ensures) in
    let unused = rw c.self.view_is at (state_of-absent c.self.inside.places.items c.self.inside.monitors c.args.object absent) in
    c.in_ok-add.ensures.added ∙ ap (λ m. insert c.args.self.now c.args.object.0 (entered c.args.thread m)) (sym unused)

pub index-requires : goal.index-requires
index-requires c =
    rw (StandsAt-named _ _ c.args.object.0 c.in-Some.key c.self.invariant (sym c.in-Some.ensures)).found refl

pub returns-in-Some-other_owner-clause-owned : goal.returns-in-Some-other_owner-clause-owned
returns-in-Some-other_owner-clause-owned c other =
    let here = stands c.self.inside c.args.object c.in-Some.key _ c.self.invariant (sym c.in-Some.ensures) c.index.ensures in
    let was = rw c.self.view_is at (state_of-here here) in
    TellsOwner-owned _ _ c.args.thread _ _ other was c.in-Some-other_owner.is c.other_owner.ensures

pub enter-requires : goal.enter-requires
enter-requires c =
    let here = stands c.self.inside c.args.object c.in-Some.key _ c.self.invariant (sym c.in-Some.ensures) c.index_mut.ensures.value in
    record { countable = rw (← c.self.view_is, state_of-here here) at c.requires.countable }

pub invariant_of-self : goal.invariant_of-self
invariant_of-self c =
    let here = stands c.self.inside c.args.object c.in-Some.key _ c.self.invariant (sym c.in-Some.ensures) c.index_mut.ensures.value in
    (IsTable-entered here c.args.thread _ c.enter.ensures).indexed

pub returns-clause-owned : goal.returns-clause-owned
returns-clause-owned c other =
    let here = stands c.self.inside c.args.object c.in-Some.key _ c.self.invariant (sym c.in-Some.ensures) c.index.ensures in
    let was = rw c.self.view_is at (state_of-here here) in
    TellsOwner-entered _ _ c.args.thread _ other was c.in_default-other_owner.is c.other_owner.ensures

pub returns-clause-entered : goal.returns-clause-entered
returns-clause-entered c is =
    let here = stands c.self.inside c.args.object c.in-Some.key _ c.self.invariant (sym c.in-Some.ensures) c.index_mut.ensures.value in
    rw (← c.self.view_is) (IsTable-entered here c.args.thread _ c.enter.ensures).shows
