use Rattle.std.proofs.Common.{refl, sym, ◌∙◌}
use Rattle.monitor_table.proofs.Indexed.{StandsAt-named, placed-notified}
use Rattle.monitor_table.proofs.Calls.{stands, state_of-here, IsTable-taken_back}
use Rattle.monitor_table.proofs.table.Monitors.take_back.Goals as goal

pub unwrap-key-requires : goal.unwrap-key-requires
unwrap-key-requires c =
    rw c.place_of.ensures
    (placed-notified c.args.thread c.self.inside.places.items c.self.inside.monitors c.args.object (rw (← c.self.view_is) at c.requires.notified))

pub index_mut-requires : goal.index_mut-requires
index_mut-requires c =
    rw (StandsAt-named _ _ c.args.object.0 c.unwrap-key.result c.self.invariant (sym c.place_of.ensures ∙ c.unwrap-key.ensures)).found refl

pub take_back-requires : goal.take_back-requires
take_back-requires c =
    let here = stands c.self.inside c.args.object c.unwrap-key.result _ c.self.invariant (sym c.place_of.ensures ∙ c.unwrap-key.ensures) c.index_mut.ensures.value in
    record { notified = rw (← c.self.view_is, state_of-here here) at c.requires.notified }

pub invariant_of-self : goal.invariant_of-self
invariant_of-self c =
    let here = stands c.self.inside c.args.object c.unwrap-key.result _ c.self.invariant (sym c.place_of.ensures ∙ c.unwrap-key.ensures) c.index_mut.ensures.value in
    (IsTable-taken_back here c.args.thread _ (rw (← c.self.view_is) at c.requires.notified) c.take_back.ensures).indexed

pub returns : goal.returns
returns c =
    let here = stands c.self.inside c.args.object c.unwrap-key.result _ c.self.invariant (sym c.place_of.ensures ∙ c.unwrap-key.ensures) c.index_mut.ensures.value in
    rw (← c.self.view_is) (IsTable-taken_back here c.args.thread _ (rw (← c.self.view_is) at c.requires.notified) c.take_back.ensures).shows
