use Rattle.std.proofs.Common.{◌≡◌, refl, sym, ap}
use Rattle.monitor_table.proofs.Indexed.{StandsAt-named, state_of-placed, state_of-absent, same_thread}
use Rattle.monitor_table.proofs.Answered.{not_owned-free}
use Rattle.monitor_table.proofs.table.owned_place.Goals as goal

pub returns-in_default-clause-not_owner : goal.returns-in_default-clause-not_owner
returns-in_default-clause-not_owner c owned =
    let none = state_of-absent c.args.places.now.items c.args.monitors.now c.args.object (rw c.in_default.is at (sym c.place_of.ensures)) in
    not_owned-free _ c.args.thread none owned

pub index-requires : goal.index-requires
index-requires c =
    rw (StandsAt-named _ _ c.args.object.0 c.in-Some.key c.requires (sym c.in-Some.ensures)).found refl

pub returns-in-Some-owner-clause-owner : goal.returns-in-Some-owner-clause-owner
returns-in-Some-owner-clause-owner c =
    let was = state_of-placed c.args.places.now.items c.args.monitors.now c.args.object c.in-Some.key _ (sym c.in-Some.ensures) c.index.ensures in
    let same = same_thread c.in-Some-owner.owner c.args.thread c.if-owner-thread.true in
    cc

pub returns-in_default-owner-clause-not_owner : goal.returns-in_default-owner-clause-not_owner
returns-in_default-owner-clause-not_owner c owned =
    let was = state_of-placed c.args.places.now.items c.args.monitors.now c.args.object c.in-Some.key _ (sym c.in-Some.ensures) c.index.ensures in
    let same : c.in-Some-owner.owner ≡ c.args.thread = cc in
    c.if-owner-thread.false (ap (λ t. t.0) same)

pub returns-in_default-owner-2-clause-not_owner : goal.returns-in_default-owner-2-clause-not_owner
returns-in_default-owner-2-clause-not_owner c owned =
    let was = state_of-placed c.args.places.now.items c.args.monitors.now c.args.object c.in-Some.key _ (sym c.in-Some.ensures) c.index.ensures in
    cc
