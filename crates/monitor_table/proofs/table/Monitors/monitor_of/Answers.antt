use Rattle.std.proofs.Common.{sym, ◌∙◌}
use Rattle.monitor_table.proofs.Indexed.{StandsAt-named, get-shown-placed, get-shown-absent, IsLawful-shown}
use Rattle.monitor_table.proofs.table.Monitors.monitor_of.Goals as goal

pub returns-in_err-key-clause-monitor : goal.returns-in_err-key-clause-monitor
returns-in_err-key-clause-monitor c =
    rw (c.from_residual.ensures, ← c.self.view_is) (sym (get-shown-absent c.self.inside.places.items c.self.inside.monitors c.args.object.0 (sym c.in_err-key.ensures)))

pub returns-clause-monitor : goal.returns-clause-monitor
returns-clause-monitor c =
    let at = sym c.in_ok-key.ensures in
    let here = StandsAt-named _ _ c.args.object.0 c.in_ok-key.key c.self.invariant at in
    rw (← c.self.view_is) (c.get.ensures ∙ here.found ∙ sym (get-shown-placed c.self.inside.places.items c.self.inside.monitors c.args.object.0 c.in_ok-key.key here.monitor at here.found))

pub returns-in_err-key-clause-lawful : goal.returns-in_err-key-clause-lawful
returns-in_err-key-clause-lawful c = rw (← c.self.view_is) (IsLawful-shown c.self.inside.places.items c.self.inside.monitors c.self.invariant)

pub returns-clause-lawful : goal.returns-clause-lawful
returns-clause-lawful c = rw (← c.self.view_is) (IsLawful-shown c.self.inside.places.items c.self.inside.monitors c.self.invariant)
