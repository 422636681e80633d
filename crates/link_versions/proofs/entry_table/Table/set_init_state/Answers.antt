use Rattle.std.proofs.Common.{refl, ap, ◌∙◌}
use Rattle.link_versions.specs.Entries.{with_init_state, changed_at}
use Rattle.link_versions.proofs.Keyed.{AreKeyed-set, values_of-changed}
use Rattle.link_versions.proofs.entry_table.Table.set_init_state.Goals as goal

pub invariant_of-self : goal.invariant_of-self
invariant_of-self c = AreKeyed-set c.self.inside.map.entries c.args.place c.index_mut-entry.result.now _ c.self.invariant c.index_mut-entry.ensures.value refl

pub returns : goal.returns
returns c =
    values_of-changed (with_init_state c.args.state) c.self.inside.map.entries c.args.place c.index_mut-entry.result.now c.index_mut-entry.ensures.value
    ∙ ap (λ es. changed_at (with_init_state c.args.state) es c.args.place) c.self.view_is
