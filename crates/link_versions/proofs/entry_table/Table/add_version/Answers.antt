use Rattle.std.proofs.Common.{◌≡◌, List, subst}
use Rattle.std.specs.Prelude.{OnOk, OnErr}
use Rattle.std.specs.Map.{values_of}
use Rattle.indexmap.specs.IndexMap.{set_value_at}
use Rattle.link_versions.specs.declared.class.Entry.{Entry}
use Rattle.link_versions.specs.Entries.{with_added, changed_at}
use Rattle.link_versions.proofs.Keyed.{AreKeyed-set, name_stays, values_of-added, values_of-kept}
use Rattle.link_versions.proofs.entry_table.Table.add_version.Goals as goal

pub invariant_of-self : goal.invariant_of-self
invariant_of-self c =
    let old = c.index_mut-entry.result.now in
    let new = c.add_version.new.self in
    AreKeyed-set c.self.inside.map.entries c.args.place old new c.self.invariant c.index_mut-entry.ensures.value
    (name_stays c.add_version.result c.args.version old new c.add_version.ensures.ok c.add_version.ensures.err)

pub returns-clause-ok : goal.returns-clause-ok
returns-clause-ok c =
    let es = c.self.inside.map.entries in
    let place = c.args.place in
    let new = c.add_version.new.self in
    subst (λ (l : List Entry). OnOk c.add_version.result (values_of (set_value_at es place new) ≡ changed_at (with_added c.args.version) l place)) c.self.view_is
    (values_of-added c.add_version.result c.args.version c.index_mut-entry.result.now new es place c.index_mut-entry.ensures.value c.add_version.ensures.ok)

pub returns-clause-err : goal.returns-clause-err
returns-clause-err c =
    let es = c.self.inside.map.entries in
    let place = c.args.place in
    let new = c.add_version.new.self in
    subst (λ (l : List Entry). OnErr c.add_version.result (values_of (set_value_at es place new) ≡ l)) c.self.view_is
    (values_of-kept c.add_version.result c.args.version c.index_mut-entry.result.now new es place c.index_mut-entry.ensures.value c.add_version.ensures.err)
