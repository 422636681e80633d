use Rattle.std.proofs.Common.{◌+◌, ◌-◌, ◌<◌, ◌^◌, List, sym, ap, subst, ◌∙◌, arith}
use Rattle.class_tree.specs.Trees.{Tree}
use Rattle.link_versions.specs.Classes.{Class, version_count}
use Rattle.link_versions.specs.Changes.{CanInstall, with_class, with_version}
use Rattle.link_versions.specs.Entries.{classes_of, with_added}
use Rattle.link_versions.proofs.Changed.{length-changed_at}
use Rattle.link_versions.proofs.Newest.{can_follow}
use Rattle.link_versions.proofs.Installing.{file_held, file_entry_at, IsTable-added, classes_of-added}
use Rattle.link_versions.proofs.table.Classes.install.Goals as goal

pub overflow_sub-class : goal.overflow_sub-class
overflow_sub-class c =
    let can = can_follow c.self.inside.table c.args.class c.args.tree c.self.invariant.0 (subst (λ (cs : List Class). CanInstall cs c.args.class c.args.tree) (sym c.self.view_is) c.requires.can) in
    let held = file_held c.self.inside.table c.args.class can.first can.is_first in
    omega (arith, held.held.positive)

pub add_version-requires-clause-there : goal.add_version-requires-clause-there
add_version-requires-clause-there c =
    let can = can_follow c.self.inside.table c.args.class c.args.tree c.self.invariant.0 (subst (λ (cs : List Class). CanInstall cs c.args.class c.args.tree) (sym c.self.view_is) c.requires.can) in
    (file_held c.self.inside.table c.args.class can.first can.is_first).held.within

pub add_version-requires-clause-file : goal.add_version-requires-clause-file
add_version-requires-clause-file c =
    let can = can_follow c.self.inside.table c.args.class c.args.tree c.self.invariant.0 (subst (λ (cs : List Class). CanInstall cs c.args.class c.args.tree) (sym c.self.view_is) c.requires.can) in
    file_entry_at c.self.inside.table c.args.class can.first (file_held c.self.inside.table c.args.class can.first can.is_first)

pub invariant_of-self-2 : goal.invariant_of-self-2
invariant_of-self-2 c =
    let table = c.self.inside.table in
    let version = c.in_ok-version.version in
    let n = c.args.class in
    let can =
    can_follow table n version.tree c.self.invariant.0
    (subst (λ (t : Tree). CanInstall (classes_of table) n t) (sym c.in_ok-version.ensures.tree) (subst (λ (cs : List Class). CanInstall cs n c.args.tree) (sym c.self.view_is) c.requires.can)) in
    let room : version_count (classes_of table) n + 1 < 2 ^ 32 = omega (arith, c.requires.room, ap (λ cs. version_count cs n) c.self.view_is) in
    rw c.in_ok-add_version.ensures.ok
    (IsTable-added table n version c.self.invariant.0 can room c.in_ok-version.ensures.ready, omega (arith, length-changed_at (with_added version) table (n.0 - 1), c.self.invariant.1))

pub returns-clause-installed : goal.returns-clause-installed
returns-clause-installed c =
    let table = c.self.inside.table in
    let version = c.in_ok-version.version in
    let n = c.args.class in
    let can = can_follow table n c.args.tree c.self.invariant.0 (subst (λ (cs : List Class). CanInstall cs n c.args.tree) (sym c.self.view_is) c.requires.can) in
    let held = file_held table n can.first can.is_first in
    ap classes_of c.in_ok-add_version.ensures.ok ∙ classes_of-added table n version held.held.positive
    ∙ ap (λ t. with_class (with_version t) n (classes_of table)) c.in_ok-version.ensures.tree ∙ ap (with_class (with_version c.args.tree) n) c.self.view_is
