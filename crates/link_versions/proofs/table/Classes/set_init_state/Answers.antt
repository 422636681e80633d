use Rattle.std.proofs.Common.{◌-◌, List, sym, ap, subst, ◌∙◌, arith}
use Rattle.link_versions.specs.Classes.{Class}
use Rattle.link_versions.specs.Changes.{IsThere, with_class, with_state}
use Rattle.link_versions.specs.Entries.{classes_of, with_init_state}
use Rattle.link_versions.proofs.Changed.{length-changed_at}
use Rattle.link_versions.proofs.Installing.{there_held, IsTable-in_state, classes_of-in_state}
use Rattle.link_versions.proofs.table.Classes.set_init_state.Goals as goal

pub set_init_state-requires : goal.set_init_state-requires
set_init_state-requires c = (there_held c.self.inside.table c.args.class (subst (λ (cs : List Class). IsThere cs c.args.class) (sym c.self.view_is) c.requires)).within

pub invariant_of-self : goal.invariant_of-self
invariant_of-self c =
    let table = c.self.inside.table in
    let there = subst (λ (cs : List Class). IsThere cs c.args.class) (sym c.self.view_is) c.requires in
    rw c.set_init_state.ensures
    (IsTable-in_state table c.args.class c.args.state c.self.invariant.0 there, omega (arith, length-changed_at (with_init_state c.args.state) table (c.args.class.0 - 1), c.self.invariant.1))

pub returns : goal.returns
returns c =
    ap classes_of c.set_init_state.ensures ∙ classes_of-in_state c.self.inside.table c.args.class c.args.state c.requires.0
    ∙ ap (with_class (with_state c.args.state) c.args.class) c.self.view_is
