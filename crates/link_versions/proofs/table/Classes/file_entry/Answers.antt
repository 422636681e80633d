use Rattle.std.proofs.Common.{◌≡◌, ◌+◌, [], ◌∷◌, ◌++◌, length, ap, ◌∙◌, arith}
use Rattle.std.specs.Option.{option_and_then}
use Rattle.link_versions.specs.declared.class.EntryKind.TheVariants as entry_kinds
use Rattle.link_versions.specs.Classes.{number_of}
use Rattle.link_versions.specs.Orders.{lookup_order, superclasses, from_parent, ordered}
use Rattle.link_versions.specs.Entries.{classes_of}
use Rattle.link_versions.proofs.Tables.{length-classes_of, file_sound}
use Rattle.link_versions.proofs.table.Classes.file_entry.Goals as goal

pub overflow_cast-number : goal.overflow_cast-number
overflow_cast-number c =
    let table = c.self.inside.table in
    let seen : length (classes_of table) ≡ length c.args.self.now = ap length c.self.view_is in
    omega (arith, length-classes_of table, seen, c.len.ensures, c.requires.room)

pub returns-clause-sound : goal.returns-clause-sound
returns-clause-sound c =
    let table = c.self.inside.table in
    let classes = c.args.self.now in
    let parent = c.named-parent.result in
    let version = c.in_ok-new.field-0 in
    let seen : length (classes_of table) ≡ length classes = ap length c.self.view_is in
    let size : c.len.result ≡ length classes = omega (arith, length-classes_of table, seen, c.len.ensures) in
    let versions = c.in_ok-push.ensures.ok ∙ ap (λ vs. vs ++ version ∷ []) c.new-versions.ensures in
    file_sound classes _ version c.args.tree (record { 0 = c.len.result + 1 })
    (record {
      can = c.requires.can;
      named = c.in_ok-name.ensures;
      parent = c.named-parent.ensures ∙ ap (option_and_then (number_of classes)) c.super_name.ensures;
      interfaces = c.in_ok-interfaces.ensures;
      kind = ap entry_kinds.File versions;
      tree = c.in_ok-new.ensures.tree;
      ready = c.in_ok-new.ensures.ready;
    })
    (record {
      last = omega (arith, size);
      looked_up =
          c.in_ok-order.ensures ∙ ap (λ is. ordered (lookup_order (classes_of table)) (record { 0 = c.len.result + 1 }) is parent) c.as_slice.ensures
          ∙ ap (λ cs. ordered (lookup_order cs) (record { 0 = c.len.result + 1 }) c.in_ok-interfaces.interfaces parent) c.self.view_is;
      upwards = c.in_ok-supers.ensures ∙ ap (λ cs. record { 0 = c.len.result + 1 } ∷ from_parent (superclasses cs) parent) c.self.view_is;
    })
