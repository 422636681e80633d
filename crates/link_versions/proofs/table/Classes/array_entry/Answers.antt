use Rattle.std.proofs.Common.{◌≡◌, ◌+◌, ◌∷◌, length, refl, sym, ap, ◌∙◌, arith}
use Rattle.jv_names.specs.declared.descriptor.FieldType.{FieldType}
use Rattle.link_versions.specs.declared.class.Entry.{Entry}
use Rattle.link_versions.specs.declared.class.EntryKind.TheVariants as entry_kinds
use Rattle.ti_ids.specs.declared.state.InitState.TheVariants as states
use Rattle.link_versions.specs.Classes.{number_of}
use Rattle.link_versions.specs.Orders.{lookup_order, superclasses, from_parent, ordered}
use Rattle.link_versions.specs.Changes.{element_by, array_class}
use Rattle.link_versions.specs.Entries.{classes_of}
use Rattle.link_versions.proofs.Tables.{length-classes_of}
use Rattle.link_versions.proofs.ArrayEntries.{array_sound, class_of-array}
use Rattle.link_versions.proofs.table.Classes.array_entry.Goals as goal

pub overflow_cast-number : goal.overflow_cast-number
overflow_cast-number c =
    let table = c.self.inside.table in
    let seen : length (classes_of table) ≡ length c.args.self.now = ap length c.self.view_is in
    omega (arith, length-classes_of table, seen, c.len.ensures, c.requires.room)

pub returns-clause-class : goal.returns-clause-class
returns-clause-class c = λ t is.
    let find = number_of c.args.self.now in
    let array = c.in_ok-array.array in
    let same : array ≡ c.requires.can.type = c.in_ok-array.ensures c.requires.can.type c.requires.can.named in
    let this : array ≡ t = c.in_ok-array.ensures t is in
    let entry : Entry = record {
      name = c.in_ok-name.name;
      parent = c.find-parent.result;
      interfaces = c.in_ok-interfaces.interfaces;
      order = c.in_ok-order.order;
      supers = c.in_ok-supers.supers;
      kind = entry_kinds.Array array.dimensions c.element.result;
      state = states.Initialized;
    } in
    class_of-array c.args.self.now entry c.args.name.now c.requires.can.type
    (record {
      fresh = rw c.in_ok-name.ensures c.requires.fresh;
      named = rw c.in_ok-name.ensures c.requires.can.named;
      there = c.requires.can.there;
      parent = c.find-parent.ensures;
      interfaces = c.in_ok-interfaces.ensures;
      kind = ap (entry_kinds.Array array.dimensions) c.element.ensures ∙ ap (λ (a : FieldType). entry_kinds.Array a.dimensions (element_by find a.element)) same;
    })
    c.in_ok-name.ensures refl
    ∙ ap (array_class find c.args.name.now) (sym same ∙ this)

pub returns-clause-sound : goal.returns-clause-sound
returns-clause-sound c =
    let table = c.self.inside.table in
    let classes = c.args.self.now in
    let find = number_of classes in
    let parent = c.find-parent.result in
    let number = c.len.result + 1 in
    let array = c.in_ok-array.array in
    let same : array ≡ c.requires.can.type = c.in_ok-array.ensures c.requires.can.type c.requires.can.named in
    let seen : length (classes_of table) ≡ length classes = ap length c.self.view_is in
    let size : c.len.result ≡ length classes = omega (arith, length-classes_of table, seen, c.len.ensures) in
    array_sound classes _ c.requires.can.type (record { 0 = number })
    (record {
      fresh = rw c.in_ok-name.ensures c.requires.fresh;
      named = rw c.in_ok-name.ensures c.requires.can.named;
      there = c.requires.can.there;
      parent = c.find-parent.ensures;
      interfaces = c.in_ok-interfaces.ensures;
      kind = ap (entry_kinds.Array array.dimensions) c.element.ensures ∙ ap (λ (a : FieldType). entry_kinds.Array a.dimensions (element_by find a.element)) same;
    })
    (record {
      last = omega (arith, size);
      looked_up =
          c.in_ok-order.ensures ∙ ap (λ is. ordered (lookup_order (classes_of table)) (record { 0 = number }) is parent) c.as_slice.ensures
          ∙ ap (λ cs. ordered (lookup_order cs) (record { 0 = number }) c.in_ok-interfaces.interfaces parent) c.self.view_is;
      upwards = c.in_ok-supers.ensures ∙ ap (λ cs. record { 0 = number } ∷ from_parent (superclasses cs) parent) c.self.view_is;
    })
