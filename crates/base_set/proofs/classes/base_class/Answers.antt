use Rattle.std.proofs.Common.{◌∙◌, ◌++◌, refl, ap}
use Rattle.class_tree.specs.WellFormed.{is_well_formed}
use Rattle.base_set.proofs.TreeSteps.{Steps, built, ready, fields_room, methods_room}
use Rattle.base_set.specs.BaseTrees.{field_entries, method_entries}
use Rattle.base_set.specs.Rows.{class_of}
use Rattle.base_set.proofs.classes.base_class.Goals as goal

pub put_fields-requires : goal.put_fields-requires
put_fields-requires c =
    let class = class_of c.args.row.now in
    let interfaces = c.put_classes.new.pool in
    let fields = interfaces ++ field_entries class.fields in
    let s : Steps class c.put_text.new.pool c.put_class.new.pool c.put_super.new.pool interfaces fields (fields ++ method_entries class.methods) = record {
      code_is = rw c.new-pool.ensures at c.in_ok-put_text.ensures.entry;
      own_is = c.in_ok-this_class.ensures.entries;
      above_is = c.in_ok-super_class.ensures.entries;
      interfaces_is = c.in_ok-interfaces.ensures.entries;
      fields_is = refl;
      methods_is = refl;
    } in
    fields_room c.args.row.now s (ready c.args.row.now c.requires)

pub put_methods-requires-clause-room : goal.put_methods-requires-clause-room
put_methods-requires-clause-room c =
    let class = class_of c.args.row.now in
    let fields = c.put_fields.new.pool in
    let s : Steps class c.put_text.new.pool c.put_class.new.pool c.put_super.new.pool c.put_classes.new.pool fields (fields ++ method_entries class.methods) = record {
      code_is = rw c.new-pool.ensures at c.in_ok-put_text.ensures.entry;
      own_is = c.in_ok-this_class.ensures.entries;
      above_is = c.in_ok-super_class.ensures.entries;
      interfaces_is = c.in_ok-interfaces.ensures.entries;
      fields_is = c.in_ok-fields.ensures.entries;
      methods_is = refl;
    } in
    methods_room c.args.row.now s (ready c.args.row.now c.requires)

pub invariant_of-result : goal.invariant_of-result
invariant_of-result c =
    let s : Steps (class_of c.args.row.now) c.put_text.new.pool c.put_class.new.pool c.put_super.new.pool c.put_classes.new.pool c.put_fields.new.pool c.put_methods.new.pool = record {
      code_is = rw c.new-pool.ensures at c.in_ok-put_text.ensures.entry;
      own_is = c.in_ok-this_class.ensures.entries;
      above_is = c.in_ok-super_class.ensures.entries;
      interfaces_is = c.in_ok-interfaces.ensures.entries;
      fields_is = c.in_ok-fields.ensures.entries;
      methods_is = c.in_ok-methods.ensures.entries;
    } in
    ap is_well_formed (rw c.new.ensures (built (class_of c.args.row.now) s _ _ _ _ _ c.in_ok-this_class.ensures.index c.in_ok-super_class.ensures.index c.in_ok-interfaces.ensures.indices c.in_ok-fields.ensures.fields c.in_ok-methods.ensures.methods))
    ∙ (ready c.args.row.now c.requires).well_formed

pub returns : goal.returns
returns c =
    let s : Steps (class_of c.args.row.now) c.put_text.new.pool c.put_class.new.pool c.put_super.new.pool c.put_classes.new.pool c.put_fields.new.pool c.put_methods.new.pool = record {
      code_is = rw c.new-pool.ensures at c.in_ok-put_text.ensures.entry;
      own_is = c.in_ok-this_class.ensures.entries;
      above_is = c.in_ok-super_class.ensures.entries;
      interfaces_is = c.in_ok-interfaces.ensures.entries;
      fields_is = c.in_ok-fields.ensures.entries;
      methods_is = c.in_ok-methods.ensures.entries;
    } in
    rw c.new.ensures (built (class_of c.args.row.now) s _ _ _ _ _ c.in_ok-this_class.ensures.index c.in_ok-super_class.ensures.index c.in_ok-interfaces.ensures.indices c.in_ok-fields.ensures.fields c.in_ok-methods.ensures.methods)
