use Rattle.std.proofs.Common.{◌≡◌}
use Rattle.std.specs.Prelude.{position}
use Rattle.class_tree.specs.Tree.{is_named}
use Rattle.class_tree.proofs.Named.{found_is, absent_is}
use Rattle.class_tree.proofs.class_file.ClassFile.field_at.Goals as goal

pub returns-clause-found : goal.returns-clause-found
returns-clause-found c =
    let class = c.args.self.now in
    let first : c.place_of.result ≡ position (is_named class.pool c.args.name.now c.args.desc.now) class.fields = cc in
    found_is class.pool c.args.name.now c.args.desc.now class.fields c.place_of.result first

pub returns-clause-absent : goal.returns-clause-absent
returns-clause-absent c =
    let class = c.args.self.now in
    let first : c.place_of.result ≡ position (is_named class.pool c.args.name.now c.args.desc.now) class.fields = cc in
    absent_is class.pool c.args.name.now c.args.desc.now class.fields c.place_of.result first
