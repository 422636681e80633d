use Rattle.std.proofs.Common.{◌≡◌, map, sym, subst}
use Rattle.base_set.specs.BaseSet.{base_set}
use Rattle.base_set.specs.BaseTrees.{base_tree}
use Rattle.base_set.specs.Says.{Says, AllSay}
use Rattle.base_set.proofs.TreeSays.{all_say}
use Rattle.base_set.proofs.Wholes.{whole}
use Rattle.base_set.proofs.classes.base_classes.Goals as goal

pub returns-clause-laid_out : goal.returns-clause-laid_out
returns-clause-laid_out c = rw (c.in_ok-add_errors.ensures, c.in_ok-add_classes.ensures, c.new-classes.ensures.items) (whole c.class_rows.result.now c.error_rows.result.now c.class_rows.ensures.said c.error_rows.ensures.said)

pub returns-clause-said : goal.returns-clause-said
returns-clause-said c =
    let trees : c.add_errors.new.classes.items ≡ map base_tree base_set =
    rw (c.in_ok-add_errors.ensures, c.in_ok-add_classes.ensures, c.new-classes.ensures.items) (whole c.class_rows.result.now c.error_rows.result.now c.class_rows.ensures.said c.error_rows.ensures.said) in
    subst (AllSay Says base_set) (sym trees) (all_say base_set)
