use Rattle.std.proofs.Common.{◌≡◌, map, drop}
use Rattle.jv_names.specs.Names.{is_class_name}
use Rattle.jv_names.proofs.ClassNames.{rest_named}
use Rattle.jv_names.proofs.name.has_class_form.Given as goal

abbrev pub invariant-loop-letter : goal.invariant-loop-letter
invariant-loop-letter g l = let units = map g.T.Letter.unit_of l.text in is_class_name units ≡ rest_named l.begun (drop l.letter-index units)
