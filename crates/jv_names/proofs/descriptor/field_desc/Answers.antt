use Rattle.std.proofs.lemmas.Result.{err_from_is_err_and}
use Rattle.jv_names.proofs.Descriptors.{field-only, field-exact, field_fault-only}
use Rattle.jv_names.proofs.descriptor.field_desc.Goals as goal

pub returns-in_err-type_of-clause-only : goal.returns-in_err-type_of-clause-only
returns-in_err-type_of-clause-only c =
    let p = err_from_is_err_and c.from_residual.result c.from_residual.ensures.1 in
    rw (p.1, p.2) (field_fault-only c.args.text.now c.in_err-type_of.field-0.0 (rw c.as_slice.ensures at c.in_err-type_of.ensures.fault))

pub returns-clause-only : goal.returns-clause-only
returns-clause-only c = field-only c.args.text.now c.in_ok-type_of.field-0 (rw c.as_slice.ensures at c.in_ok-type_of.ensures.found)

pub returns-clause-exact : goal.returns-clause-exact
returns-clause-exact c = field-exact c.args.text.now c.in_ok-type_of.field-0 (rw c.as_slice.ensures at c.in_ok-type_of.ensures.found)
