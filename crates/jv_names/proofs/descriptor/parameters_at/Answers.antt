use Rattle.std.proofs.lemmas.Result.{err_from_is_err_and}
use Rattle.jv_names.proofs.Descriptors.{types_more, fewer_units, unread-parameters}
use Rattle.jv_names.proofs.descriptor.parameters_at.Goals as goal

pub returns-in_err-parameter-clause-fault : goal.returns-in_err-parameter-clause-fault
returns-in_err-parameter-clause-fault c =
    let p = err_from_is_err_and c.from_residual.result c.from_residual.ensures.1 in
    rw (p.1, p.2) (unread-parameters c.args.units.now c.loop-after.parameters c.loop-after.rest.now c.in_err-parameter.field-0.0 c.loop-after.invariant c.in_err-parameter.ensures c.in_default.ensures)

pub loop-after-smaller : goal.loop-after-smaller
loop-after-smaller c = fewer_units c.in_ok-parameter.parameter c.loop-after.rest.now c.in_ok-parameter.after.now c.in_ok-parameter.ensures

pub loop-after-preserved : goal.loop-after-preserved
loop-after-preserved c =
    rw c.in_ok-parameters.ensures (types_more c.args.units.now c.loop-after.parameters c.in_ok-parameter.parameter c.loop-after.rest.now c.in_ok-parameter.after.now c.loop-after.invariant c.in_ok-parameter.ensures)
