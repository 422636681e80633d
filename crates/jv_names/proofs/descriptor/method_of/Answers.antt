use Rattle.std.specs.Prelude.{option_map}
use Rattle.std.proofs.lemmas.Result.{err_from_is_err_and}
use Rattle.jv_names.specs.Descriptors.{any_type}
use Rattle.jv_names.proofs.Descriptors.{result_fault-method, found-method, floating-method}
use Rattle.jv_names.proofs.descriptor.method_of.Goals as goal

pub returns-in_err-result-clause-fault : goal.returns-in_err-result-clause-fault
returns-in_err-result-clause-fault c =
    let p = err_from_is_err_and c.from_residual-in_err-result.result c.from_residual-in_err-result.ensures.1 in
    rw (p.1, p.2) (result_fault-method c.args.units.now c.in-Some.rest.now c.in_ok-parameters.rest.now c.in_ok-parameters.parameters c.in_err-result.field-0.0 c.in-Some.ensures c.in_ok-parameters.ensures.found c.in_err-result.ensures.fault)

pub returns-in-Some-parameters-clause-found : goal.returns-in-Some-parameters-clause-found
returns-in-Some-parameters-clause-found c =
    found-method c.args.units.now c.in-Some.rest.now c.in_ok-parameters.rest.now c.in-Some-parameters.parameters (option_map any_type c.in_ok-result.result) c.in-Some.ensures (rw c.in-Some-parameters.is at c.in_ok-parameters.ensures.found) c.in_ok-result.ensures.found

pub returns-in-None-clause-fault : goal.returns-in-None-clause-fault
returns-in-None-clause-fault c =
    floating-method c.args.units.now c.in-Some.rest.now c.in_ok-parameters.rest.now (option_map any_type c.in_ok-result.result) c.in-Some.ensures (rw c.in-None.is at c.in_ok-parameters.ensures.found) c.in_ok-result.ensures.found
