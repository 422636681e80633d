use Rattle.std.proofs.Common.{sym}
use Rattle.jv_names.proofs.DescriptorFlaws.{one_more_read, fewer_left, read_to_end, read_no_end}
use Rattle.jv_names.proofs.descriptor.floating_parameters.Goals as goal

pub loop-after-preserved : goal.loop-after-preserved
loop-after-preserved c = one_more_read c.args.units.now c.loop-after.floating c.loop-after.rest.now c.in_ok-parameter.parameter c.in_ok-parameter.after.now c.loop-after.invariant c.in_ok-parameter.ensures

pub loop-after-smaller : goal.loop-after-smaller
loop-after-smaller c = fewer_left c.loop-after.rest.now c.in_ok-parameter.parameter c.in_ok-parameter.after.now c.in_ok-parameter.ensures

pub returns-in-Some : goal.returns-in-Some
returns-in-Some c = sym (read_to_end c.args.units.now c.loop-after.floating c.loop-after.rest.now c.in-Some.after.now c.loop-after.invariant c.in-Some.ensures)

pub returns-in_err-parameter : goal.returns-in_err-parameter
returns-in_err-parameter c = rw c.from_residual.ensures (sym (read_no_end c.args.units.now c.loop-after.floating c.loop-after.rest.now c.loop-after.invariant c.in_err-parameter.ensures c.in_default.ensures))
