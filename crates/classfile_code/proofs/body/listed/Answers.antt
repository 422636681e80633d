use Rattle.std.proofs.Common.{◌<◌, arith}
use Rattle.classfile_code.proofs.CodeSteps.{astray_within}
use Rattle.classfile_code.proofs.body.listed.Goals as goal

pub overflow_add-result : goal.overflow_add-result
overflow_add-result c =
    let lt : c.in-Some.pc < c.args.len = astray_within c.args.len c.in-Some.pc c.in_ok-listing.listing c.in_ok-listing.ensures.within c.in-Some.ensures in
    omega (arith, c.offset.ensures, c.from.ensures, c.in_ok-listing.ensures.whole)
