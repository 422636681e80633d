use Rattle.std.proofs.Common.{inr, arith}
use Rattle.classfile_pool.proofs.Texts.{text_read, text_stopped}
use Rattle.classfile_pool.proofs.text.units.Goals as goal

pub returns-then-read-len : goal.returns-then-read-len
returns-then-read-len c =
    let stops = rw c.split_at.ensures.front at c.in_ok-units.ensures in
    rw c.split_at-2.ensures.back (text_read c.args.end c.args.len c.min-there.result c.args.bytes.now c.in_ok-units.units c.in_ok-units.unread.now (omega arith) stops c.if-read-len.true)

pub returns-else-read-len : goal.returns-else-read-len
returns-else-read-len c =
    let stops = rw c.split_at.ensures.front at c.in_ok-units.ensures in
    let fault = rw c.split_at-2.ensures.back at c.unit_fault.ensures in
    inr (text_stopped c.args.end c.args.len c.min-there.result c.args.bytes.now c.in_ok-units.units c.in_ok-units.unread.now c.unit_fault.result (omega arith) stops (omega arith) fault)
