use Rattle.std.proofs.Common.{arith}
use Rattle.std.proofs.lemmas.Result.{err_from_is_err_and}
use Rattle.classfile_items.specs.Reading.{many}
use Rattle.classfile_items.proofs.Many.{many_next, many_stopped, many_done}
use Rattle.classfile_items.proofs.item.many.Goals as goal

pub items-preserved : goal.items-preserved
items-preserved g c =
    let item = g.R.ReadItem.finds c.args.reader.now c.args.end in
    many_next item c.args.count c.items.counter c.items.items c.push.new.self c.in_ok-item.item c.items.rest.now c.in_ok-item.behind.now (many item c.args.count c.args.bytes.now) (omega arith) c.items.invariant c.in_ok-item.ensures c.in_ok-push.ensures.ok

pub returns : goal.returns
returns g c =
    let item = g.R.ReadItem.finds c.args.reader.now c.args.end in
    many_done item c.args.count c.items.counter c.items.items c.items.rest.now (many item c.args.count c.args.bytes.now) (omega arith) c.items.invariant

pub returns-in_err-item : goal.returns-in_err-item
returns-in_err-item g c =
    let item = g.R.ReadItem.finds c.args.reader.now c.args.end in
    let p = err_from_is_err_and c.from_residual-in_err-item.result c.from_residual-in_err-item.ensures.1 in
    rw (p.1, p.2) (many_stopped item c.args.count c.items.counter c.items.items c.items.rest.now (many item c.args.count c.args.bytes.now) c.in_err-item.field-0.0 (omega arith) c.items.invariant c.in_err-item.ensures)
