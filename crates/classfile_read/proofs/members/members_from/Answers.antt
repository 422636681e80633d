use Rattle.std.proofs.Common.{arith}
use Rattle.std.proofs.lemmas.Result.{err_from_is_err_and}
use Rattle.classfile_read.proofs.MemberLists.{none_read, one_more_read, next_stopped, all_read}
use Rattle.classfile_read.proofs.members.members_from.Goals as goal

pub members-init : goal.members-init
members-init c =
    let r = c.args.reader.now in
    none_read r.major r.pool.now c.args.end r.kind c.args.count c.args.bytes.now c.in_ok-seen.seen c.new-members.result c.in_ok-seen.ensures c.new-members.ensures

pub members-preserved : goal.members-preserved
members-preserved c =
    let r = c.args.reader.now in
    let before = c.members.invariant in
    one_more_read r.major r.pool.now c.args.end r.kind c.args.count c.members.counter c.args.bytes.now c.members.rest.now c.in_ok-member.behind.now c.members.seen c.member.new.seen
    c.members.members c.push.new.self c.in_ok-member.member before (omega arith) (c.in_ok-member.ensures.read before.earlier before.remembers)
    (c.in_ok-member.ensures.remembered before.earlier before.remembers) c.in_ok-push.ensures.ok

pub returns : goal.returns
returns c =
    let r = c.args.reader.now in
    all_read r.major r.pool.now c.args.end r.kind c.args.count c.members.counter c.args.bytes.now c.members.rest.now c.members.seen c.members.members c.members.invariant (omega arith)

pub returns-in_err-member : goal.returns-in_err-member
returns-in_err-member c =
    let r = c.args.reader.now in
    let before = c.members.invariant in
    let p = err_from_is_err_and c.from_residual-in_err-member.result c.from_residual-in_err-member.ensures.1 in
    rw (p.1, p.2) (next_stopped r.major r.pool.now c.args.end r.kind c.args.count c.members.counter c.args.bytes.now c.members.rest.now c.members.seen c.members.members c.in_err-member.field-0.0 before (omega arith)
    (c.in_err-member.ensures.read before.earlier before.remembers))
