use Rattle.classfile_read.proofs.MemberLists.{HaveBeenRead}
use Rattle.classfile_read.proofs.members.members_from.Given as goal

abbrev pub invariant-members : goal.invariant-members
invariant-members l = HaveBeenRead l.reader.major l.reader.pool.now l.end l.reader.kind l.count l.counter l.bytes l.rest l.seen l.members
