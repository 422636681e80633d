use Rattle.tool_answer.proofs.ChecksComputed.{refused_once, refused_in_order}
use Rattle.tool_answer.proofs.laws.check_rows.Goals as goal

pub returns-clause-once : goal.returns-clause-once
returns-clause-once c = refused_once

pub returns-clause-order : goal.returns-clause-order
returns-clause-order c = refused_in_order
