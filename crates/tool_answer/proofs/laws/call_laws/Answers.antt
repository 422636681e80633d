use Rattle.tool_answer.proofs.OnlyRecords.{calls_only_record}
use Rattle.tool_answer.proofs.AllOrNone.{all_or_none}
use Rattle.tool_answer.proofs.OwnTags.{tags_its_own}
use Rattle.tool_answer.proofs.Orderly.{worlds_are_orderly}
use Rattle.tool_answer.proofs.Refused.{refused_does_nothing, asks_capable}
use Rattle.tool_answer.proofs.laws.call_laws.Goals as goal

pub returns-clause-records : goal.returns-clause-records
returns-clause-records c = calls_only_record

pub returns-clause-classes : goal.returns-clause-classes
returns-clause-classes c = all_or_none

pub returns-clause-tags : goal.returns-clause-tags
returns-clause-tags c = tags_its_own

pub returns-clause-orderly : goal.returns-clause-orderly
returns-clause-orderly c = worlds_are_orderly

pub returns-clause-refused : goal.returns-clause-refused
returns-clause-refused c = refused_does_nothing

pub returns-clause-capable : goal.returns-clause-capable
returns-clause-capable c = asks_capable
