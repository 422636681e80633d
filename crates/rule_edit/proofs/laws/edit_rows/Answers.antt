use Rattle.rule_edit.proofs.Rows.{make_these, fail_these}
use Rattle.rule_edit.proofs.laws.edit_rows.Goals as goal

pub returns-clause-makes : goal.returns-clause-makes
returns-clause-makes c = make_these

pub returns-clause-fails : goal.returns-clause-fails
returns-clause-fails c = fail_these
