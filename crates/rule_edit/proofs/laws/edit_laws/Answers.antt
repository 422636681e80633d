use Rattle.rule_edit.proofs.Growing.{index_grows}
use Rattle.rule_edit.proofs.Accepted.{made_is_accepted}
use Rattle.rule_edit.proofs.Turned.{bytes_of_bytes}
use Rattle.rule_edit.proofs.laws.edit_laws.Goals as goal

pub returns-clause-accepted : goal.returns-clause-accepted
returns-clause-accepted c = made_is_accepted

pub returns-clause-entries : goal.returns-clause-entries
returns-clause-entries c = index_grows

pub returns-clause-bytes : goal.returns-clause-bytes
returns-clause-bytes c = bytes_of_bytes
