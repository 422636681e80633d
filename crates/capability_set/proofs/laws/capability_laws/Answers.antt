use Rattle.capability_set.proofs.Holding.{adds_these, takes_these}
use Rattle.capability_set.proofs.laws.capability_laws.Goals as goal

pub returns-clause-add : goal.returns-clause-add
returns-clause-add c = adds_these

pub returns-clause-relinquish : goal.returns-clause-relinquish
returns-clause-relinquish c = takes_these
