use Rattle.machine_rows.proofs.StatusesSeen as seen
use Rattle.machine_rows.proofs.statuses.seen_statuses.Goals as goal

pub returns-clause-classes : goal.returns-clause-classes
returns-clause-classes c = seen.classes

pub returns-clause-threads : goal.returns-clause-threads
returns-clause-threads c = seen.threads
