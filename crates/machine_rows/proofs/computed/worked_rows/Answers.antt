use Rattle.machine_rows.proofs.AddPrintsFive.{row as add_row}
use Rattle.machine_rows.proofs.NumberEdges.{row as edges_row}
use Rattle.machine_rows.proofs.SuperclassInitializer.{row as superclass_row}
use Rattle.machine_rows.proofs.UncaughtException.{row as uncaught_row}
use Rattle.machine_rows.proofs.DeadlockIsStuck.{row as deadlock_row}
use Rattle.machine_rows.proofs.computed.worked_rows.Goals as goal

pub returns-clause-add : goal.returns-clause-add
returns-clause-add c = add_row

pub returns-clause-edges : goal.returns-clause-edges
returns-clause-edges c = edges_row

pub returns-clause-superclass : goal.returns-clause-superclass
returns-clause-superclass c = superclass_row

pub returns-clause-uncaught : goal.returns-clause-uncaught
returns-clause-uncaught c = uncaught_row

pub returns-clause-deadlock : goal.returns-clause-deadlock
returns-clause-deadlock c = deadlock_row
