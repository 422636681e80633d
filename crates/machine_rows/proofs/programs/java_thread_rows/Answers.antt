use Rattle.machine_rows.proofs.JavaHandsRow.{row as hands_row}
use Rattle.machine_rows.proofs.JavaSharedRow.{row as shared_row}
use Rattle.machine_rows.proofs.programs.java_thread_rows.Goals as goal

pub returns-clause-hands : goal.returns-clause-hands
returns-clause-hands c = hands_row

pub returns-clause-shared : goal.returns-clause-shared
returns-clause-shared c = shared_row
