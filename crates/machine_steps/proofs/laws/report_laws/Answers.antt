use Rattle.machine_steps.proofs.Bounded.{tasks_are_bounded}
use Rattle.machine_steps.proofs.OwnFiles.{tasks_have_own_files}
use Rattle.machine_steps.proofs.Barring.{barred_exactly}
use Rattle.machine_steps.proofs.Reporting.{picked_is_reported, written_is_written, replays_same}
use Rattle.machine_steps.proofs.laws.report_laws.Goals as goal

pub returns-clause-bounded : goal.returns-clause-bounded
returns-clause-bounded c = tasks_are_bounded

pub returns-clause-files : goal.returns-clause-files
returns-clause-files c = tasks_have_own_files

pub returns-clause-barred : goal.returns-clause-barred
returns-clause-barred c = barred_exactly

pub returns-clause-picked : goal.returns-clause-picked
returns-clause-picked c = picked_is_reported

pub returns-clause-written : goal.returns-clause-written
returns-clause-written c = written_is_written

pub returns-clause-replays : goal.returns-clause-replays
returns-clause-replays c = replays_same
