use Rattle.machine_rows.proofs.JavaStartingRow.{row as starting_row}
use Rattle.machine_rows.proofs.JavaSameRow.{row as same_row}
use Rattle.machine_rows.proofs.JavaStoresRow.{row as stores_row}
use Rattle.machine_rows.proofs.JavaOwnersRow.{row as owners_row}
use Rattle.machine_rows.proofs.JavaNumbersRow.{row as numbers_row}
use Rattle.machine_rows.proofs.JavaSupersRow.{row as supers_row}
use Rattle.machine_rows.proofs.JavaSwitchesRow.{row as switches_row}
use Rattle.machine_rows.proofs.programs.java_program_rows.Goals as goal

pub returns-clause-starting : goal.returns-clause-starting
returns-clause-starting c = starting_row

pub returns-clause-same : goal.returns-clause-same
returns-clause-same c = same_row

pub returns-clause-stores : goal.returns-clause-stores
returns-clause-stores c = stores_row

pub returns-clause-owners : goal.returns-clause-owners
returns-clause-owners c = owners_row

pub returns-clause-numbers : goal.returns-clause-numbers
returns-clause-numbers c = numbers_row

pub returns-clause-supers : goal.returns-clause-supers
returns-clause-supers c = supers_row

pub returns-clause-switches : goal.returns-clause-switches
returns-clause-switches c = switches_row
