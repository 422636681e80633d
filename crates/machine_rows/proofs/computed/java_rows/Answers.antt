use Rattle.machine_rows.proofs.JavaArraysRow.{row as arrays_row}
use Rattle.machine_rows.proofs.JavaNamesRow.{row as names_row}
use Rattle.machine_rows.proofs.JavaFaultsRow.{row as faults_row}
use Rattle.machine_rows.proofs.JavaTextsRow.{row as texts_row}
use Rattle.machine_rows.proofs.JavaAboveRow.{row as above_row}
use Rattle.machine_rows.proofs.computed.java_rows.Goals as goal

pub returns-clause-arrays : goal.returns-clause-arrays
returns-clause-arrays c = arrays_row

pub returns-clause-names : goal.returns-clause-names
returns-clause-names c = names_row

pub returns-clause-faults : goal.returns-clause-faults
returns-clause-faults c = faults_row

pub returns-clause-texts : goal.returns-clause-texts
returns-clause-texts c = texts_row

pub returns-clause-above : goal.returns-clause-above
returns-clause-above c = above_row
