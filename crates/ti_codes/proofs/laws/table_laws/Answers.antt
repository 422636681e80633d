use Rattle.ti_codes.proofs.Rows.{rows_differ, rows_are_listed}
use Rattle.ti_codes.proofs.laws.table_laws.Goals as goal

pub returns-clause-differ : goal.returns-clause-differ
returns-clause-differ c = rows_differ

pub returns-clause-listed : goal.returns-clause-listed
returns-clause-listed c = rows_are_listed
