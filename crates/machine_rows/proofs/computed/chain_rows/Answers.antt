use Rattle.machine_rows.proofs.HookChangesConstant.{row as hooked_row}
use Rattle.machine_rows.proofs.IncapableResultStays.{row as incapable_row}
use Rattle.machine_rows.proofs.ObsoleteThoughEqualBytes.{row as obsolete_row}
use Rattle.machine_rows.proofs.OrderOfFourGroups.{row as groups_row}
use Rattle.machine_rows.proofs.HookBreaksTheClass.{row as broken_row}
use Rattle.machine_rows.proofs.RestlessAgent.{row as restless_row}
use Rattle.machine_rows.proofs.computed.chain_rows.Goals as goal

pub returns-clause-hooked : goal.returns-clause-hooked
returns-clause-hooked c = hooked_row

pub returns-clause-incapable : goal.returns-clause-incapable
returns-clause-incapable c = incapable_row

pub returns-clause-obsolete : goal.returns-clause-obsolete
returns-clause-obsolete c = obsolete_row

pub returns-clause-groups : goal.returns-clause-groups
returns-clause-groups c = groups_row

pub returns-clause-broken : goal.returns-clause-broken
returns-clause-broken c = broken_row

pub returns-clause-restless : goal.returns-clause-restless
returns-clause-restless c = restless_row
