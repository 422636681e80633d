use Rattle.machine_rows.proofs.OrderOfRefusals as order
use Rattle.machine_rows.proofs.RefusedRedefinitionChangesNothing as redefinition
use Rattle.machine_rows.proofs.EntryRuleIsNotStacked as entry
use Rattle.machine_rows.proofs.agents.refusal_rows.Goals as goal

pub returns-clause-order : goal.returns-clause-order
returns-clause-order c = order.row

pub returns-clause-redefinition : goal.returns-clause-redefinition
returns-clause-redefinition c = redefinition.row

pub returns-clause-entry : goal.returns-clause-entry
returns-clause-entry c = entry.row
