use Rattle.machine_rows.proofs.MethodsCompared as compared
use Rattle.machine_rows.proofs.statuses.compared_methods.Goals as goal

pub returns-clause-bodies : goal.returns-clause-bodies
returns-clause-bodies c = compared.bodies

pub returns-clause-constants : goal.returns-clause-constants
returns-clause-constants c = compared.constants

pub returns-clause-calls : goal.returns-clause-calls
returns-clause-calls c = compared.calls

pub returns-clause-padding : goal.returns-clause-padding
returns-clause-padding c = compared.padding

pub returns-clause-handlers : goal.returns-clause-handlers
returns-clause-handlers c = compared.handlers
