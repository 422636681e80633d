use Rattle.machine_rows.proofs.EveryEventHeard.{row as every_row}
use Rattle.machine_rows.proofs.MonitorsHeard.{row as monitors_row}
use Rattle.machine_rows.proofs.agents.event_rows.Goals as goal

pub returns-clause-every : goal.returns-clause-every
returns-clause-every c = every_row

pub returns-clause-monitors : goal.returns-clause-monitors
returns-clause-monitors c = monitors_row
