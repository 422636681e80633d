use Rattle.machine_steps.proofs.Ending.{none_after_end, has_step_left, picked_can_run, picked_ends, fits_limit, no_end_before}
use Rattle.machine_steps.proofs.Picking.{someone_is_enabled}
use Rattle.machine_steps.proofs.Statable.{states_named, states_schedule}
use Rattle.machine_steps.proofs.laws.schedule_laws.Goals as goal

pub returns-clause-ended : goal.returns-clause-ended
returns-clause-ended c = none_after_end

pub returns-clause-left : goal.returns-clause-left
returns-clause-left c = has_step_left

pub returns-clause-enabled : goal.returns-clause-enabled
returns-clause-enabled c = someone_is_enabled

pub returns-clause-runs : goal.returns-clause-runs
returns-clause-runs c = picked_can_run

pub returns-clause-ends : goal.returns-clause-ends
returns-clause-ends c = picked_ends

pub returns-clause-fits : goal.returns-clause-fits
returns-clause-fits c = fits_limit

pub returns-clause-before : goal.returns-clause-before
returns-clause-before c = no_end_before

pub returns-clause-named : goal.returns-clause-named
returns-clause-named c = states_named

pub returns-clause-states : goal.returns-clause-states
returns-clause-states c = states_schedule
