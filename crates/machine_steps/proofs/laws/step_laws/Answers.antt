use Rattle.machine_steps.proofs.Stepping.{counts_one, adds_records, output_grows, objects_stay, classes_stay}
use Rattle.machine_steps.proofs.NextCalls.{performs_next_call}
use Rattle.machine_steps.proofs.TakingSteps.{takes_no_other_call}
use Rattle.machine_steps.proofs.FewThreads.{few_threads}
use Rattle.machine_steps.proofs.LoadingOnce.{loads_once}
use Rattle.machine_steps.proofs.FailedLoads.{stays_failed}
use Rattle.machine_steps.proofs.FailingLoads.{fails_loads}
use Rattle.machine_steps.proofs.Births.{frames_are_born}
use Rattle.machine_steps.proofs.StayingCode.{code_stays}
use Rattle.machine_steps.proofs.DifferingNames.{names_differ}
use Rattle.machine_steps.proofs.CheckLaws.{passes_or_fails}
use Rattle.machine_steps.proofs.laws.step_laws.Goals as goal

pub returns-clause-counts : goal.returns-clause-counts
returns-clause-counts c = counts_one

pub returns-clause-records : goal.returns-clause-records
returns-clause-records c = adds_records

pub returns-clause-calls : goal.returns-clause-calls
returns-clause-calls c = performs_next_call

pub returns-clause-no_calls : goal.returns-clause-no_calls
returns-clause-no_calls c = takes_no_other_call

pub returns-clause-output : goal.returns-clause-output
returns-clause-output c = output_grows

pub returns-clause-objects : goal.returns-clause-objects
returns-clause-objects c = objects_stay

pub returns-clause-threads : goal.returns-clause-threads
returns-clause-threads c = few_threads

pub returns-clause-classes : goal.returns-clause-classes
returns-clause-classes c = classes_stay

pub returns-clause-loads : goal.returns-clause-loads
returns-clause-loads c = loads_once

pub returns-clause-failed : goal.returns-clause-failed
returns-clause-failed c = stays_failed

pub returns-clause-fails : goal.returns-clause-fails
returns-clause-fails c = fails_loads

pub returns-clause-code : goal.returns-clause-code
returns-clause-code c = code_stays

pub returns-clause-born : goal.returns-clause-born
returns-clause-born c = frames_are_born

pub returns-clause-names : goal.returns-clause-names
returns-clause-names c = names_differ

pub returns-clause-checks : goal.returns-clause-checks
returns-clause-checks c = passes_or_fails
