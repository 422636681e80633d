use Rattle.machine_rows.proofs.RefusedWords.{words, counts}
use Rattle.machine_rows.proofs.RefusedFetches.{fetches, lengths}
use Rattle.machine_rows.proofs.RefusedClasses.{classes}
use Rattle.machine_rows.proofs.RefusedAgents.{agents}
use Rattle.machine_rows.proofs.RefusedSchedules.{schedules}
use Rattle.machine_rows.proofs.refused.refused_rows.Goals as goal

pub returns-clause-words : goal.returns-clause-words
returns-clause-words c = words

pub returns-clause-fetches : goal.returns-clause-fetches
returns-clause-fetches c = fetches

pub returns-clause-lengths : goal.returns-clause-lengths
returns-clause-lengths c = lengths

pub returns-clause-counts : goal.returns-clause-counts
returns-clause-counts c = counts

pub returns-clause-classes : goal.returns-clause-classes
returns-clause-classes c = classes

pub returns-clause-agents : goal.returns-clause-agents
returns-clause-agents c = agents

pub returns-clause-schedules : goal.returns-clause-schedules
returns-clause-schedules c = schedules
