use Rattle.std.proofs.Common.{arith}
use Rattle.monitor_table.proofs.Entries.{adds_none}
use Rattle.monitor_table.proofs.law.monitor_laws.Goals as goal

pub returns-clause-entered : goal.returns-clause-entered
returns-clause-entered c thread m = omega arith

pub returns-clause-others : goal.returns-clause-others
returns-clause-others c thread m = adds_none thread m
