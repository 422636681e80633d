use Rattle.classfile_pool.proofs.TextFaults.{text_is_read, first_bad_is_fault, fault_is_first_bad}
use Rattle.classfile_pool.proofs.laws.text_laws.Goals as goal

pub returns-clause-read : goal.returns-clause-read
returns-clause-read c = text_is_read

pub returns-clause-bad : goal.returns-clause-bad
returns-clause-bad c = first_bad_is_fault

pub returns-clause-only : goal.returns-clause-only
returns-clause-only c = fault_is_first_bad
