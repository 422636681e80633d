use Rattle.classfile_code.proofs.CodeFaults.{code_fault_shows, only_code_fault}
use Rattle.classfile_code.proofs.laws.code_laws.Goals as goal

pub returns-clause-shows : goal.returns-clause-shows
returns-clause-shows c = code_fault_shows

pub returns-clause-only : goal.returns-clause-only
returns-clause-only c = only_code_fault
