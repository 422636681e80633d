use Rattle.type_frames.proofs.StateLaws.{agree}
use Rattle.type_frames.proofs.MethodLaws.{one_offset, not_both, one_fault, not_both_of_class}
use Rattle.type_frames.proofs.Answering.{checks_types}
use Rattle.type_frames.proofs.laws.type_laws.Goals as goal

pub returns-clause-agree : goal.returns-clause-agree
returns-clause-agree c = agree

pub returns-clause-one_offset : goal.returns-clause-one_offset
returns-clause-one_offset c = one_offset

pub returns-clause-not_both : goal.returns-clause-not_both
returns-clause-not_both c = not_both

pub returns-clause-one_fault : goal.returns-clause-one_fault
returns-clause-one_fault c = one_fault

pub returns-clause-not_both_of_class : goal.returns-clause-not_both_of_class
returns-clause-not_both_of_class c = not_both_of_class

pub returns-clause-computed : goal.returns-clause-computed
returns-clause-computed c = checks_types
