use Rattle.classfile_read.proofs.ClassLaws.{one_tree, read_back, written_back, tree_or_fault, faulty_spells_none}
use Rattle.classfile_read.proofs.NeverMemory.{no_memory}
use Rattle.classfile_read.proofs.Stays.{shows_at_once, shows_in_fronts, fronts_are_cut, behind_is_trailing}
use Rattle.classfile_read.proofs.laws.class_file_laws.Goals as goal

pub returns-clause-one_tree : goal.returns-clause-one_tree
returns-clause-one_tree c = one_tree

pub returns-clause-either : goal.returns-clause-either
returns-clause-either c = tree_or_fault

pub returns-clause-not_both : goal.returns-clause-not_both
returns-clause-not_both c = faulty_spells_none

pub returns-clause-read_back : goal.returns-clause-read_back
returns-clause-read_back c = read_back

pub returns-clause-written_back : goal.returns-clause-written_back
returns-clause-written_back c = written_back

pub returns-clause-no_memory : goal.returns-clause-no_memory
returns-clause-no_memory c = no_memory

pub returns-clause-at_once : goal.returns-clause-at_once
returns-clause-at_once c = shows_at_once

pub returns-clause-in_fronts : goal.returns-clause-in_fronts
returns-clause-in_fronts c = shows_in_fronts

pub returns-clause-cut : goal.returns-clause-cut
returns-clause-cut c = fronts_are_cut

pub returns-clause-trailing : goal.returns-clause-trailing
returns-clause-trailing c = behind_is_trailing
