use Rattle.change_list.proofs.Changes.{last_decides, none_speaks, goes_on}
use Rattle.change_list.proofs.laws.change_laws.Goals as goal

pub returns-clause-last : goal.returns-clause-last
returns-clause-last g c = last_decides

pub returns-clause-silent : goal.returns-clause-silent
returns-clause-silent g c = none_speaks

pub returns-clause-more : goal.returns-clause-more
returns-clause-more g c = goes_on
